-- Rows of a table without valid time hold always, and are nothing but their declared values.
use Rattle.std.proofs.Common.{◌≡◌, true, false, cond, List, [], ◌∷◌, length, map, take, drop, refl, ap, ◌∙◌}
use Rattle.std.proofs.lemmas.Bool.{and_from}
use Rattle.std.proofs.Math.Bool.{and-true}
use Rattle.std.specs.Prelude.{◌&&◌, slice_get, unwrap_or}
use Rattle.std.specs.List.{list_all}
use Rattle.std.specs.Option.{option_and_then}
use Rattle.wm_base.specs.Period.{always, overlaps, shared}
use Rattle.wm_base.specs.declared.row.Row.{Row}
use Rattle.wm_base.specs.declared.value.Value.{Value}
use Rattle.wm_spec.specs.Operands.{period_of}
use Rattle.wm_spec.specs.declared.record.table.Table.{Table}
use Rattle.wm_dml.specs.Changing.{declared_values, row_period, all_overlap, row_key}
use Rattle.wm_dml.specs.Standing.{stands_in, is_period_alone, is_shown, all_stand, keys_of}

pub always_shared : shared always always ≡ always
always_shared = refl

pub plain_values : (t : Table) (vs : List Value) → t.valid ≡ false → declared_values t vs ≡ vs
plain_values t vs plain = ap (λ valid. cond valid (take (length t.columns) vs) vs) plain

pub plain_period : (t : Table) (row : Row) → t.valid ≡ false → row_period t row ≡ always
plain_period t row plain = ap (λ valid. cond valid (unwrap_or (option_and_then period_of (slice_get row.values (length t.columns))) always) always) plain

pub plain_shared : (t : Table) (row : Row) → t.valid ≡ false → shared (row_period t row) always ≡ always
plain_shared t row plain = ap (λ p. shared p always) (plain_period t row plain) ∙ always_shared

pub plain_overlap : (t : Table) (rows : List Row) → t.valid ≡ false → all_overlap t always rows ≡ true
plain_overlap t [] plain = refl
plain_overlap t (row ∷ rows) plain = and_from _ _ (ap (λ p. overlaps p always) (plain_period t row plain)) (plain_overlap t rows plain)

pub plain_shown : (t : Table) (vs : List Value) → t.valid ≡ false → is_shown t vs ≡ stands_in t vs
plain_shown t vs plain = ap (λ valid. stands_in t (cond valid (take (length t.columns) vs) vs) && cond valid (is_period_alone (drop (length t.columns) vs)) true) plain ∙ and-true (stands_in t vs)

pub plain_stand : (t : Table) (rows : List Row) → t.valid ≡ false → all_stand t rows ≡ list_all (λ (r : Row). stands_in t r.values) rows
plain_stand t [] plain = refl
plain_stand t (row ∷ rows) plain =
    ap (λ b. b && all_stand t rows) (plain_shown t row.values plain) ∙ ap (λ b. stands_in t row.values && b) (plain_stand t rows plain)

pub plain_keys : (t : Table) (rows : List Row) → t.valid ≡ false → keys_of t rows ≡ map (λ (r : Row). row_key t r.values) rows
plain_keys t [] plain = refl
plain_keys t (row ∷ rows) plain =
    ap (λ vs. row_key t vs ∷ keys_of t rows) (plain_values t row.values plain) ∙ ap (λ keys. row_key t row.values ∷ keys) (plain_keys t rows plain)
