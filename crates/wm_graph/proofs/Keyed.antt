-- The key of a table of one key column.
use Rattle.std.proofs.Common.{◌≡◌, ℕ, suc, ◌<◌, ◌∙◌, true, List, [], ◌∷◌, length, refl, ap, arith}
use Rattle.std.proofs.lemmas.Bool.{and_parts, ltb-true}
use Rattle.std.proofs.lemmas.Bool.Decides.{nat_tests}
use Rattle.std.specs.Prelude.{Option, Some, None, ◌&&◌, nat_le, nat_lt, if◌then◌else◌, slice_get}
use Rattle.std.specs.List.{list_all}
use Rattle.std.specs.Option.{option_and_then, option_map}
use Rattle.wm_base.specs.declared.value.Value.{Value}
use Rattle.wm_graph.specs.Rules.{is_table, has_key, are_key_columns, is_key_of, is_typed, key_of, values_at, weight, differ, same_column, is_short}
use Rattle.wm_spec.specs.declared.record.column.TableColumn.{TableColumn}
use Rattle.wm_spec.specs.declared.record.table.Table.{Table}

-- the one key column, which is there
pub record OneKey (t : Table) : Type 0 where
  pub place : ℕ
  pub is : t.key_columns ≡ place ∷ []
  pub near : place < length t.columns

too_many : (n : ℕ) → nat_le (suc (suc n)) 1 ≡ true → ⊥
too_many n e = grind (arith, nat_tests, e)

one_of : (places : List ℕ) (n : ℕ) → (nat_le (length places) 1 && list_all (λ place. nat_lt place n) places) ≡ true → nat_lt 0 (length places) ≡ true → (place : ℕ) × (places ≡ place ∷ []) × (place < n)
one_of [] n few some = absurd (cc)
one_of (place ∷ []) n few some = (place, refl, ltb-true place n (and_parts (nat_lt place n) true (and_parts (nat_le 1 1) (nat_lt place n && true) few).1).0)
one_of (place ∷ other ∷ places) n few some = absurd (too_many (length places) (and_parts (nat_le (length (place ∷ other ∷ places)) 1) (list_all (λ place. nat_lt place n) (place ∷ other ∷ places)) few).0)

-- what a table in order has
pub table_keyed : (t : Table) → is_table t ≡ true → are_key_columns t ≡ true
table_keyed t order =
    let all = and_parts
    ((nat_le 1 (length t.columns) && nat_le (length t.columns) 32) && (differ same_column t.columns && (is_short t.name && list_all (λ (c : TableColumn). is_short c.name) t.columns)))
    (are_key_columns t && (if t.versioned then has_key t else true)) order in
    (and_parts (are_key_columns t) (if t.versioned then has_key t else true) all.1).0

pub one_key : (t : Table) → is_table t ≡ true → has_key t ≡ true → OneKey t
one_key t order keyed = let one = one_of t.key_columns (length t.columns) (table_keyed t order) keyed in record { place = one.0; is = one.1; near = one.2 }

-- the key of a row is the value there, alone
pub key_alone : (t : Table) (one : OneKey t) (row : List Value) → key_of t row ≡ option_map (λ v. v ∷ []) (slice_get row one.place)
key_alone t one row =
    ap (λ places. if nat_lt 0 (length places) then values_at places row else None) one.is
    ∙ by_value (slice_get row one.place)
  where
    by_value : (o : Option Value) → option_and_then (λ v. option_map (λ vs. v ∷ vs) (Some [])) o ≡ option_map (λ v. v ∷ []) o
    by_value None = refl
    by_value (Some v) = refl

-- a value is a key where it is of the type of the key column, and light
pub is_key_alone : (t : Table) (one : OneKey t) (v : Value) → is_key_of (v ∷ []) t ≡ (nat_le (weight (v ∷ [])) 200 && (is_typed t.columns one.place v && true))
is_key_alone t one v = rw (one.is) refl
