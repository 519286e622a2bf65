-- What an index tells of the pieces of a key.
use Rattle.std.proofs.Common.{◌≡◌, ℕ, Bool, true, false, cond, ◌&&◌, ◌==◌, nat_lt, nat_le, List, [], ◌∷◌, Option, refl, sym, ap, ◌∙◌}
use Rattle.std.specs.Bool.{then_some}
use Rattle.std.specs.List.{filter, filter_map}
use Rattle.std.specs.Option.{option_or}
use Rattle.std.specs.Ordering.{is_eq}
use Rattle.wm_base.specs.Key.{key_order}
use Rattle.wm_chunks.specs.Numbers.{Numbers}
use Rattle.wm_graph.specs.Parts.{parts_of, as_piece}
use Rattle.wm_period.specs.Pieces.{Held}
use Rattle.wm_spec.specs.Lists.{Cell}
use Rattle.wm_spec.specs.declared.record.Record.{Record}
use Rattle.wm_spec.specs.declared.record.Record.TheVariants as records
use Rattle.wm_state.specs.Standing.{stored_at, held_by}
use Rattle.wm_index.proofs.Finding.{all_of, all_sought}
use Rattle.wm_index.proofs.Using.{none_told}
use Rattle.wm_index.specs.Indexed.{IsIndexed, ids_at, listed}
use Rattle.wm_index.specs.Kinds.{kind_at}
use Rattle.wm_image.specs.Shown.{AreKeysOf, has_at, first_held}
use Rattle.wm_ids.specs.Ids.{keyed_at}
use Rattle.wm_index.specs.Sought.{PieceAt, is_sought}
use Rattle.wm_index.specs.declared.index.Index.{Index}

-- only the version's own pieces of the cell's table and key are looked at
pub stored_at-sought : (c : Cell) (v : ℕ) (rs : List Record) → stored_at (filter_map as_piece rs) v c ≡ first_held (filter_map as_piece (filter (is_sought (PieceAt c.table c.key v)) rs)) v c.time
stored_at-sought c v [] = refl
stored_at-sought c v (records.Piece x ∷ rs) =
    one (x.version == v) (x.cells.table == c.table) (is_eq (key_order x.cells.key c.key)) (nat_le x.cells.from c.time && nat_lt c.time x.cells.till) (stored_at (filter_map as_piece rs) v c)
    (first_held (filter_map as_piece (filter (is_sought (PieceAt c.table c.key v)) rs)) v c.time) (stored_at-sought c v rs)
    ∙ pushed ((x.cells.table == c.table) && (is_eq (key_order x.cells.key c.key) && (x.version == v)))
  where
    one : (a p k t : Bool) (all some : Option Held) → all ≡ some
        → option_or (then_some (a && ((p && k) && t)) (held_by x)) all ≡ cond (p && (k && a)) (option_or (then_some (a && t) (held_by x)) some) some
    one true true true true all some same = refl
    one true true true false all some same = same
    one true true false t all some same = same
    one true false k t all some same = same
    one false true true t all some same = same
    one false true false t all some same = same
    one false false k t all some same = same

    pushed : (b : Bool) → cond b (option_or (then_some (has_at x v c.time) (held_by x)) (first_held (filter_map as_piece (filter (is_sought (PieceAt c.table c.key v)) rs)) v c.time))
        (first_held (filter_map as_piece (filter (is_sought (PieceAt c.table c.key v)) rs)) v c.time)
        ≡ first_held (filter_map as_piece (cond b (records.Piece x ∷ filter (is_sought (PieceAt c.table c.key v)) rs) (filter (is_sought (PieceAt c.table c.key v)) rs))) v c.time
    pushed true = refl
    pushed false = refl
stored_at-sought c v (_ ∷ rs) = stored_at-sought c v rs

-- what a version has of pieces at a cell, by its ids for the table and key alone
pub held_told : (kept : Numbers Record) (x : Index) → IsIndexed kept x → (c : Cell) (v : ℕ)
    → first_held (kind_at as_piece (listed kept.entries) (ids_at x (PieceAt c.table c.key v))) v c.time ≡ stored_at (parts_of (listed kept.entries)).pieces v c
unfolding parts_of
held_told kept x is c v =
    ap (λ rs. first_held (filter_map as_piece rs) v c.time) (all_sought kept x is (PieceAt c.table c.key v)) ∙ sym (stored_at-sought c v (all_of (listed kept.entries)))

-- what versions have of a table, by key
pub keys_told : (kept : Numbers Record) (x : Index) → IsIndexed kept x → (table : ℕ) → AreKeysOf (listed kept.entries) table (keyed_at x.pieces.entries table)
keys_told kept x is table = record {
  nested = is.nested table;
  spanned = is.spanned table;
  held = λ key v t. held_told kept x is (record { table = table; key = key; time = t }) v;
  whole = λ key none. none_told kept x is table key none;
}
