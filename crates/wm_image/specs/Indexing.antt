-- An index of some of the records that stand by id.
use Rattle.std.specs.Prelude.{◌≡◌, Bool, true, false, not, List}
use Rattle.std.specs.List.{filter}
use Rattle.wm_ids.specs.Versioned.{AllNested, AllSpanned}
use Rattle.wm_index.specs.Indexed.{ids_at}
use Rattle.wm_index.specs.Sought.{Sought, is_sought, ids_with}
use Rattle.wm_index.specs.declared.index.Index.{Index}
use Rattle.wm_spec.specs.declared.record.Record.{Record}
use Rattle.wm_spec.specs.declared.record.Record.TheVariants as records
use Rattle.wm_spec.specs.declared.record.stored.Stored.{Stored}

abbrev pub is_piece_or_touch : Record → Bool
is_piece_or_touch (records.Piece r) = true
is_piece_or_touch (records.Touch r) = true
is_piece_or_touch _ = false

-- the records that are neither
abbrev pub others : List Stored → List Stored
others ss = filter (λ (s : Stored). not (is_piece_or_touch s.record)) ss

-- the index has the ids of whatever is sought among some of the records; of each key the versions rise that have pieces
-- of it, and so do the periods that are kept beside them, in which the cells of these pieces lie
pub record IsIndexOf (all some : List Stored) (x : Index) : Type 0 where
  pub told : (q : Sought) → ids_at x q ≡ ids_with (is_sought q) some
  pub nested : AllNested x.pieces.entries
  pub spanned : AllSpanned all x.pieces.entries
