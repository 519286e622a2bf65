-- Nothing is held from the end of time on.
use Rattle.std.proofs.Common.{◌≡◌, ℕ, ◌≤◌, ◌==◌, ◌&&◌, ◌||◌, nat_lt, nat_le, Bool, true, false, cond, List, [], ◌∷◌, Option, None, is_some, refl}
use Rattle.std.proofs.lemmas.Bool.{and_parts}
use Rattle.std.specs.List.{list_all}
use Rattle.std.specs.Option.{option_map_or, option_or}
use Rattle.std.specs.Ordering.{is_eq}
use Rattle.wm_base.proofs.Plain.{nat_lt-past}
use Rattle.wm_base.specs.Key.{key_order}
use Rattle.wm_base.specs.declared.instant.TheConstants.{END}
use Rattle.wm_graph.specs.Parts.{Parts, row_of, table_of, version_of}
use Rattle.wm_graph.specs.Rules.{are_cells, collide, differ, is_key_of, is_piece, is_row_at, keep_rules}
use Rattle.wm_spec.specs.Lists.{Cell}
use Rattle.wm_spec.specs.declared.record.cell_range.CellRange.{CellRange}
use Rattle.wm_spec.specs.declared.record.piece.PieceRecord.{PieceRecord}
use Rattle.wm_spec.specs.declared.record.row.RowRecord.{RowRecord}
use Rattle.wm_spec.specs.declared.record.table.Table.{Table}
use Rattle.wm_spec.specs.declared.record.version.Version.{Version}
use Rattle.wm_state.proofs.Apart.{ruled}
use Rattle.wm_state.specs.Standing.{newest_first, seen, seen_at, stored_at}
use Rattle.wm_tree.specs.declared.version.Version.{Version as Node}

-- cells by the rules have ended
pub ended : (tables : ℕ → Option Table) (c : CellRange) → are_cells tables c ≡ true → nat_le c.till END ≡ true
ended tables c e =
    let d = and_parts (nat_lt c.from c.till && nat_le c.till END) (option_map_or (is_key_of c.key) (tables c.table) false) e in
    (and_parts (nat_lt c.from c.till) (nat_le c.till END) d.0).1

-- so that they cover none from then on, whatever else is asked of them
pub uncovered : (a b : Bool) (from till t : ℕ) → nat_le till END ≡ true → END ≤ t → (a && (b && (nat_le from t && nat_lt t till))) ≡ false
uncovered a b from till t most late = by_end a b (nat_le from t) (nat_lt t till) (nat_lt-past till END t most late)
  where
    by_end : (a b d e : Bool) → e ≡ false → (a && (b && (d && e))) ≡ false
    by_end true true true e is = is
    by_end true true false e is = refl
    by_end true false d e is = refl
    by_end false b d e is = refl

stored_late : (tables : ℕ → Option Table) (versions : ℕ → Option Version) (rows : ℕ → Option RowRecord) (next v : ℕ) (c : Cell) → END ≤ c.time → (xs : List PieceRecord)
    → list_all (is_piece tables versions rows next) xs ≡ true → stored_at xs v c ≡ None
stored_late tables versions rows next v c late [] all = refl
stored_late tables versions rows next v c late (x ∷ xs) all =
    let h = and_parts (is_piece tables versions rows next x) (list_all (is_piece tables versions rows next) xs) all in
    let g = and_parts (is_some (versions x.version)) (are_cells tables x.cells && (nat_lt x.stamp next && (x.gone || option_map_or (is_row_at tables x.cells) (rows x.stamp) false))) h.0 in
    let d = and_parts (are_cells tables x.cells) (nat_lt x.stamp next && (x.gone || option_map_or (is_row_at tables x.cells) (rows x.stamp) false)) g.1 in
    rw (
      uncovered (x.version == v) ((x.cells.table == c.table) && is_eq (key_order x.cells.key c.key)) x.cells.from x.cells.till c.time (ended tables x.cells d.0) late,
      stored_late tables versions rows next v c late xs h.1,
    ) refl

-- a version has nothing there itself
pub nothing_late : (p : Parts) (v : ℕ) (c : Cell) → keep_rules p ≡ true → END ≤ c.time → stored_at p.pieces v c ≡ None
nothing_late p v c rules late =
    let r = ruled p rules in
    let all = and_parts (differ collide p.pieces) (list_all (is_piece (table_of p.tables) (version_of p.versions) (row_of p.rows) r.counters.next_stamp) p.pieces) r.pieces in
    stored_late (table_of p.tables) (version_of p.versions) (row_of p.rows) r.counters.next_stamp v c late p.pieces all.1

unseen : (pieces : List PieceRecord) (c : Cell) → ((v : ℕ) → stored_at pieces v c ≡ None) → (nodes : List Node) (v : ℕ) → seen_at pieces nodes v c ≡ None
unseen pieces c none [] v = refl
unseen pieces c none (x ∷ older) v = by_number (x.number == v) (unseen pieces c none older x.parent) (unseen pieces c none older v)
  where
    by_number : (b : Bool) → seen_at pieces older x.parent c ≡ None → seen_at pieces older v c ≡ None → cond b (option_or (stored_at pieces v c) (seen_at pieces older x.parent c)) (seen_at pieces older v c) ≡ None
    by_number true up along = rw (none v, up) refl
    by_number false up along = along

-- nor has one below it
pub late_seen : (p : Parts) (version : ℕ) (c : Cell) → keep_rules p ≡ true → END ≤ c.time → seen p version c ≡ None
late_seen p version c rules late = unseen p.pieces c (λ v. nothing_late p v c rules late) (newest_first p.versions) version
