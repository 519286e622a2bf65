-- The rows and the pieces of entries that were made before.
use Rattle.std.proofs.Common.{◌≡◌, ℕ, Bool, true, false, List, [], ◌∷◌, Option, Some, None, is_some, refl, sym, ap, ◌∙◌}
use Rattle.std.proofs.lemmas.List.Elements.{All-head, All-tail}
use Rattle.std.proofs.lemmas.Bool.{and_from}
use Rattle.std.proofs.lemmas.Option.{same_Some}
use Rattle.std.specs.Bool.{then_some}
use Rattle.std.specs.List.{All, list_all}
use Rattle.std.specs.Option.{option_map, option_or}
use Rattle.wm_graph.specs.Parts.{Parts, row_of, table_of, version_of}
use Rattle.wm_graph.specs.Rules.{is_piece}
use Rattle.wm_spec.specs.Lists.{Entry, Told, covers, told, told_of}
use Rattle.wm_spec.specs.declared.record.counters.Counters.{Counters}
use Rattle.wm_spec.specs.declared.record.row.RowRecord.{RowRecord}
use Rattle.wm_state.specs.Entries.{piece_of, pieces_of}
use Rattle.wm_state.specs.Standing.{HasRow, HasRows}
use Rattle.wm_written.proofs.EntryRecords.{cells_well, well_of}
use Rattle.wm_gained.proofs.OldEntries.{old_first, old_rest, stamped_so}
use Rattle.wm_state.specs.Drafts.{AreOld, IsCopied}

-- where the row of each entry is there, so is the row of what they tell at a cell
pub rows_told : (p : Parts) (es : List Entry) → All (HasRow p) es → HasRows p es
rows_told p [] all c t row found is = cc
rows_told p (e ∷ es) all c t row found is = by_told (told es c) refl (rows_told p es (All-tail (HasRow p) e es all) c t row) (covers e c) found
  where
    by_told : (o : Option Told) → told es c ≡ o → (told es c ≡ Some t → t.row ≡ Some row → option_map (λ (r : RowRecord). r.values) (row_of p.rows t.stamp) ≡ Some row.values) → (b : Bool)
        → option_or o (then_some b (told_of e)) ≡ Some t → option_map (λ (r : RowRecord). r.values) (row_of p.rows t.stamp) ≡ Some row.values
    by_told (Some x) at rest b h = rest (at ∙ h) is
    by_told None at rest true h =
        let same : told_of e ≡ t = same_Some (told_of e) t h in
        ap (λ (x : Told). option_map (λ (r : RowRecord). r.values) (row_of p.rows x.stamp)) (sym same) ∙ All-head (HasRow p) e es all row (ap (λ (x : Told). x.row) same ∙ is)
    by_told None at rest false h = cc

-- their pieces in a version that is there keep the rules
pub pieces_old : (p : Parts) (c : Counters) (version : ℕ) (es : List Entry) → AreOld p c es → All (IsCopied p) es → is_some (version_of p.versions version) ≡ true
    → list_all (is_piece (table_of p.tables) (version_of p.versions) (row_of p.rows) c.next_stamp) (pieces_of version es) ≡ true
pieces_old p c version [] old copied there = refl
pieces_old p c version (e ∷ es) old copied there =
    let h = old_first p c e es old in
    and_from (is_piece (table_of p.tables) (version_of p.versions) (row_of p.rows) c.next_stamp (piece_of version e)) (list_all (is_piece (table_of p.tables) (version_of p.versions) (row_of p.rows) c.next_stamp) (pieces_of version es))
    (and_from (is_some (version_of p.versions version)) _ there
    (cells_well (table_of p.tables) (row_of p.rows) e.table e.stamp c.next_stamp e (piece_of version e).cells refl (stamped_so p.tables e h.real) (well_of (table_of p.tables) e h.well) h.stamp (All-head (IsCopied p) e es copied)))
    (pieces_old p c version es (old_rest p c e es old) (All-tail (IsCopied p) e es copied) there)
