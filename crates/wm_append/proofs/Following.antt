-- New pieces that may follow those that are drawn.
use Rattle.std.proofs.Common.{◌≡◌, ℕ, ◌+◌, ◌<◌, true, not, List, [], ◌∷◌, ◌++◌, length, drop, get_or, sym, ap, subst, ◌∙◌}
use Rattle.std.proofs.lemmas.List.{drop_more}
use Rattle.std.proofs.lemmas.Bool.{and_parts}
use Rattle.std.specs.List.{list_all}
use Rattle.std.specs.Ordering.{is_gt}
use Rattle.wm_spec.specs.declared.record.cell_range.CellRange.{CellRange}
use Rattle.wm_spec.specs.declared.record.piece.PieceRecord.{PieceRecord}
use Rattle.wm_state.specs.Drawing.{has_moments}
use Rattle.wm_append.specs.Redraw.{CanFollow, are_ascending, hand_cells, is_of_version, piece_cells, spot_order}

-- what stands next
pub follows : (version : ℕ) (hand items : List PieceRecord) (n : ℕ) (new : PieceRecord) → (n < length items) × (new ≡ get_or items n new) → CanFollow version hand (drop n items) → CanFollow version hand (new ∷ drop (n + 1) items)
follows version hand items n new is can = subst (CanFollow version hand) (drop_more items n new is.0 ∙ ap (λ (x : PieceRecord). x ∷ drop (n + 1) items) (sym is.1)) can

-- the others may follow the next one
pub others_follow : (version : ℕ) (hand drawn rest : List PieceRecord) (new : PieceRecord) → hand_cells drawn ≡ new.cells ∷ [] → CanFollow version hand (new ∷ rest) → CanFollow version drawn rest
others_follow version hand drawn rest new is can = record {
  here = (and_parts (is_of_version version new) (list_all (is_of_version version) rest) can.here).1;
  last = (and_parts (has_moments new) (list_all has_moments rest) can.last).1;
  sorted = ap (λ (cs : List CellRange). are_ascending (cs ++ piece_cells rest)) is ∙ tail_sorted hand can.sorted;
}
  where
    tail_sorted : (xs : List PieceRecord) → are_ascending (hand_cells xs ++ new.cells ∷ piece_cells rest) ≡ true → are_ascending (new.cells ∷ piece_cells rest) ≡ true
    tail_sorted [] up = up
    tail_sorted (x ∷ xs) up = (and_parts (not (is_gt (spot_order x.cells new.cells))) (are_ascending (new.cells ∷ piece_cells rest)) up).1
