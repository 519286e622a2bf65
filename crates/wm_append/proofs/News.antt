-- Entries of one table, in order of their keys, are news in both layers.
use Rattle.std.proofs.Common.{◌≡◌, ℕ, ◌+◌, ◌==◌, true, not, List, [], ◌∷◌, refl, sym, ap, ◌∙◌, arith}
use Rattle.std.proofs.lemmas.Bool.{eqb-true, and_from, and_parts, eq-eqb}
use Rattle.std.proofs.lemmas.Bool.Decides.{nat_tests}
use Rattle.std.specs.List.{list_all}
use Rattle.std.specs.Ordering.{is_gt, nat_cmp, ordering_then}
use Rattle.std.specs.declared.cmp.Ordering.{Ordering}
use Rattle.wm_base.specs.Key.{key_order}
use Rattle.wm_spec.specs.Lists.{Entry}
use Rattle.wm_spec.specs.declared.record.cell_range.CellRange.{CellRange}
use Rattle.wm_spec.specs.declared.record.piece.PieceRecord.{PieceRecord}
use Rattle.wm_state.proofs.Tests.{all_if}
use Rattle.wm_state.specs.Drawing.{AreNews, are_sorted, has_moments, is_for, piece_keys}
use Rattle.wm_state.specs.Entries.{AreStamped, entry_keys, pieces_of}
use Rattle.wm_state.specs.Touching.{marks_of}
use Rattle.wm_written.proofs.DrawingNews.{news-stamped}
use Rattle.wm_append.specs.Redraw.{AreNewsOf, are_ascending, is_of_version, piece_cells, spot_order}

-- of one table cells stand as their keys do
by_key : (a b : CellRange) (table : ℕ) → a.table ≡ table → b.table ≡ table → is_gt (spot_order a b) ≡ is_gt (key_order a.key b.key)
by_key a b table one two = same a.table b.table (key_order a.key b.key) (one ∙ sym two)
  where
    same : (m n : ℕ) (o : Ordering) → m ≡ n → is_gt (ordering_then (nat_cmp m n) o) ≡ is_gt o
    same m n o e = grind (arith, nat_tests, e)

ascend : (version table : ℕ) (news : List PieceRecord) → list_all (is_for version table) news ≡ true → are_sorted (piece_keys news) ≡ true → are_ascending (piece_cells news) ≡ true
ascend version table [] here up = refl
ascend version table (x ∷ []) here up = refl
ascend version table (x ∷ y ∷ ys) here up =
    let h = and_parts (is_for version table x) (list_all (is_for version table) (y ∷ ys)) here in
    let k = and_parts (is_for version table y) (list_all (is_for version table) ys) h.1 in
    let u = and_parts (not (is_gt (key_order x.cells.key y.cells.key))) (are_sorted (piece_keys (y ∷ ys))) up in
    and_from (not (is_gt (spot_order x.cells y.cells))) (are_ascending (piece_cells (y ∷ ys)))
    (ap not (by_key x.cells y.cells table (tabled x h.0) (tabled y k.0)) ∙ u.0)
    (ascend version table (y ∷ ys) h.1 u.1)
  where
    tabled : (z : PieceRecord) → is_for version table z ≡ true → z.cells.table ≡ table
    tabled z is = eqb-true z.cells.table table (and_parts (z.version == version) (z.cells.table == table) is).1

news_of : (version table : ℕ) (news : List PieceRecord) → AreNews version table news → AreNewsOf version news
news_of version table news are = record {
  here = all_if (is_for version table) (is_of_version version) (λ x is. (and_parts (x.version == version) (x.cells.table == table) is).0) news are.here;
  last = are.last;
  sorted = ascend version table news are.here are.sorted;
}

-- the pieces of entries
pub pieces_news : (version table stamp : ℕ) (es : List Entry) → AreStamped table stamp es → are_sorted (entry_keys es) ≡ true → AreNewsOf version (pieces_of version es)
pieces_news version table stamp es stamped sorted = news_of version table (pieces_of version es) (news-stamped version table stamp es stamped sorted)

-- ---- marks have the cells of the pieces

marks_cells : (place start : ℕ) (es : List Entry) → piece_cells (marks_of place start es) ≡ piece_cells (pieces_of place es)
marks_cells place start [] = refl
marks_cells place start (e ∷ es) = ap (λ (cs : List CellRange). record { table = e.table; key = e.key; from = e.from; till = e.till } ∷ cs) (marks_cells place (start + 1) es)

pub marks_here : (place start : ℕ) (es : List Entry) → list_all (is_of_version place) (marks_of place start es) ≡ true
marks_here place start [] = refl
marks_here place start (e ∷ es) = and_from (place == place) (list_all (is_of_version place) (marks_of place (start + 1) es)) (eq-eqb place place refl) (marks_here place (start + 1) es)

marks_last : (place start : ℕ) (es : List Entry) → list_all has_moments (pieces_of place es) ≡ true → list_all has_moments (marks_of place start es) ≡ true
marks_last place start [] all = refl
marks_last place start (e ∷ es) all =
    let h = and_parts _ (list_all has_moments (pieces_of place es)) all in and_from _ (list_all has_moments (marks_of place (start + 1) es)) h.0 (marks_last place (start + 1) es h.1)

-- and the marks of entries are news
pub marks_news : (place start table stamp : ℕ) (es : List Entry) → AreStamped table stamp es → are_sorted (entry_keys es) ≡ true → AreNewsOf place (marks_of place start es)
marks_news place start table stamp es stamped sorted =
    let pieces = pieces_news place table stamp es stamped sorted in
    record {
      here = marks_here place start es;
      last = marks_last place start es pieces.last;
      sorted = ap (λ (cs : List CellRange). are_ascending cs) (marks_cells place start es) ∙ pieces.sorted;
    }
