-- What is left of new marks stands in their order, so it is news.
use Rattle.std.proofs.Common.{◌≡◌, ℕ, ◌==◌, ◌&&◌, nat_le, nat_lt, Bool, true, false, not, List, [], ◌∷◌, ◌++◌, map, Option, refl, sym, ap, ◌∙◌}
use Rattle.std.proofs.lemmas.Bool.{eq-eqb, eqb-true, and_from, and_parts, lt-ltb, true≢false}
use Rattle.std.specs.List.{flat_map, list_all}
use Rattle.std.specs.Option.{option_map_or}
use Rattle.std.specs.Ordering.{is_eq, is_gt, nat_cmp, ordering_reverse, ordering_then}
use Rattle.std.specs.declared.cmp.Ordering.{Ordering}
use Rattle.std.specs.declared.cmp.Ordering.TheVariants.{Less, Equal, Greater}
use Rattle.wm_base.specs.Key.{key_order}
use Rattle.wm_base.specs.declared.instant.TheConstants.{END}
use Rattle.wm_base.specs.declared.value.Value.{Value}
use Rattle.wm_graph.specs.Parts.{parts_of, table_of}
use Rattle.wm_graph.specs.Rules.{are_cells, collide, differ, is_key_of}
use Rattle.wm_spec.specs.declared.record.cell_range.CellRange.{CellRange}
use Rattle.wm_spec.specs.declared.record.piece.PieceRecord.{PieceRecord}
use Rattle.wm_spec.specs.declared.record.stored.Stored.{Stored}
use Rattle.wm_spec.specs.declared.record.table.Table.{Table}
use Rattle.wm_state.specs.ById.{Ascend}
use Rattle.wm_state.specs.Drafts.{are_in_order, cells_in, entry_order, mark_entry, mark_piece}
use Rattle.wm_state.specs.Drawing.{has_moments}
use Rattle.wm_state.specs.declared.edit.NewMark.{NewMark}
use Rattle.wm_state.proofs.Appending.{all_append}
use Rattle.wm_state.proofs.Laying.{key_itself, key_same}
use Rattle.wm_state.proofs.Tests.{all_if}
use Rattle.wm_append.proofs.Redrawing.{spot_total}
use Rattle.wm_append.specs.Redraw.{AreNewsOf, are_ascending, is_of_version, piece_cells, spot_order}
use Rattle.wm_settle.specs.Leaving.{left_of}
use Rattle.wm_settle.proofs.Found.{at_key, is_left, newest_left}

-- ---- tables and keys in order

-- the first table and key are not above the second
abbrev upto : CellRange → CellRange → Bool
upto a b = not (is_gt (spot_order a b))

-- cells of one table and key stand alike to others
alike_first : (a b c : CellRange) → a.table ≡ b.table → a.key ≡ b.key → upto a c ≡ upto b c
alike_first a b c table key =
    ap (λ t. not (is_gt (ordering_then (nat_cmp t c.table) (key_order a.key c.key)))) table ∙ ap (λ (k : List Value). not (is_gt (ordering_then (nat_cmp b.table c.table) (key_order k c.key)))) key

alike_second : (a b c : CellRange) → b.table ≡ c.table → b.key ≡ c.key → upto a b ≡ upto a c
alike_second a b c table key =
    ap (λ t. not (is_gt (ordering_then (nat_cmp a.table t) (key_order a.key b.key)))) table ∙ ap (λ (k : List Value). not (is_gt (ordering_then (nat_cmp a.table c.table) (key_order a.key k)))) key

upto_itself : (a : CellRange) → upto a a ≡ true
upto_itself a = by_order (spot_order a a) (spot_total.antisymm a a)
  where
    apart : Greater ≡ Less → ⊥
    apart e = cc

    by_order : (o : Ordering) → o ≡ ordering_reverse o → not (is_gt o) ≡ true
    by_order Less e = refl
    by_order Equal e = refl
    by_order Greater e = absurd (apart e)

upto_more : (a b c : CellRange) → upto a b ≡ true → upto b c ≡ true → upto a c ≡ true
upto_more a b c first second = by_order (spot_order a b) refl (spot_order b c) refl first second
  where
    by_order : (o : Ordering) → spot_order a b ≡ o → (p : Ordering) → spot_order b c ≡ p → not (is_gt o) ≡ true → not (is_gt p) ≡ true → upto a c ≡ true
    by_order Greater one p two h k = absurd (true≢false (sym h))
    by_order o one Greater two h k = absurd (true≢false (sym k))
    by_order Equal one p two h k = ap (λ q. not (is_gt q)) (spot_total.congr a b c one ∙ two) ∙ k
    by_order Less one Less two h k = ap (λ q. not (is_gt q)) (spot_total.trans a b c one two)
    by_order Less one Equal two h k =
        ap (λ q. not (is_gt q))
        (spot_total.antisymm a c
        ∙ ap ordering_reverse (spot_total.congr c b a (spot_total.antisymm c b ∙ ap ordering_reverse two) ∙ spot_total.antisymm b a ∙ ap ordering_reverse one))

-- one between two others may be left out
skipped : (a b : CellRange) (cs : List CellRange) → are_ascending (a ∷ b ∷ cs) ≡ true → are_ascending (a ∷ cs) ≡ true
skipped a b [] up = refl
skipped a b (c ∷ cs) up =
    let h = and_parts (upto a b) (upto b c && are_ascending (c ∷ cs)) up in
    let g = and_parts (upto b c) (are_ascending (c ∷ cs)) h.1 in
    and_from (upto a c) (are_ascending (c ∷ cs)) (upto_more a b c h.0 g.0) g.1

behind : (a : CellRange) (cs : List CellRange) → are_ascending (a ∷ cs) ≡ true → are_ascending cs ≡ true
behind a [] up = refl
behind a (c ∷ cs) up = (and_parts (upto a c) (are_ascending (c ∷ cs)) up).1

-- ---- pieces of one mark

-- a piece of the table and key of a mark stands where the mark does
placed : (m : NewMark) (x : PieceRecord) → at_key m.table m.key x ≡ true → (x.cells.table ≡ m.table) × (x.cells.key ≡ m.key)
placed m x at = let h = and_parts (x.cells.table == m.table) (is_eq (key_order x.cells.key m.key)) at in (eqb-true x.cells.table m.table h.0, key_same x.cells.key m.key h.1)

all_from : (s : CellRange) (m : NewMark) (xs : List PieceRecord) → upto s (cells_in m) ≡ true → list_all (at_key m.table m.key) xs ≡ true → list_all (λ (x : PieceRecord). upto s x.cells) xs ≡ true
all_from s m xs from =
    all_if (at_key m.table m.key) (λ (x : PieceRecord). upto s x.cells) (λ x at. let h = placed m x at in alike_second s x.cells (cells_in m) h.0 h.1 ∙ from) xs

-- one before others
before : (x : PieceRecord) (zs : List PieceRecord) → list_all (λ (z : PieceRecord). upto x.cells z.cells) zs ≡ true → are_ascending (piece_cells zs) ≡ true → are_ascending (piece_cells (x ∷ zs)) ≡ true
before x [] all up = refl
before x (z ∷ zs) all up = and_from (upto x.cells z.cells) (are_ascending (piece_cells (z ∷ zs))) (and_parts (upto x.cells z.cells) (list_all (λ (y : PieceRecord). upto x.cells y.cells) zs) all).0 up

-- those of a mark before others that are not below it
ascend_on : (m : NewMark) (xs ys : List PieceRecord) → list_all (at_key m.table m.key) xs ≡ true → list_all (λ (y : PieceRecord). upto (cells_in m) y.cells) ys ≡ true → are_ascending (piece_cells ys) ≡ true
    → are_ascending (piece_cells (xs ++ ys)) ≡ true
ascend_on m [] ys at from up = up
ascend_on m (x ∷ xs) ys at from up =
    let h = and_parts (at_key m.table m.key x) (list_all (at_key m.table m.key) xs) at in
    let k = placed m x h.0 in
    before x (xs ++ ys)
    (all_append (λ (z : PieceRecord). upto x.cells z.cells) xs ys (all_from x.cells m xs (alike_first x.cells (cells_in m) (cells_in m) k.0 k.1 ∙ upto_itself (cells_in m)) h.1)
    (all_if (λ (y : PieceRecord). upto (cells_in m) y.cells) (λ (y : PieceRecord). upto x.cells y.cells) (λ y is. alike_first x.cells (cells_in m) y.cells k.0 k.1 ∙ is) ys from))
    (ascend_on m xs ys h.1 from up)

-- ---- pieces of marks in order

module _ (left : NewMark → List PieceRecord) (at : (m : NewMark) → list_all (at_key m.table m.key) (left m) ≡ true) where
  left_from : (s : CellRange) (ms : List NewMark) → are_ascending (s ∷ map cells_in ms) ≡ true → list_all (λ (x : PieceRecord). upto s x.cells) (flat_map left ms) ≡ true
  left_from s [] up = refl
  left_from s (m ∷ ms) up =
      all_append (λ (x : PieceRecord). upto s x.cells) (left m) (flat_map left ms) (all_from s m (left m) (and_parts (upto s (cells_in m)) (are_ascending (cells_in m ∷ map cells_in ms)) up).0 (at m))
      (left_from s ms (skipped s (cells_in m) (map cells_in ms) up))

  left_ascend : (ms : List NewMark) → are_ascending (map cells_in ms) ≡ true → are_ascending (piece_cells (flat_map left ms)) ≡ true
  left_ascend [] up = refl
  left_ascend (m ∷ ms) up = ascend_on m (left m) (flat_map left ms) (at m) (left_from (cells_in m) ms up) (left_ascend ms (behind (cells_in m) (map cells_in ms) up))

-- marks in order have their cells in order
in_order : (ms : List NewMark) → are_in_order (map mark_entry ms) ≡ true → are_ascending (map cells_in ms) ≡ true
in_order [] up = refl
in_order (m ∷ []) up = refl
in_order (m ∷ k ∷ ms) up =
    let h = and_parts (not (is_gt (entry_order (mark_entry m) (mark_entry k)))) (are_in_order (map mark_entry (k ∷ ms))) up in
    and_from (upto (cells_in m) (cells_in k)) (are_ascending (map cells_in (k ∷ ms))) h.0 (in_order (k ∷ ms) h.1)

-- ---- news

new_here : (place : ℕ) (ms : List NewMark) → list_all (is_of_version place) (map (mark_piece place) ms) ≡ true
new_here place [] = refl
new_here place (m ∷ ms) = and_from (place == place) (list_all (is_of_version place) (map (mark_piece place) ms)) (eq-eqb place place refl) (new_here place ms)

new_last : (tables : ℕ → Option Table) (place : ℕ) (ms : List NewMark) → list_all (λ (m : NewMark). are_cells tables (cells_in m)) ms ≡ true → list_all has_moments (map (mark_piece place) ms) ≡ true
new_last tables place [] all = refl
new_last tables place (m ∷ ms) all =
    let h = and_parts (are_cells tables (cells_in m)) (list_all (λ (k : NewMark). are_cells tables (cells_in k)) ms) all in
    let g = and_parts (nat_lt m.period.from m.period.till && nat_le m.period.till END) (option_map_or (is_key_of m.key) (tables m.table) false) h.0 in
    and_from (nat_lt m.period.from m.period.till) (list_all has_moments (map (mark_piece place) ms)) (and_parts (nat_lt m.period.from m.period.till) (nat_le m.period.till END) g.0).0 (new_last tables place ms h.1)

pub left_news : (ss : List Stored) → Ascend ss → (n place : ℕ) (ms : List NewMark) → list_all (λ (m : NewMark). are_cells (table_of (parts_of ss).tables) (cells_in m)) ms ≡ true → are_in_order (map mark_entry ms) ≡ true
    → differ collide (map (mark_piece 0) ms) ≡ true → AreNewsOf place (flat_map (left_of ss n place) ms)
left_news ss sorted n place ms cells up apart =
    let newest = newest_left ss sorted n place ms apart in
    record {
      here = newest.pass (is_of_version place) (λ x from till is lower some upper. is) (new_here place ms);
      last = newest.pass has_moments (λ x from till is lower some upper. lt-ltb from till some) (new_last (table_of (parts_of ss).tables) place ms cells);
      sorted = left_ascend (left_of ss n place)
          (λ m. (is_left ss sorted n place m).pass (at_key m.table m.key) (λ x from till is lower some upper. is)
          (and_from (m.table == m.table) (is_eq (key_order m.key m.key)) (eq-eqb m.table m.table refl) (key_itself m.key))) ms (in_order ms up);
    }
