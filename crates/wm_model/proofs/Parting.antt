-- What of cells is to be locked: its parts are cells of the same table and key.
use Rattle.std.proofs.Common.{◌≡◌, ℕ, Bool, true, ◌&&◌, false, min, max, nat_le, nat_lt, List, [], ◌∷◌, map, refl, ◌∙◌, arith}
use Rattle.std.proofs.lemmas.Bool.{and_from, and_parts}
use Rattle.std.proofs.lemmas.List.Folds.{list_all-append}
use Rattle.std.specs.Bool.{then_some}
use Rattle.std.specs.List.{flat_map, list_all}
use Rattle.std.specs.Option.{option_map_or, option_to_list}
use Rattle.wm_base.specs.Period.{Span}
use Rattle.wm_base.specs.declared.instant.TheConstants.{END}
use Rattle.wm_graph.specs.Parts.{table_of}
use Rattle.wm_graph.specs.Rules.{are_cells, is_key_of}
use Rattle.wm_outline.specs.Outline.{Outline}
use Rattle.wm_spec.specs.declared.record.cell_range.CellRange.{CellRange}
use Rattle.wm_spec.specs.declared.record.table.Table.{Table}
use Rattle.wm_state.specs.Drafts.{can_keep, cells_locked}
use Rattle.wm_state.specs.declared.edit.NewLock.{NewLock}
use Rattle.wm_temporal.specs.Uncovered.{free, stretch}
use Rattle.wm_model.specs.Step.{Holder, lock_over, lock_parts, parts_at, spans_held}

-- what holds of each part of cells that pass holds of all parts
all_parted : (keep : CellRange → Bool) (test : NewLock → Bool) (part : CellRange → List NewLock) → ((c : CellRange) → keep c ≡ true → list_all test (part c) ≡ true) → (cells : List CellRange) → list_all keep cells ≡ true
    → list_all test (flat_map part cells) ≡ true
all_parted keep test part each [] all = refl
all_parted keep test part each (c ∷ cs) all =
    let h = and_parts (keep c) (list_all keep cs) all in
    list_all-append test (part c) (flat_map part cs) ∙ and_from (list_all test (part c)) (list_all test (flat_map part cs)) (each c h.0) (all_parted keep test part each cs h.1)

-- ---- their periods

-- a period that has a moment and ends at most at END
abbrev is_period : Span → Bool
is_period p = nat_lt p.from p.till && nat_le p.till END

sooner : (a b k : ℕ) → nat_le b k ≡ true → nat_le (min a b) k ≡ true
sooner a b k le = grind (arith, le)

stretch_fits : (from till : ℕ) → nat_le till END ≡ true → list_all is_period (stretch from till) ≡ true
stretch_fits from till most = by_test (nat_lt from till) refl
  where
    by_test : (b : Bool) → nat_lt from till ≡ b → list_all is_period (option_to_list (then_some b (let s : Span = record { from = from; till = till } in s))) ≡ true
    by_test true some = and_from (nat_lt from till && nat_le till END) true (and_from (nat_lt from till) (nat_le till END) some most) refl
    by_test false none = refl

free_fits : (from till : ℕ) (ps : List Span) → nat_le till END ≡ true → list_all is_period (free from till ps) ≡ true
free_fits from till [] most = stretch_fits from till most
free_fits from till (p ∷ ps) most =
    list_all-append is_period (stretch from (min p.from till)) (free (max from p.till) till ps)
    ∙ and_from (list_all is_period (stretch from (min p.from till))) (list_all is_period (free (max from p.till) till ps)) (stretch_fits from (min p.from till) (sooner p.from till END most)) (free_fits (max from p.till) till ps most)

-- ---- they are cells

locks_fit : (tables : List Table) (c : CellRange) (ps : List Span) → option_map_or (is_key_of c.key) (table_of tables c.table) false ≡ true → list_all is_period ps ≡ true
    → list_all (λ (x : NewLock). are_cells (table_of tables) (cells_locked x)) (map (lock_over c) ps) ≡ true
locks_fit tables c [] key all = refl
locks_fit tables c (p ∷ ps) key all =
    let h = and_parts (is_period p) (list_all is_period ps) all in
    and_from (are_cells (table_of tables) (cells_locked (lock_over c p))) (list_all (λ (x : NewLock). are_cells (table_of tables) (cells_locked x)) (map (lock_over c) ps))
    (and_from (is_period p) (option_map_or (is_key_of c.key) (table_of tables c.table) false) h.0 key) (locks_fit tables c ps key h.1)

pub parts_fit : (tables : List Table) (o : Outline) (h : Holder) (cells : List CellRange) → list_all (are_cells (table_of tables)) cells ≡ true
    → list_all (λ (x : NewLock). are_cells (table_of tables) (cells_locked x)) (lock_parts o h cells) ≡ true
parts_fit tables o h cells all = all_parted (are_cells (table_of tables)) (λ (x : NewLock). are_cells (table_of tables) (cells_locked x)) (parts_at o h) each cells all
  where
    each : (c : CellRange) → are_cells (table_of tables) c ≡ true → list_all (λ (x : NewLock). are_cells (table_of tables) (cells_locked x)) (parts_at o h c) ≡ true
    each c fit =
        let k = and_parts (nat_lt c.from c.till && nat_le c.till END) (option_map_or (is_key_of c.key) (table_of tables c.table) false) fit in
        locks_fit tables c (free c.from c.till (spans_held o h c)) k.1 (free_fits c.from c.till (spans_held o h c) (and_parts (nat_lt c.from c.till) (nat_le c.till END) k.0).1)

-- ---- a record can keep their keys

locks_kept : (c : CellRange) (ps : List Span) → list_all can_keep c.key ≡ true → list_all (λ (x : NewLock). list_all can_keep x.key) (map (lock_over c) ps) ≡ true
locks_kept c [] key = refl
locks_kept c (p ∷ ps) key = and_from (list_all can_keep c.key) (list_all (λ (x : NewLock). list_all can_keep x.key) (map (lock_over c) ps)) key (locks_kept c ps key)

pub parts_kept : (o : Outline) (h : Holder) (cells : List CellRange) → list_all (λ (c : CellRange). list_all can_keep c.key) cells ≡ true → list_all (λ (x : NewLock). list_all can_keep x.key) (lock_parts o h cells) ≡ true
parts_kept o h cells all =
    all_parted (λ (c : CellRange). list_all can_keep c.key) (λ (x : NewLock). list_all can_keep x.key) (parts_at o h) (λ c key. locks_kept c (free c.from c.till (spans_held o h c)) key) cells all
