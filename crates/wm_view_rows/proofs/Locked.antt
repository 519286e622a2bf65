-- The locks on a table are on cells of it that keep the rules.
use Rattle.std.proofs.Common.{◌≡◌, ℕ, ◌<◌, ◌≤◌, ◌+◌, ◌&&◌, Bool, true, false, cond, nat_lt, nat_le, if◌then◌else◌, List, [], ◌∷◌, map, length, get_or, refl, sym, ap, ◌∙◌}
use Rattle.std.proofs.lemmas.Bool.{and_from, and_parts, leb-true, ltb-true, true≢false}
use Rattle.std.proofs.lemmas.List.Folds.{list_all-map, list_all_at}
use Rattle.std.specs.List.{filter, list_all}
use Rattle.std.specs.Option.{option_map_or}
use Rattle.wm_base.specs.declared.instant.TheConstants.{END}
use Rattle.wm_graph.specs.Parts.{Parts, space_of, table_of}
use Rattle.wm_graph.specs.Rules.{are_cells, differ, is_given, is_key_of, is_lock, is_short, keep_rules}
use Rattle.wm_guard.specs.Barring.{is_of, locks_in, stands_before}
use Rattle.wm_ordering.specs.Sorting.{placed, sorted}
use Rattle.wm_spec.specs.declared.record.cell_range.CellRange.{CellRange}
use Rattle.wm_spec.specs.declared.record.lock.Lock.{Lock}
use Rattle.wm_state.proofs.Apart.{Ruled, ruled}
use Rattle.wm_state.proofs.Tests.{all_if}

-- ---- tests of lists

-- what holds of each holds of each in order
all_placed : {X : Type 0} (lt : X → X → Bool) (test : X → Bool) (x : X) (ys : List X) → test x ≡ true → list_all test ys ≡ true → list_all test (placed lt x ys) ≡ true
all_placed lt test x [] one all = and_from (test x) true one refl
all_placed {X} lt test x (y ∷ ys) one all = by_test (lt y x) (all_placed lt test x ys one h.1)
  where
    h : (test y ≡ true) × (list_all test ys ≡ true)
    h = and_parts (test y) (list_all test ys) all

    by_test : (b : Bool) → list_all test (placed lt x ys) ≡ true → list_all test (if b then y ∷ placed lt x ys else x ∷ y ∷ ys) ≡ true
    by_test true rest = and_from (test y) (list_all test (placed lt x ys)) h.0 rest
    by_test false rest = and_from (test x) (list_all test (y ∷ ys)) one all

pub all_sorted : {X : Type 0} (lt : X → X → Bool) (test : X → Bool) (xs : List X) → list_all test xs ≡ true → list_all test (sorted lt xs) ≡ true
all_sorted lt test [] all = refl
all_sorted lt test (x ∷ xs) all =
    let h = and_parts (test x) (list_all test xs) all in
    all_placed lt test x (sorted lt xs) h.0 (all_sorted lt test xs h.1)

-- what holds of each holds of those that are chosen, as their test does
all_chosen : {X : Type 0} (test also : X → Bool) (xs : List X) → list_all also xs ≡ true → list_all (λ x. test x && also x) (filter test xs) ≡ true
all_chosen test also [] all = refl
all_chosen {X} test also (x ∷ xs) all = by_test (test x) refl (all_chosen test also xs h.1)
  where
    h : (also x ≡ true) × (list_all also xs ≡ true)
    h = and_parts (also x) (list_all also xs) all

    by_test : (b : Bool) → test x ≡ b → list_all (λ y. test y && also y) (filter test xs) ≡ true → list_all (λ y. test y && also y) (cond b (x ∷ filter test xs) (filter test xs)) ≡ true
    by_test true is rest = and_from (test x && also x) (list_all (λ y. test y && also y) (filter test xs)) (and_from (test x) (also x) is h.0) rest
    by_test false is rest = rest

-- ---- locks

-- a lock on a table, whose cells keep the rules
abbrev pub is_ruled : Parts → ℕ → Lock → Bool
is_ruled p n x = is_of n x && are_cells (table_of p.tables) x.cells

-- the cells of each lock do
pub each_ruled : (p : Parts) → keep_rules p ≡ true → list_all (λ (x : Lock). are_cells (table_of p.tables) x.cells) p.locks ≡ true
each_ruled p rules = by_rules (ruled p rules)
  where
    by_rules : Ruled p → list_all (λ (x : Lock). are_cells (table_of p.tables) x.cells) p.locks ≡ true
    by_rules r =
        all_if (is_lock (table_of p.tables) (space_of p.spaces) r.counters.work) (λ (x : Lock). are_cells (table_of p.tables) x.cells)
        (λ x is. (and_parts (are_cells (table_of p.tables) x.cells) (is_given (space_of p.spaces) x.space x.place) (and_parts (is_short x.user && nat_le x.making (r.counters.work + 2)) _ is).1).0)
        p.locks (and_parts (differ _ p.locks) _ r.locks).1

pub locks_ruled : (p : Parts) (n : ℕ) → keep_rules p ≡ true → list_all (is_ruled p n) (locks_in n p.locks) ≡ true
locks_ruled p n rules = all_sorted stands_before (is_ruled p n) (filter (is_of n) p.locks) (all_chosen (is_of n) (λ (x : Lock). are_cells (table_of p.tables) x.cells) p.locks (each_ruled p rules))

-- each is on a period
pub lock_period : {X : Type 0} (p : Parts) (n i : ℕ) (lock : X → Lock) (xs : List X) (x : X) → keep_rules p ≡ true → map lock xs ≡ locks_in n p.locks → i < length xs → x ≡ get_or xs i x
    → ((lock x).cells.from < (lock x).cells.till) × ((lock x).cells.till ≤ END)
lock_period {X} p n i lock xs x rules are within at = by_test (is_ruled p n (lock x)) refl
  where
    cells : CellRange
    cells = (lock x).cells

    all : list_all (λ (y : X). is_ruled p n (lock y)) xs ≡ true
    all = sym (list_all-map (is_ruled p n) lock xs) ∙ ap (list_all (is_ruled p n)) are ∙ locks_ruled p n rules

    by_test : (b : Bool) → is_ruled p n (lock x) ≡ b → (cells.from < cells.till) × (cells.till ≤ END)
    by_test false not = absurd (true≢false (sym all ∙ list_all_at (λ (y : X). is_ruled p n (lock y)) xs i x within (ap (λ y. is_ruled p n (lock y)) (sym at) ∙ not)))
    by_test true is =
        let ruled = (and_parts (is_of n (lock x)) (are_cells (table_of p.tables) cells) is).1 in
        let h = and_parts (nat_lt cells.from cells.till) (nat_le cells.till END) (and_parts (nat_lt cells.from cells.till && nat_le cells.till END) (option_map_or (is_key_of cells.key) (table_of p.tables cells.table) false) ruled).0 in
        (ltb-true cells.from cells.till h.0, leb-true cells.till END h.1)
