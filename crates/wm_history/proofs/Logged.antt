-- Entries of a log on a table, by position; and what the rules say of an entry.
use Rattle.std.proofs.Common.{◌≡◌, ℕ, ◌<◌, ◌≤◌, ◌==◌, nat_lt, nat_le, Bool, true, false, cond, ◌&&◌, List, [], ◌∷◌, ◌++◌, map, Option, Some, None, refl, sym, ap, subst, ◌∙◌, append_assoc, arith}
use Rattle.std.proofs.lemmas.Map.Keys.{sorted_head, sorted_tail}
use Rattle.std.proofs.lemmas.Bool.{and_parts, eq-eqb, leb-true, ltb-true}
use Rattle.std.specs.List.{find, list_all}
use Rattle.std.specs.List.Sorted.{IsStrictlySortedBy}
use Rattle.std.specs.Option.{option_and_then, option_map_or}
use Rattle.std.specs.Ordering.{nat_cmp}
use Rattle.wm_base.proofs.Plain.{less_apart}
use Rattle.wm_base.specs.declared.instant.TheConstants.{END}
use Rattle.wm_graph.specs.Parts.{Parts, as_hist, parts_of, row_of, space_of, table_of}
use Rattle.wm_graph.specs.Rules.{are_cells, differ, is_hist, is_short, keep_rules, same_position}
use Rattle.wm_spec.specs.Records.{record_at}
use Rattle.wm_spec.specs.declared.record.Record.{Record}
use Rattle.wm_spec.specs.declared.record.cell_range.CellRange.{CellRange}
use Rattle.wm_spec.specs.declared.record.hist.Hist.{Hist}
use Rattle.wm_spec.specs.declared.record.space.Space.{Space}
use Rattle.wm_spec.specs.declared.record.stored.Stored.{Stored}
use Rattle.wm_ids.proofs.IdLists.{less_than}
use Rattle.wm_index.proofs.Firsts.{find-filter}
use Rattle.wm_index.specs.Hists.{AreByPosition, logged_on, stands_at}
use Rattle.wm_state.proofs.Apart.{ruled}
use Rattle.wm_state.proofs.ByKind.{Split, kinds, kinds-one, split_of}
use Rattle.wm_state.proofs.Tests.{all_if, all_middle}
use Rattle.wm_version_rows.proofs.Late.{ended}
use Rattle.wm_view_rows.specs.History.{AreLogged, Follow}

-- ---- the entries of a log

follow : (xs : List Hist) → IsStrictlySortedBy nat_cmp (map (λ (x : Hist). x.position) xs) → Follow xs
follow [] ascend = tt
follow (x ∷ []) ascend = tt
follow (x ∷ y ∷ ys) ascend = (
  less_than x.position y.position (sorted_head nat_cmp x.position (map (λ (z : Hist). z.position) (y ∷ ys)) ascend).0,
  follow (y ∷ ys) (sorted_tail nat_cmp x.position (map (λ (z : Hist). z.position) (y ∷ ys)) ascend),
)

-- the same in another order
turned : (n table position : ℕ) (xs : List Hist) → find (λ (x : Hist). (x.position == position) && ((x.space == n) && (x.cells.table == table))) xs ≡ find (λ (x : Hist). (x.space == n) && ((x.cells.table == table) && (x.position == position))) xs
turned n table position [] = refl
turned n table position (x ∷ xs) =
    ap (λ b. cond b (Some x) (find (λ (y : Hist). (y.position == position) && ((y.space == n) && (y.cells.table == table))) xs)) (moved (x.position == position) (x.space == n) (x.cells.table == table))
    ∙ ap (λ o. cond ((x.space == n) && ((x.cells.table == table) && (x.position == position))) (Some x) o) (turned n table position xs)
  where
    moved : (a b c : Bool) → (a && (b && c)) ≡ (b && (c && a))
    moved true true true = refl
    moved true true false = refl
    moved true false c = refl
    moved false true true = refl
    moved false true false = refl
    moved false false c = refl

-- by position they are the records of a log on a table
pub are_logged : (p : Parts) (n table : ℕ) (xs : List Hist) → AreByPosition xs (logged_on n table p.hists) → AreLogged p n table xs
are_logged p n table xs are = record {
  follow = follow xs are.ascend;
  same = λ position. are.same position ∙ find-filter (stands_at position) (λ (x : Hist). (x.space == n) && (x.cells.table == table)) p.hists ∙ turned n table position p.hists;
}

-- ---- an entry

-- the cells of an entry have a moment, and none behind the end of time
pub record HasTime (c : CellRange) : Type 0 where
  pub some : c.from < c.till
  pub till : c.till ≤ END

-- what holds of each entry holds of that of an id
one_found : (test : Hist → Bool) (ss : List Stored) (id : ℕ) (x : Hist) → option_and_then as_hist (record_at ss id) ≡ Some x → list_all test (kinds as_hist ss) ≡ true → test x ≡ true
one_found test ss id x found each = by_record (record_at ss id) refl found
  where
    by_record : (o : Option Record) → record_at ss id ≡ o → option_and_then as_hist o ≡ Some x → test x ≡ true
    by_record None none is = cc
    by_record (Some r) some is = by_split (split_of ss id r some)
      where
        by_split : Split ss id r → test x ≡ true
        by_split s = all_middle test x (kinds as_hist s.front) (kinds as_hist s.back) (ap (list_all test) (sym (ap (kinds as_hist) s.is ∙ kinds-one as_hist s.front s.back id r x is)) ∙ each)

time_of : (p : Parts) (next : ℕ) (x : Hist) → is_hist (table_of p.tables) (space_of p.spaces) (row_of p.rows) next x ≡ true → HasTime x.cells
time_of p next x is =
    let h = and_parts (are_cells (table_of p.tables) x.cells) _ (and_parts (is_short x.user && option_map_or (λ (s : Space). nat_lt x.position s.log_length) (space_of p.spaces x.space) false) _ is).1 in
    let g = and_parts (nat_lt x.cells.from x.cells.till && nat_le x.cells.till END) _ h.0 in
    let k = and_parts (nat_lt x.cells.from x.cells.till) (nat_le x.cells.till END) g.0 in
    record { some = ltb-true x.cells.from x.cells.till k.0; till = leb-true x.cells.till END k.1 }

pub has_time : (ss : List Stored) (id : ℕ) (x : Hist) → keep_rules (parts_of ss) ≡ true → option_and_then as_hist (record_at ss id) ≡ Some x → HasTime x.cells
unfolding parts_of
has_time ss id x rules found =
    let r = ruled (parts_of ss) rules in
    time_of (parts_of ss) r.counters.next_stamp x
    (one_found (is_hist (table_of (parts_of ss).tables) (space_of (parts_of ss).spaces) (row_of (parts_of ss).rows) r.counters.next_stamp) ss id x found
    (and_parts (differ same_position (parts_of ss).hists) _ r.hists).1)

-- ---- each entry of a log on a table

-- the first of them stands before each other
stands_before : (y : Hist) (front : List Hist) (x : Hist) (back : List Hist) → Follow (y ∷ front ++ x ∷ back) → y.position < x.position
stands_before y [] x back order = order.0
stands_before y (z ∷ front) x back order = let first = order.0 in let rest = stands_before z front x back order.1 in omega (arith, first, rest)

behind_first : (y : Hist) (xs : List Hist) → Follow (y ∷ xs) → Follow xs
behind_first y [] order = tt
behind_first y (z ∷ zs) order = order.1

-- each is found at its own position
found_own : (front : List Hist) (x : Hist) (back : List Hist) → Follow (front ++ x ∷ back) → find (λ (y : Hist). y.position == x.position) (front ++ x ∷ back) ≡ Some x
found_own [] x back order = ap (λ b. cond b (Some x) (find (λ (y : Hist). y.position == x.position) back)) (eq-eqb x.position x.position refl)
found_own (y ∷ front) x back order =
    ap (λ b. cond b (Some y) (find (λ (z : Hist). z.position == x.position) (front ++ x ∷ back))) (less_apart y.position x.position (stands_before y front x back order))
    ∙ found_own front x back (behind_first y (front ++ x ∷ back) order)

-- what was found passes the test by which it was found, and each that all pass
found_passes : (sought test : Hist → Bool) (x : Hist) (xs : List Hist) → find sought xs ≡ Some x → list_all test xs ≡ true → (sought x ≡ true) × (test x ≡ true)
found_passes sought test x [] found each = cc
found_passes sought test x (y ∷ ys) found each = by_test (sought y) refl found (λ is. found_passes sought test x ys is both.1)
  where
    both : (test y ≡ true) × (list_all test ys ≡ true)
    both = and_parts (test y) (list_all test ys) each

    the_same : (y ≡ x) → sought y ≡ true → (sought x ≡ true) × (test x ≡ true)
    the_same is passes = subst (λ (z : Hist). (sought z ≡ true) × (test z ≡ true)) is (passes, both.0)

    by_test : (b : Bool) → sought y ≡ b → cond b (Some y) (find sought ys) ≡ Some x → (find sought ys ≡ Some x → (sought x ≡ true) × (test x ≡ true)) → (sought x ≡ true) × (test x ≡ true)
    by_test true passes is rest = the_same (cc) passes
    by_test false fails is rest = rest is

-- each is on the table, and passes a test that the records of all entries pass
logged_pass : (p : Parts) (n table : ℕ) (test : Hist → Bool) (front xs : List Hist) → AreLogged p n table (front ++ xs) → list_all test p.hists ≡ true → list_all (λ (x : Hist). (x.cells.table == table) && test x) xs ≡ true
logged_pass p n table test front [] are each = refl
logged_pass p n table test front (x ∷ xs) are each =
    let passes =
    found_passes (λ (y : Hist). (y.space == n) && ((y.cells.table == table) && (y.position == x.position))) test x p.hists (sym (are.same x.position) ∙ found_own front x xs are.follow) each in
    let own = and_parts (x.space == n) ((x.cells.table == table) && (x.position == x.position)) passes.0 in
    let place = and_parts (x.cells.table == table) (x.position == x.position) own.1 in
    both (x.cells.table == table) (test x) (list_all (λ (y : Hist). (y.cells.table == table) && test y) xs) place.0 passes.1
    (logged_pass p n table test (front ++ x ∷ []) xs (subst (AreLogged p n table) (sym (append_assoc front (x ∷ []) xs)) are) each)
  where
    both : (a b c : Bool) → a ≡ true → b ≡ true → c ≡ true → ((a && b) && c) ≡ true
    both a b c first second third = rw (first, second, third) refl

-- none goes on behind the end of time
have_ended : (p : Parts) → keep_rules p ≡ true → list_all (λ (x : Hist). nat_le x.cells.till END) p.hists ≡ true
have_ended p rules =
    let r = ruled p rules in
    all_if (is_hist (table_of p.tables) (space_of p.spaces) (row_of p.rows) r.counters.next_stamp) (λ (x : Hist). nat_le x.cells.till END) (one r.counters.next_stamp) p.hists
    (and_parts (differ same_position p.hists) (list_all (is_hist (table_of p.tables) (space_of p.spaces) (row_of p.rows) r.counters.next_stamp) p.hists) r.hists).1
  where
    one : (next : ℕ) (x : Hist) → is_hist (table_of p.tables) (space_of p.spaces) (row_of p.rows) next x ≡ true → nat_le x.cells.till END ≡ true
    one next x is =
        let h = and_parts (is_short x.user && option_map_or (λ (s : Space). nat_lt x.position s.log_length) (space_of p.spaces x.space) false) _ is in
        ended (table_of p.tables) x.cells (and_parts (are_cells (table_of p.tables) x.cells) _ h.1).0

-- so that it is on the table
pub all_on : (p : Parts) (n table : ℕ) (xs : List Hist) → keep_rules p ≡ true → AreLogged p n table xs → list_all (λ (x : Hist). x.cells.table == table) xs ≡ true
all_on p n table xs rules are =
    all_if (λ (x : Hist). (x.cells.table == table) && nat_le x.cells.till END) (λ (x : Hist). x.cells.table == table) (λ x e. (and_parts (x.cells.table == table) (nat_le x.cells.till END) e).0) xs
    (logged_pass p n table (λ (x : Hist). nat_le x.cells.till END) [] xs are (have_ended p rules))

-- and none goes on behind the end of time
pub all_ended : (p : Parts) (n table : ℕ) (xs : List Hist) → keep_rules p ≡ true → AreLogged p n table xs → list_all (λ (x : Hist). nat_le x.cells.till END) xs ≡ true
all_ended p n table xs rules are =
    all_if (λ (x : Hist). (x.cells.table == table) && nat_le x.cells.till END) (λ (x : Hist). nat_le x.cells.till END) (λ x e. (and_parts (x.cells.table == table) (nat_le x.cells.till END) e).1) xs
    (logged_pass p n table (λ (x : Hist). nat_le x.cells.till END) [] xs are (have_ended p rules))
