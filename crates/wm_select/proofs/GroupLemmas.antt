-- Rows that are put into groups one by one are the groups of GROUP BY.
use Rattle.std.proofs.Common.{◌≡◌, ◌≤◌, ◌-◌, Bool, true, false, cond, List, [], ◌∷◌, ◌++◌, length, get_or, take, drop, map, filter, Some, None, Option, unwrap_or, append-nil, refl, sym, ap, subst, ◌∙◌, arith}
use Rattle.std.proofs.Math.Bool.{false≢true}
use Rattle.std.proofs.lemmas.Cmp.{tied_itself}
use Rattle.std.proofs.lemmas.List.{take_all}
use Rattle.std.proofs.lemmas.List.Elements.{filter-append}
use Rattle.std.proofs.lemmas.List.Kept.{IsStrictlySortedBy-dedup}
use Rattle.std.proofs.lemmas.List.Sorted.{ranks_by}
use Rattle.std.specs.BTreeMap.{is_at}
use Rattle.std.specs.List.{AllByRecursion, IsDistinct, dedup_from}
use Rattle.std.specs.List.Sorted.{IsSorted, IsStrictlySortedBy, ties}
use Rattle.std.specs.Map.{keys_of, lookup, values_of}
use Rattle.std.specs.Ordering.{eq_by_cmp, is_eq, is_lt, ordering_reverse}
use Rattle.std.specs.declared.cmp.Ordering.{Ordering}
use Rattle.std.specs.declared.cmp.Ordering.TheVariants.{Less, Equal, Greater}
use Rattle.wm_listing.specs.declared.columns.Column.{Column}
use Rattle.wm_base.specs.declared.row.Row.{Row}
use Rattle.wm_syntax.specs.declared.column.Col.{Col}
use Rattle.wm_base.specs.declared.value.Value.{Value}
use Rattle.wm_select.specs.Groups.{AreGrouped, looked_up, rows_under, value_in}
use Rattle.wm_ordering.specs.Orders.{left_to_right_total, same_list}
use Rattle.wm_select.specs.Query.{group_values, in_groups}
use Rattle.wm_ordering.specs.Sorting.{left_to_right, sorted, stands_before, has_values_of, changes_from, changes, distinct_by}
use Rattle.wm_ordering.proofs.KeyLemmas.{map_map}
use Rattle.wm_ordering.proofs.SortLemmas.{Above, Rises, filter_in_order, one_order, rises_sorted}

abbrev Key : Type 0
Key = List Value

-- one key stands before another
abbrev before : Key → Key → Bool
before = stands_before (λ (k : Key). k)

-- what a key has
abbrev has : {X : Type 0} → (X → Key) → Key → X → Bool
has key w x = is_eq (left_to_right (key x) w)

turned : (a b : Key) → left_to_right a b ≡ ordering_reverse (left_to_right b a)
turned a b = left_to_right_total.antisymm a b

itself : (a : Key) → left_to_right a a ≡ Equal
itself a = tied_itself left_to_right_total a

turned_equal : (a b : Key) → is_eq (left_to_right a b) ≡ is_eq (left_to_right b a)
turned_equal a b = ap is_eq (turned a b) ∙ reversed (left_to_right b a)
  where
    reversed : (o : Ordering) → is_eq (ordering_reverse o) ≡ is_eq o
    reversed Less = refl
    reversed Equal = refl
    reversed Greater = refl

-- ---- rows are put into groups one by one

-- the values at columns whose names were looked up are those at the columns
pub values_found : (cols : List Col) (columns : List Column) (row : Row) → map (value_in row) (map (looked_up columns) cols) ≡ group_values cols columns row
values_found cols columns row = map_map (looked_up columns) (value_in row) cols

pub grouped_none : (cols : List Col) (columns : List Column) (groups : List (Key × List Row)) → groups ≡ [] → AreGrouped cols columns [] groups
grouped_none cols columns groups none = subst (λ gs. AreGrouped cols columns [] gs) (sym none) (record { own = λ key. refl; filled = λ key e. cc e })

pub grouped_more : (cols : List Col) (columns : List Column) (rows : List Row) (row : Row) (key : Key) (old next : List (Key × List Row)) → AreGrouped cols columns rows old → key ≡ group_values cols columns row
    → ((q : Key) → lookup (is_at (left_to_right q)) next ≡ cond (is_eq (left_to_right key q)) (Some (rows_under old key ++ row ∷ [])) (lookup (is_at (left_to_right q)) old))
    → AreGrouped cols columns (rows ++ row ∷ []) next
grouped_more cols columns rows row key old next was is put = record {
  own = λ q. own_by q (is_eq (left_to_right key q)) refl (put q);
  filled = λ q e. filled_by q (is_eq (left_to_right key q)) (put q) e;
}
  where
    has_q : Key → Row → Bool
    has_q q r = is_eq (left_to_right (group_values cols columns r) q)

    split : (q : Key) → filter (has_q q) (rows ++ row ∷ []) ≡ filter (has_q q) rows ++ filter (has_q q) (row ∷ [])
    split q = filter-append (has_q q) rows (row ∷ [])

    own_by : (q : Key) (b : Bool) → is_eq (left_to_right key q) ≡ b → lookup (is_at (left_to_right q)) next ≡ cond b (Some (rows_under old key ++ row ∷ [])) (lookup (is_at (left_to_right q)) old) → rows_under next q ≡ filter (has_q q) (rows ++ row ∷ [])
    own_by q true e found =
        let met : has_q q row ≡ true = ap (λ k. is_eq (left_to_right k q)) (sym is) ∙ e in
        let last : filter (has_q q) (row ∷ []) ≡ row ∷ [] = rw met in
        ap (λ (o : Option (List Row)). unwrap_or o []) found ∙ ap (λ rs. rs ++ row ∷ []) (ap (λ k. rows_under old k) (same_list key q e) ∙ was.own q)
        ∙ sym (split q ∙ ap (λ rs. filter (has_q q) rows ++ rs) last)
    own_by q false e found =
        let unmet : has_q q row ≡ false = ap (λ k. is_eq (left_to_right k q)) (sym is) ∙ e in
        let none : filter (has_q q) (row ∷ []) ≡ [] = rw unmet in
        ap (λ (o : Option (List Row)). unwrap_or o []) found ∙ was.own q ∙ sym (split q ∙ ap (λ rs. filter (has_q q) rows ++ rs) none ∙ append-nil (filter (has_q q) rows))

    not_none : (rs : List Row) → Some (rs ++ row ∷ []) ≡ Some [] → ⊥
    not_none [] e = cc e
    not_none (r ∷ rs) e = cc e

    filled_by : (q : Key) (b : Bool) → lookup (is_at (left_to_right q)) next ≡ cond b (Some (rows_under old key ++ row ∷ [])) (lookup (is_at (left_to_right q)) old) → lookup (is_at (left_to_right q)) next ≡ Some [] → ⊥
    filled_by q true found e = not_none (rows_under old key) (sym found ∙ e)
    filled_by q false found e = was.filled q (sym found ∙ e)

-- the same groups in another order
pub grouped_again : (cols : List Col) (columns : List Column) (rows : List Row) (old next : List (Key × List Row)) → AreGrouped cols columns rows old
    → ((q : Key) → lookup (is_at (left_to_right q)) next ≡ lookup (is_at (left_to_right q)) old) → AreGrouped cols columns rows next
grouped_again cols columns rows old next was same = record {
  own = λ key. ap (λ (o : Option (List Row)). unwrap_or o []) (same key) ∙ was.own key;
  filled = λ key e. was.filled key (sym (same key) ∙ e);
}

-- ---- keys that ascend

-- of keys that differ `dedup` leaves all
dedup_apart : (k : Key) (ks : List Key) → IsDistinct (eq_by_cmp left_to_right) (k ∷ ks) → dedup_from (eq_by_cmp left_to_right) k ks ≡ k ∷ ks
unfolding IsDistinct
dedup_apart k [] apart = refl
dedup_apart k (w ∷ ws) apart =
    let other : eq_by_cmp left_to_right w k ≡ false = turned_equal w k ∙ apart.0.0 in
    rw other (ap (λ zs. k ∷ zs) (dedup_apart w ws apart.1))

-- keys that differ and are sorted ascend
pub ascend_apart : (ks : List Key) → IsSorted left_to_right ks → IsDistinct (eq_by_cmp left_to_right) ks → IsStrictlySortedBy left_to_right ks
ascend_apart [] up apart = IsStrictlySortedBy-dedup left_to_right_total (λ x y. refl) [] up
ascend_apart (k ∷ ks) up apart = subst (λ zs. IsStrictlySortedBy left_to_right zs) (dedup_apart k ks apart) (IsStrictlySortedBy-dedup left_to_right_total (λ x y. refl) (k ∷ ks) up)

-- of keys that stand behind another none is it
others_apart : {X : Type 0} (k : Key) (rest : List (Key × X)) → AllByRecursion (λ y. left_to_right k y ≡ Less) (keys_of rest) → lookup (is_at (left_to_right k)) rest ≡ None
others_apart k [] behind = refl
others_apart k (e ∷ es) behind = let unmet : is_eq (left_to_right k e.0) ≡ false = ap is_eq behind.0 in rw unmet (others_apart k es behind.1)

-- each key has its value
values_by : {X : Type 0} (f : Key → X) (entries : List (Key × X)) → IsStrictlySortedBy left_to_right (keys_of entries) → ((key : Key) (x : X) → lookup (is_at (left_to_right key)) entries ≡ Some x → x ≡ f key) → values_of entries ≡ map f (keys_of entries)
unfolding IsStrictlySortedBy
values_by f [] up own = refl
values_by {X} f (e ∷ es) up own =
    let there : is_eq (left_to_right e.0 e.0) ≡ true = ap is_eq (itself e.0) in
    let head : e.1 ≡ f e.0 = own e.0 e.1 (rw there refl) in
    let tail : values_of es ≡ map f (keys_of es) = values_by f es up.1 (λ key x found. own key x (still key x (is_eq (left_to_right key e.0)) refl found)) in
    λ i. head i ∷ tail i
  where
    still : (key : Key) (x : X) (b : Bool) → is_eq (left_to_right key e.0) ≡ b → lookup (is_at (left_to_right key)) es ≡ Some x → lookup (is_at (left_to_right key)) (e ∷ es) ≡ Some x
    still key x false unmet found = rw unmet found
    still key x true met found =
        let none : lookup (is_at (left_to_right key)) es ≡ None = ap (λ k. lookup (is_at (left_to_right k)) es) (same_list key e.0 met) ∙ others_apart e.0 es up.0 in
        let nay : None ≡ Some x = sym none ∙ found in
        cc nay

above_keys : (k : Key) (ks : List Key) → AllByRecursion (λ y. left_to_right k y ≡ Less) ks → Above before k ks
above_keys k [] behind = tt
above_keys k (w ∷ ws) behind = (ap is_lt (turned w k ∙ ap ordering_reverse behind.0), above_keys k ws behind.1)

rises_keys : (ks : List Key) → IsStrictlySortedBy left_to_right ks → Rises before ks
unfolding IsStrictlySortedBy
rises_keys [] up = tt
rises_keys (k ∷ ks) up = (above_keys k ks up.0, rises_keys ks up.1)

-- a key once, where there are rows
abbrev once : {X : Type 0} → Key → List X → List Key
once w [] = []
once w (x ∷ xs) = w ∷ []

ties_equal : (w k : Key) → ties before w k ≡ is_eq (left_to_right k w)
ties_equal w k = by_order (left_to_right k w) refl
  where
    by_order : (o : Ordering) → left_to_right k w ≡ o → ties before w k ≡ is_eq (left_to_right k w)
    by_order Less e = let back : left_to_right w k ≡ Greater = turned w k ∙ ap ordering_reverse e in rw (e, back)
    by_order Equal e = let back : left_to_right w k ≡ Equal = turned w k ∙ ap ordering_reverse e in rw (e, back)
    by_order Greater e = let back : left_to_right w k ≡ Less = turned w k ∙ ap ordering_reverse e in rw (e, back)

none_tied : (k : Key) (ks : List Key) → AllByRecursion (λ y. left_to_right k y ≡ Less) ks → filter (ties before k) ks ≡ []
none_tied k [] behind = refl
none_tied k (w ∷ ws) behind =
    let unmet : ties before k w ≡ false = ties_equal k w ∙ turned_equal w k ∙ ap is_eq behind.0 in
    rw unmet (none_tied k ws behind.1)

-- of the keys of groups that are not empty one is that of some rows
key_once : (w : Key) (entries : List (Key × List Row)) → IsStrictlySortedBy left_to_right (keys_of entries) → (lookup (is_at (left_to_right w)) entries ≡ Some [] → ⊥) → filter (ties before w) (keys_of entries) ≡ once w (rows_under entries w)
unfolding IsStrictlySortedBy
key_once w [] up filled = refl
key_once w (e ∷ es) up filled = by_test (is_eq (left_to_right w e.0)) refl e.1 refl (λ h. key_once w es up.1 h)
  where
    by_test : (b : Bool) → is_eq (left_to_right w e.0) ≡ b → (rs : List Row) → e.1 ≡ rs → ((lookup (is_at (left_to_right w)) es ≡ Some [] → ⊥) → filter (ties before w) (keys_of es) ≡ once w (rows_under es w)) → filter (ties before w) (keys_of (e ∷ es)) ≡ once w (rows_under (e ∷ es) w)
    by_test false unmet rs is rest =
        let apart : ties before w e.0 ≡ false = ties_equal w e.0 ∙ turned_equal e.0 w ∙ unmet in
        let found : lookup (is_at (left_to_right w)) (e ∷ es) ≡ lookup (is_at (left_to_right w)) es = rw unmet in
        let skip : filter (ties before w) (keys_of (e ∷ es)) ≡ filter (ties before w) (keys_of es) = rw apart in
        skip ∙ rest (λ h. filled (found ∙ h)) ∙ sym (ap (λ (o : Option (List Row)). once w (unwrap_or o [])) found)
    by_test true met [] is rest = absurd (filled (rw met (ap (λ (rs : List Row). Some rs) is)))
    by_test true met (r ∷ rs) is rest =
        let tied : ties before w e.0 ≡ true = ties_equal w e.0 ∙ turned_equal e.0 w ∙ met in
        let found : lookup (is_at (left_to_right w)) (e ∷ es) ≡ Some e.1 = rw met in
        let same : w ≡ e.0 = same_list w e.0 met in
        let front : filter (ties before w) (keys_of (e ∷ es)) ≡ e.0 ∷ filter (ties before w) (keys_of es) = rw tied in
        let none : filter (ties before w) (keys_of es) ≡ [] = ap (λ k. filter (ties before k) (keys_of es)) same ∙ none_tied e.0 (keys_of es) up.0 in
        front ∙ ap (λ ks. e.0 ∷ ks) none ∙ ap (λ k. k ∷ []) (sym same) ∙ sym (ap (λ (o : Option (List Row)). once w (unwrap_or o [])) (found ∙ ap (λ (rs : List Row). Some rs) is))

-- ---- the keys of rows in order, each once

module _ {X : Type 0} (key : X → Key) where
  above_changes : (k x : X) (ys : List X) → Above (stands_before key) k ys → Above (stands_before key) k (changes_from (has_values_of key) x ys)
  above_changes k x [] above = tt
  above_changes k x (y ∷ ys) above = by_test (has_values_of key x y) refl (above_changes k x ys above.1) (above_changes k y ys above.1)
    where
      by_test : (b : Bool) → has_values_of key x y ≡ b → Above (stands_before key) k (changes_from (has_values_of key) x ys) → Above (stands_before key) k (changes_from (has_values_of key) y ys) → Above (stands_before key) k (changes_from (has_values_of key) x (y ∷ ys))
      by_test true e here there = rw e here
      by_test false e here there = rw e (above.0, there)

  rises_changes_from : (x : X) (ys : List X) → Rises (stands_before key) ys → Rises (stands_before key) (changes_from (has_values_of key) x ys)
  rises_changes_from x [] rises = tt
  rises_changes_from x (y ∷ ys) rises = by_test (has_values_of key x y) refl (rises_changes_from x ys rises.1) (rises_changes_from y ys rises.1)
    where
      by_test : (b : Bool) → has_values_of key x y ≡ b → Rises (stands_before key) (changes_from (has_values_of key) x ys) → Rises (stands_before key) (changes_from (has_values_of key) y ys) → Rises (stands_before key) (changes_from (has_values_of key) x (y ∷ ys))
      by_test true e here there = rw e here
      by_test false e here there = rw e (above_changes y y ys rises.0, there)

  rises_changes : (ys : List X) → Rises (stands_before key) ys → Rises (stands_before key) (changes (has_values_of key) ys)
  rises_changes [] rises = tt
  rises_changes (y ∷ ys) rises = (above_changes y y ys rises.0, rises_changes_from y ys rises.1)

  above_map : (x : X) (ys : List X) → Above (stands_before key) x ys → Above before (key x) (map key ys)
  above_map x [] above = tt
  above_map x (y ∷ ys) above = (above.0, above_map x ys above.1)

  rises_map : (ys : List X) → Rises (stands_before key) ys → Rises before (map key ys)
  rises_map [] rises = tt
  rises_map (y ∷ ys) rises = (above_map y ys rises.0, rises_map ys rises.1)

  -- behind one that has the key, and another that has not, none has it
  none_behind : (w : Key) (x y : X) (ys : List X) → has key w x ≡ true → has_values_of key x y ≡ false → stands_before key y x ≡ false → Above (stands_before key) y ys → filter (has key w) ys ≡ []
  none_behind w x y [] own other low above = refl
  none_behind w x y (z ∷ zs) own other low above = let unmet : has key w z ≡ false = apart in rw unmet (none_behind w x y zs own other low above.1)
    where
      is : key x ≡ w
      is = same_list (key x) w own

      -- x stands before y
      less : left_to_right (key x) (key y) ≡ Less
      less = by_order (left_to_right (key x) (key y)) (left_to_right (key y) (key x)) (turned (key x) (key y)) other low
        where
          by_order : (o p : Ordering) → o ≡ ordering_reverse p → is_eq o ≡ false → is_lt p ≡ false → o ≡ Less
          by_order o Less e n l = cc l
          by_order o Equal e n l = absurd (false≢true (sym n ∙ ap is_eq e))
          by_order o Greater e n l = e

      -- and so before z, which does not stand before y
      further : (o : Ordering) → left_to_right (key z) (key y) ≡ o → is_lt o ≡ false → left_to_right (key x) (key z) ≡ Less
      further Less e l = cc l
      further Equal e l = turned (key x) (key z) ∙ ap ordering_reverse (left_to_right_total.congr (key z) (key y) (key x) e) ∙ sym (turned (key x) (key y)) ∙ less
      further Greater e l = left_to_right_total.trans (key x) (key y) (key z) less (turned (key y) (key z) ∙ ap ordering_reverse e)

      apart : has key w z ≡ false
      apart = ap (λ k. is_eq (left_to_right (key z) k)) (sym is) ∙ turned_equal (key z) (key x) ∙ ap is_eq (further (left_to_right (key z) (key y)) refl above.0)

  -- of one that stays and others in order a key is once among those that stay, where the first has it not
  once_from : (w : Key) (x : X) (ys : List X) → Rises (stands_before key) (x ∷ ys) → filter (ties before w) (map key (changes_from (has_values_of key) x ys)) ≡ cond (has key w x) [] (once w (filter (has key w) ys))
  once_from w x [] rises = by_test (has key w x)
    where
      by_test : (b : Bool) → [] ≡ cond b [] (once {X = X} w [])
      by_test true = refl
      by_test false = refl
  once_from w x (y ∷ ys) rises = by_same (has_values_of key x y) refl (once_from w x ys (rises.0.1, rises.1.1)) (once_from w y ys rises.1)
    where
      Goal : Type 0
      Goal = filter (ties before w) (map key (changes_from (has_values_of key) x (y ∷ ys))) ≡ cond (has key w x) [] (once w (filter (has key w) (y ∷ ys)))

      by_same : (b : Bool) → has_values_of key x y ≡ b → filter (ties before w) (map key (changes_from (has_values_of key) x ys)) ≡ cond (has key w x) [] (once w (filter (has key w) ys))
          → filter (ties before w) (map key (changes_from (has_values_of key) y ys)) ≡ cond (has key w y) [] (once w (filter (has key w) ys)) → Goal
      by_same true e here there = by_own (has key w x) refl
        where
          alike : has key w y ≡ has key w x
          alike = ap (λ k. is_eq (left_to_right k w)) (sym (same_list (key x) (key y) e))

          stay : changes_from (has_values_of key) x (y ∷ ys) ≡ changes_from (has_values_of key) x ys
          stay = rw e

          goes : filter (ties before w) (map key (changes_from (has_values_of key) x (y ∷ ys))) ≡ cond (has key w x) [] (once w (filter (has key w) ys))
          goes = ap (λ zs. filter (ties before w) (map key zs)) stay ∙ here

          by_own : (b : Bool) → has key w x ≡ b → Goal
          by_own true own = goes ∙ rw own
          by_own false own =
              let skip : filter (has key w) (y ∷ ys) ≡ filter (has key w) ys = rw (alike ∙ own) in
              goes ∙ ap (λ zs. cond (has key w x) [] (once w zs)) (sym skip)
      by_same false e here there = by_own (has key w x) (has key w y) refl refl
        where
          stay : changes_from (has_values_of key) x (y ∷ ys) ≡ y ∷ changes_from (has_values_of key) y ys
          stay = rw e

          goes : filter (ties before w) (map key (changes_from (has_values_of key) x (y ∷ ys))) ≡ filter (ties before w) (key y ∷ map key (changes_from (has_values_of key) y ys))
          goes = ap (λ zs. filter (ties before w) (map key zs)) stay

          by_own : (b c : Bool) → has key w x ≡ b → has key w y ≡ c → Goal
          by_own true true own other =
              let one : key x ≡ key y = same_list (key x) w own ∙ sym (same_list (key y) w other) in
              let met : has_values_of key x y ≡ true = ap (λ k. is_eq (left_to_right k (key y))) one ∙ ap is_eq (itself (key y)) in
              absurd (false≢true (sym e ∙ met))
          by_own true false own other =
              let untied : ties before w (key y) ≡ false = ties_equal w (key y) ∙ other in
              let skip : filter (ties before w) (key y ∷ map key (changes_from (has_values_of key) y ys)) ≡ filter (ties before w) (map key (changes_from (has_values_of key) y ys)) = rw untied in
              let none : filter (has key w) ys ≡ [] = none_behind w x y ys own e rises.0.0 rises.1.0 in
              let rest : cond (has key w y) [] (once w (filter (has key w) ys)) ≡ [] = rw (other, none) in
              let whole : cond (has key w x) [] (once w (filter (has key w) (y ∷ ys))) ≡ [] = rw own in
              goes ∙ skip ∙ there ∙ rest ∙ sym whole
          by_own false true own other =
              let tied : ties before w (key y) ≡ true = ties_equal w (key y) ∙ other in
              let front : filter (ties before w) (key y ∷ map key (changes_from (has_values_of key) y ys)) ≡ key y ∷ filter (ties before w) (map key (changes_from (has_values_of key) y ys)) = rw tied in
              let rest : cond (has key w y) [] (once w (filter (has key w) ys)) ≡ [] = rw other in
              let whole : cond (has key w x) [] (once w (filter (has key w) (y ∷ ys))) ≡ w ∷ [] = rw (own, other) in
              goes ∙ front ∙ ap (λ ks. key y ∷ ks) (there ∙ rest) ∙ ap (λ k. k ∷ []) (same_list (key y) w other) ∙ sym whole
          by_own false false own other =
              let untied : ties before w (key y) ≡ false = ties_equal w (key y) ∙ other in
              let skip : filter (ties before w) (key y ∷ map key (changes_from (has_values_of key) y ys)) ≡ filter (ties before w) (map key (changes_from (has_values_of key) y ys)) = rw untied in
              let rest : cond (has key w y) [] (once w (filter (has key w) ys)) ≡ once w (filter (has key w) ys) = rw other in
              let whole : cond (has key w x) [] (once w (filter (has key w) (y ∷ ys))) ≡ once w (filter (has key w) ys) = rw (own, other) in
              goes ∙ skip ∙ there ∙ rest ∙ sym whole

  once_changes : (w : Key) (ys : List X) → Rises (stands_before key) ys → filter (ties before w) (map key (changes (has_values_of key) ys)) ≡ once w (filter (has key w) ys)
  once_changes w [] rises = refl
  once_changes w (y ∷ ys) rises = by_own (has key w y) refl (once_from w y ys rises)
    where
      by_own : (b : Bool) → has key w y ≡ b → filter (ties before w) (map key (changes_from (has_values_of key) y ys)) ≡ cond (has key w y) [] (once w (filter (has key w) ys)) → filter (ties before w) (map key (changes (has_values_of key) (y ∷ ys))) ≡ once w (filter (has key w) (y ∷ ys))
      by_own true own rest =
          let tied : ties before w (key y) ≡ true = ties_equal w (key y) ∙ own in
          let front : filter (ties before w) (map key (changes (has_values_of key) (y ∷ ys))) ≡ key y ∷ filter (ties before w) (map key (changes_from (has_values_of key) y ys)) = rw tied in
          let none : cond (has key w y) [] (once w (filter (has key w) ys)) ≡ [] = rw own in
          let whole : once w (filter (has key w) (y ∷ ys)) ≡ w ∷ [] = rw own in
          front ∙ ap (λ ks. key y ∷ ks) (rest ∙ none) ∙ ap (λ k. k ∷ []) (same_list (key y) w own) ∙ sym whole
      by_own false own rest =
          let untied : ties before w (key y) ≡ false = ties_equal w (key y) ∙ own in
          let skip : filter (ties before w) (map key (changes (has_values_of key) (y ∷ ys))) ≡ filter (ties before w) (map key (changes_from (has_values_of key) y ys)) = rw untied in
          let others : cond (has key w y) [] (once w (filter (has key w) ys)) ≡ once w (filter (has key w) ys) = rw own in
          let whole : once w (filter (has key w) (y ∷ ys)) ≡ once w (filter (has key w) ys) = rw own in
          skip ∙ rest ∙ others ∙ sym whole

  -- the keys of the first of each key are in order, and each is once that of some
  one_each : (w : Key) (xs : List X) → filter (ties before w) (map key (distinct_by key xs)) ≡ once w (filter (has key w) xs)
  one_each w xs =
      once_changes w (sorted (stands_before key) xs) (rises_sorted (stands_before key) (ranks_by left_to_right_total key) xs)
      ∙ ap (λ ys. once w ys) (filter_in_order (stands_before key) (has key w) tied xs)
    where
      tied : (x y : X) → has key w x ≡ true → has key w y ≡ true → stands_before key y x ≡ false
      tied x y ex ey = ap (λ k. is_lt (left_to_right (key y) k)) (same_list (key x) w ex ∙ sym (same_list (key y) w ey)) ∙ ap is_lt (itself (key y))

-- ---- the groups

alike_groups : (key : Row → Key) (rows firsts : List Row) → map (λ (first : Row). filter (has key (key first)) rows) firsts ≡ map (λ (first : Row). filter (has_values_of key first) rows) firsts
alike_groups key rows firsts = λ i. map (λ (first : Row). filter (λ (row : Row). turned_equal (key row) (key first) i) rows) firsts

groups_by : (cols : List Col) (columns : List Column) (rows : List Row) (entries : List (Key × List Row)) → IsStrictlySortedBy left_to_right (keys_of entries) → AreGrouped cols columns rows entries
    → values_of entries ≡ map (λ (first : Row). filter (has_values_of (group_values cols columns) first) rows) (distinct_by (group_values cols columns) rows)
groups_by cols columns rows entries up grouped =
    values_by group entries up (λ k rs found. sym (ap (λ (o : Option (List Row)). unwrap_or o []) found) ∙ grouped.own k)
    ∙ ap (λ ks. map group ks) keys
    ∙ map_map key group firsts
    ∙ alike_groups key rows firsts
  where
    key : Row → Key
    key = group_values cols columns

    group : Key → List Row
    group k = filter (has (group_values cols columns) k) rows

    firsts : List Row
    firsts = distinct_by (group_values cols columns) rows

    keys : keys_of entries ≡ map (group_values cols columns) (distinct_by (group_values cols columns) rows)
    keys =
        one_order before (ranks_by left_to_right_total (λ (k : Key). k)) (keys_of entries) (map (group_values cols columns) (distinct_by (group_values cols columns) rows)) (rises_keys (keys_of entries) up)
        (rises_map (group_values cols columns) (distinct_by (group_values cols columns) rows) (rises_changes (group_values cols columns) (sorted (stands_before (group_values cols columns)) rows) (rises_sorted (stands_before (group_values cols columns)) (ranks_by left_to_right_total (group_values cols columns)) rows)))
        (λ w. key_once w entries up (grouped.filled w) ∙ ap (λ (rs : List Row). once w rs) (grouped.own w) ∙ sym (one_each (group_values cols columns) w rows))

-- with GROUP BY they are the groups of the query
pub groups_are : (col : Col) (cols : List Col) (columns : List Column) (rows : List Row) (entries : List (Key × List Row)) → IsStrictlySortedBy left_to_right (keys_of entries) → AreGrouped (col ∷ cols) columns rows entries → values_of entries ≡ in_groups (col ∷ cols) columns rows
groups_are col cols = groups_by (col ∷ cols)

-- the first column, before the others
pub front_is : (cols : List Col) (first : Col) → 1 ≤ length cols → first ≡ get_or cols 0 first → first ∷ take (length cols - 1) (drop 1 cols) ≡ cols
front_is [] first some is = absurd (omega (arith, some))
front_is (col ∷ cols) first some is =
    let others : take (length (col ∷ cols) - 1) cols ≡ cols = take_all (length (col ∷ cols) - 1) cols (omega arith) in
    ap (λ (rest : List Col). first ∷ rest) others ∙ ap (λ (one : Col). one ∷ cols) is
