-- Ids by workspace and position: one put there, one taken out, and those of a workspace from a position on.
use Rattle.std.proofs.Common.{◌≡◌, ◌≢◌, ℕ, ◌<◌, ◌≤◌, ◌==◌, nat_le, Bool, true, false, cond, ◌&&◌, List, [], ◌∷◌, ◌++◌, map, append_assoc, append-nil, refl, sym, ap, ap₂, ◌∙◌, ◌⊎◌, inl, inr, arith}
use Rattle.std.proofs.lemmas.Bool.{cases_lt, eq-eqb, eqb-true, ne_eqb, and_parts}
use Rattle.std.proofs.lemmas.List.Sums.{take_while-cons}
use Rattle.std.proofs.lemmas.Map.Keys.{sorted_head, sorted_tail}
use Rattle.std.specs.BTreeMap.{is_at}
use Rattle.std.specs.BTreeMap.Range.{range_contains}
use Rattle.std.specs.BTreeSet.{insert_key}
use Rattle.std.specs.Cmp.{tied_then}
use Rattle.std.specs.List.{AllByRecursion, filter, take_while}
use Rattle.std.specs.List.Sorted.{IsStrictlySortedBy}
use Rattle.std.specs.Ordering.{nat_cmp, is_eq, match_ordering, ordering_then}
use Rattle.std.specs.Set.{remove_key}
use Rattle.std.specs.declared.cmp.Ordering.{Ordering}
use Rattle.std.specs.declared.cmp.Ordering.TheVariants.{Less, Equal, Greater}
use Rattle.std.specs.declared.ops.Bound.TheVariants.{Included, Unbounded}
use Rattle.wm_ids.proofs.IdLists.{equal_is}
use Rattle.wm_ids.proofs.Pairs.{pair_tied}
use Rattle.wm_ids.proofs.TableLists.{is_at-number}
use Rattle.wm_ids.specs.Ids.{ids_at_position, ids_since, placed, triple_order, without}

-- a workspace, a position and an id
abbrev pub Place : Type 0
Place = ℕ × ℕ × ℕ

-- it is at a position of a workspace
abbrev pub is_there : ℕ × ℕ → Place → Bool
is_there q e = (e.0 == q.0) && (e.1 == q.1)

-- ---- the order of places

-- at one position the ids are compared
order_there : (a b : Place) → a.0 ≡ b.0 → a.1 ≡ b.1 → triple_order a b ≡ nat_cmp a.2 b.2
order_there a b space position = ap₂ (λ s p. ordering_then (ordering_then s p) (nat_cmp a.2 b.2)) (equal_is a.0 b.0 space) (equal_is a.1 b.1 position)

same_place : (q : ℕ × ℕ) (a b : Place) → is_there q a ≡ true → is_there q b ≡ true → triple_order a b ≡ nat_cmp a.2 b.2
same_place q a b one other =
    let at = and_parts (a.0 == q.0) (a.1 == q.1) one in
    let too = and_parts (b.0 == q.0) (b.1 == q.1) other in
    order_there a b (eqb-true a.0 q.0 at.0 ∙ sym (eqb-true b.0 q.0 too.0)) (eqb-true a.1 q.1 at.1 ∙ sym (eqb-true b.1 q.1 too.1))

triple_tied : (a b : Place) → is_eq (triple_order a b) ≡ (((a.0 == b.0) && (a.1 == b.1)) && (a.2 == b.2))
triple_tied a b =
    sym (tied_then (ordering_then (nat_cmp a.0 b.0) (nat_cmp a.1 b.1)) (nat_cmp a.2 b.2))
    ∙ ap₂ (λ s t. s && t) (pair_tied (a.0, a.1) (b.0, b.1)) (is_at-number a.2 b.2)

triple_same : (a b : Place) → is_eq (triple_order a b) ≡ true → a ≡ b
triple_same a b tie =
    let one = and_parts ((a.0 == b.0) && (a.1 == b.1)) (a.2 == b.2) (sym (triple_tied a b) ∙ tie) in
    let two = and_parts (a.0 == b.0) (a.1 == b.1) one.0 in
    equal_parts (eqb-true a.0 b.0 two.0) (eqb-true a.1 b.1 two.1) (eqb-true a.2 b.2 one.1)
  where
    equal_parts : a.0 ≡ b.0 → a.1 ≡ b.1 → a.2 ≡ b.2 → a ≡ b
    equal_parts s p i = λ k. (s k, p k, i k)

-- ---- one put there

-- what is put before all others is the first at its position
placed_first : (q : ℕ × ℕ) (key : Place) (es : List Place) → is_there q key ≡ true → AllByRecursion (λ k. triple_order key k ≡ Less) es → placed key.2 (ids_at_position es q) ≡ key.2 ∷ ids_at_position es q
placed_first q key [] there above = refl
placed_first q key (e ∷ es) there above = by_test (is_there q e) refl (placed_first q key es there above.1)
  where
    by_test : (b : Bool) → is_there q e ≡ b → placed key.2 (ids_at_position es q) ≡ key.2 ∷ ids_at_position es q
        → placed key.2 (map (λ (d : Place). d.2) (cond b (e ∷ filter (is_there q) es) (filter (is_there q) es))) ≡ key.2 ∷ map (λ (d : Place). d.2) (cond b (e ∷ filter (is_there q) es) (filter (is_there q) es))
    by_test true too rest =
        ap (λ o. match_ordering o (key.2 ∷ e.2 ∷ ids_at_position es q) (e.2 ∷ ids_at_position es q) (e.2 ∷ placed key.2 (ids_at_position es q)))
        (sym (same_place q key e there too) ∙ above.0)
    by_test false too rest = rest

-- one more is at its position alone
pub placed_more : (q : ℕ × ℕ) (key : Place) (es : List Place) → IsStrictlySortedBy triple_order (insert_key triple_order es key)
    → ids_at_position (insert_key triple_order es key) q ≡ cond ((key.0 == q.0) && (key.1 == q.1)) (placed key.2 (ids_at_position es q)) (ids_at_position es q)
placed_more q key [] sorted = by_test (is_there q key)
  where
    by_test : (b : Bool) → map (λ (d : Place). d.2) (cond b (key ∷ []) []) ≡ cond b (key.2 ∷ []) []
    by_test true = refl
    by_test false = refl
placed_more q key (e ∷ es) sorted = by_order (triple_order key e) refl sorted (placed_more q key es)
  where
    ids : List Place → List ℕ
    ids xs = ids_at_position xs q

    before : (b : Bool) → is_there q key ≡ b → AllByRecursion (λ k. triple_order key k ≡ Less) (e ∷ es)
        → map (λ (d : Place). d.2) (cond b (key ∷ filter (is_there q) (e ∷ es)) (filter (is_there q) (e ∷ es))) ≡ cond b (placed key.2 (ids_at_position (e ∷ es) q)) (ids_at_position (e ∷ es) q)
    before true there above = sym (placed_first q key (e ∷ es) there above)
    before false there above = refl

    same : (b : Bool) → is_there q e ≡ b → key ≡ e
        → map (λ (d : Place). d.2) (cond b (e ∷ filter (is_there q) es) (filter (is_there q) es)) ≡ cond (is_there q key) (placed key.2 (map (λ (d : Place). d.2) (cond b (e ∷ filter (is_there q) es) (filter (is_there q) es)))) (map (λ (d : Place). d.2) (cond b (e ∷ filter (is_there q) es) (filter (is_there q) es)))
    same true there is =
        sym
        (ap (λ b. cond b (placed key.2 (e.2 ∷ ids_at_position es q)) (e.2 ∷ ids_at_position es q)) (ap (is_there q) is ∙ there)
        ∙ ap (λ o. match_ordering o (key.2 ∷ e.2 ∷ ids_at_position es q) (e.2 ∷ ids_at_position es q) (e.2 ∷ placed key.2 (ids_at_position es q))) (equal_is key.2 e.2 (ap (λ (d : Place). d.2) is)))
    same false there is = sym (ap (λ b. cond b (placed key.2 (ids_at_position es q)) (ids_at_position es q)) (ap (is_there q) is ∙ there))

    behind : (b : Bool) → is_there q e ≡ b → (t : Bool) → is_there q key ≡ t → triple_order key e ≡ Greater
        → ids_at_position (insert_key triple_order es key) q ≡ cond t (placed key.2 (ids_at_position es q)) (ids_at_position es q)
        → map (λ (d : Place). d.2) (cond b (e ∷ filter (is_there q) (insert_key triple_order es key)) (filter (is_there q) (insert_key triple_order es key))) ≡ cond t (placed key.2 (map (λ (d : Place). d.2) (cond b (e ∷ filter (is_there q) es) (filter (is_there q) es)))) (map (λ (d : Place). d.2) (cond b (e ∷ filter (is_there q) es) (filter (is_there q) es)))
    behind true there true too more rest =
        ap (λ l. e.2 ∷ l) rest
        ∙ sym
        (ap (λ o. match_ordering o (key.2 ∷ e.2 ∷ ids_at_position es q) (e.2 ∷ ids_at_position es q) (e.2 ∷ placed key.2 (ids_at_position es q)))
        (sym (same_place q key e too there) ∙ more))
    behind true there false too more rest = ap (λ l. e.2 ∷ l) rest
    behind false there t too more rest = rest

    by_order : (o : Ordering) → triple_order key e ≡ o → IsStrictlySortedBy triple_order (match_ordering o (key ∷ e ∷ es) (e ∷ es) (e ∷ insert_key triple_order es key))
        → (IsStrictlySortedBy triple_order (insert_key triple_order es key) → ids_at_position (insert_key triple_order es key) q ≡ cond (is_there q key) (placed key.2 (ids_at_position es q)) (ids_at_position es q))
        → ids_at_position (match_ordering o (key ∷ e ∷ es) (e ∷ es) (e ∷ insert_key triple_order es key)) q ≡ cond (is_there q key) (placed key.2 (ids_at_position (e ∷ es) q)) (ids_at_position (e ∷ es) q)
    by_order Less is rises rest = before (is_there q key) refl (sorted_head triple_order key (e ∷ es) rises)
    by_order Equal is rises rest = same (is_there q e) refl (triple_same key e (ap is_eq is))
    by_order Greater is rises rest = behind (is_there q e) refl (is_there q key) refl is (rest (sorted_tail triple_order e (insert_key triple_order es key) rises))

-- ---- one taken out

-- one less is missing at its position alone
pub placed_less : (q : ℕ × ℕ) (key : Place) (es : List Place)
    → ids_at_position (remove_key (is_at (triple_order key)) es) q ≡ cond ((key.0 == q.0) && (key.1 == q.1)) (without key.2 (ids_at_position es q)) (ids_at_position es q)
placed_less q key [] = by_test (is_there q key)
  where
    by_test : (b : Bool) → [] ≡ cond b (without key.2 []) []
    by_test true = refl
    by_test false = refl
placed_less q key (e ∷ es) = by_key (is_at (triple_order key) e) refl (placed_less q key es)
  where
    here : (b : Bool) → is_there q e ≡ b → key ≡ e
        → ids_at_position es q ≡ cond (is_there q key) (without key.2 (map (λ (d : Place). d.2) (cond b (e ∷ filter (is_there q) es) (filter (is_there q) es)))) (map (λ (d : Place). d.2) (cond b (e ∷ filter (is_there q) es) (filter (is_there q) es)))
    here true there is =
        sym
        (ap (λ b. cond b (without key.2 (e.2 ∷ ids_at_position es q)) (e.2 ∷ ids_at_position es q)) (ap (is_there q) is ∙ there)
        ∙ ap (λ b. cond b (ids_at_position es q) (e.2 ∷ without key.2 (ids_at_position es q))) (eq-eqb e.2 key.2 (sym (ap (λ (d : Place). d.2) is))))
    here false there is = sym (ap (λ b. cond b (without key.2 (ids_at_position es q)) (ids_at_position es q)) (ap (is_there q) is ∙ there))

    -- another at the same position has another id
    apart : is_there q e ≡ true → is_there q key ≡ true → is_at (triple_order key) e ≡ false → (e.2 == key.2) ≡ false
    apart there too other = by_id (e.2 == key.2) refl
      where
        by_id : (b : Bool) → (e.2 == key.2) ≡ b → b ≡ false
        by_id true id =
            let tie : is_at (triple_order key) e ≡ true = ap is_eq (same_place q key e too there ∙ equal_is key.2 e.2 (sym (eqb-true e.2 key.2 id))) in
            let no : true ≡ false = sym tie ∙ other in
            no
        by_id false id = refl

    away : (b : Bool) → is_there q e ≡ b → (t : Bool) → is_there q key ≡ t → is_at (triple_order key) e ≡ false
        → ids_at_position (remove_key (is_at (triple_order key)) es) q ≡ cond t (without key.2 (ids_at_position es q)) (ids_at_position es q)
        → map (λ (d : Place). d.2) (cond b (e ∷ filter (is_there q) (remove_key (is_at (triple_order key)) es)) (filter (is_there q) (remove_key (is_at (triple_order key)) es))) ≡ cond t (without key.2 (map (λ (d : Place). d.2) (cond b (e ∷ filter (is_there q) es) (filter (is_there q) es)))) (map (λ (d : Place). d.2) (cond b (e ∷ filter (is_there q) es) (filter (is_there q) es)))
    away true there true too other rest =
        ap (λ l. e.2 ∷ l) rest ∙ sym (ap (λ b. cond b (ids_at_position es q) (e.2 ∷ without key.2 (ids_at_position es q))) (apart there too other))
    away true there false too other rest = ap (λ l. e.2 ∷ l) rest
    away false there t too other rest = rest

    by_key : (b : Bool) → is_at (triple_order key) e ≡ b
        → ids_at_position (remove_key (is_at (triple_order key)) es) q ≡ cond (is_there q key) (without key.2 (ids_at_position es q)) (ids_at_position es q)
        → ids_at_position (cond b es (e ∷ remove_key (is_at (triple_order key)) es)) q ≡ cond (is_there q key) (without key.2 (ids_at_position (e ∷ es) q)) (ids_at_position (e ∷ es) q)
    by_key true tie rest = here (is_there q e) refl (triple_same key e tie)
    by_key false other rest = away (is_there q e) refl (is_there q key) refl other rest

-- ---- those from a position on

-- the place is at a position or behind it, of its workspace or another behind that
abbrev pub is_from : ℕ → ℕ → Place → Bool
is_from space from e = range_contains triple_order (Included (space, from, 0)) Unbounded e

-- it is at a position of the workspace or behind it
abbrev pub is_since : ℕ → ℕ → Place → Bool
is_since space from e = (e.0 == space) && nat_le from e.1

from_space : (space from : ℕ) (e : Place) → is_from space from e ≡ true → space ≤ e.0
from_space space from e is = by_number (cases_lt e.0 space)
  where
    by_number : (e.0 < space) ⊎ (space ≤ e.0) → space ≤ e.0
    by_number (inl less) = absurd (grind (arith, is, less))
    by_number (inr more) = more

from_position : (space from : ℕ) (e : Place) → is_from space from e ≡ true → e.0 ≡ space → nat_le from e.1 ≡ true
from_position space from e is same = by_number (cases_lt e.1 from)
  where
    by_number : (e.1 < from) ⊎ (from ≤ e.1) → nat_le from e.1 ≡ true
    by_number (inl less) = absurd (grind (arith, is, same, less))
    by_number (inr more) = grind (arith, more)

since_from : (space from : ℕ) (e : Place) → is_since space from e ≡ true → is_from space from e ≡ true
since_from space from e is = grind (arith, is)

less_space : (a b : Place) → triple_order a b ≡ Less → a.0 ≤ b.0
less_space a b less = by_number (cases_lt b.0 a.0)
  where
    by_number : (b.0 < a.0) ⊎ (a.0 ≤ b.0) → a.0 ≤ b.0
    by_number (inl above) = absurd (grind (arith, less, above))
    by_number (inr le) = le

-- behind another workspace there is none of them
none_behind : (space from : ℕ) (key : Place) → space < key.0 → (es : List Place) → AllByRecursion (λ k. triple_order key k ≡ Less) es → filter (is_since space from) es ≡ []
none_behind space from key above [] behind = refl
none_behind space from key above (e ∷ es) behind =
    ap (λ b. cond (b && nat_le from e.1) (e ∷ filter (is_since space from) es) (filter (is_since space from) es))
    (ne_eqb e.0 space (λ same. let le = less_space key e behind.0 in omega (arith, above, same, le)))
    ∙ none_behind space from key above es behind.1

-- those of the workspace that stand in the range, up to the first of another
since_is : (space from : ℕ) (es : List Place) → IsStrictlySortedBy triple_order es
    → take_while (λ (e : Place). e.0 == space) (filter (is_from space from) es) ≡ filter (is_since space from) es
since_is space from [] sorted = refl
since_is space from (e ∷ es) sorted = by_range (is_from space from e) refl (since_is space from es (sorted_tail triple_order e es sorted))
  where
    by_space : (b : Bool) → (e.0 == space) ≡ b → is_from space from e ≡ true
        → take_while (λ (d : Place). d.0 == space) (filter (is_from space from) es) ≡ filter (is_since space from) es
        → cond b (e ∷ take_while (λ (d : Place). d.0 == space) (filter (is_from space from) es)) [] ≡ cond (b && nat_le from e.1) (e ∷ filter (is_since space from) es) (filter (is_since space from) es)
    by_space true same is rest =
        ap (λ l. e ∷ l) rest ∙ sym (ap (λ b. cond b (e ∷ filter (is_since space from) es) (filter (is_since space from) es)) (from_position space from e is (eqb-true e.0 space same)))
    by_space false other is rest = sym (none_behind space from e above es (sorted_head triple_order e es sorted))
      where
        above : space < e.0
        above =
            let le = from_space space from e is in
            let apart : e.0 ≢ space = λ same. (let no : true ≡ false = sym (eq-eqb e.0 space same) ∙ other in cc) in
            omega (arith, le, apart)

    by_range : (b : Bool) → is_from space from e ≡ b → take_while (λ (d : Place). d.0 == space) (filter (is_from space from) es) ≡ filter (is_since space from) es
        → take_while (λ (d : Place). d.0 == space) (cond b (e ∷ filter (is_from space from) es) (filter (is_from space from) es)) ≡ cond (is_since space from e) (e ∷ filter (is_since space from) es) (filter (is_since space from) es)
    by_range true is rest = take_while-cons (λ (d : Place). d.0 == space) e (filter (is_from space from) es) ∙ by_space (e.0 == space) refl is rest
    by_range false is rest =
        rest ∙ sym (ap (λ b. cond b (e ∷ filter (is_since space from) es) (filter (is_since space from) es)) (out (is_since space from e) refl))
      where
        out : (b : Bool) → is_since space from e ≡ b → b ≡ false
        out true since = sym (since_from space from e since) ∙ is
        out false since = refl

-- the ids of those that stand before the first of another workspace
abbrev pub ids_ahead : ℕ → List Place → List ℕ
ids_ahead space es = map (λ (e : Place). e.2) (take_while (λ (e : Place). e.0 == space) es)

pub ahead_first : (space from : ℕ) (all left : List Place) (found : List ℕ) → IsStrictlySortedBy triple_order all → left ≡ filter (is_from space from) all → found ≡ [] → found ++ ids_ahead space left ≡ ids_since all space from
ahead_first space from all left found sorted is none =
    ap₂ (λ (l : List ℕ) (es : List Place). l ++ ids_ahead space es) none is ∙ ap (λ (es : List Place). map (λ (e : Place). e.2) es) (since_is space from all sorted)

pub ahead_more : (space : ℕ) (e : Place) (left rest : List Place) (found more all : List ℕ) → found ++ ids_ahead space left ≡ all → left ≡ e ∷ rest → e.0 ≡ space → more ≡ found ++ e.2 ∷ [] → more ++ ids_ahead space rest ≡ all
ahead_more space e left rest found more all ahead is same are =
    ap (λ l. l ++ ids_ahead space rest) are
    ∙ append_assoc found (e.2 ∷ []) (ids_ahead space rest)
    ∙ ap (λ (es : List Place). found ++ map (λ (d : Place). d.2) es) (sym (taken_first space e rest same))
    ∙ ap (λ (es : List Place). found ++ ids_ahead space es) (sym is)
    ∙ ahead
  where
    taken_first : (space : ℕ) (e : Place) (rest : List Place) → e.0 ≡ space → take_while (λ (d : Place). d.0 == space) (e ∷ rest) ≡ e ∷ take_while (λ (d : Place). d.0 == space) rest
    taken_first space e rest same =
        take_while-cons (λ (d : Place). d.0 == space) e rest ∙ ap (λ b. cond b (e ∷ take_while (λ (d : Place). d.0 == space) rest) []) (eq-eqb e.0 space same)

pub ahead_other : (space : ℕ) (e : Place) (left rest : List Place) (found all : List ℕ) → found ++ ids_ahead space left ≡ all → left ≡ e ∷ rest → e.0 ≢ space → found ≡ all
ahead_other space e left rest found all ahead is other =
    sym (append-nil found)
    ∙ ap (λ (es : List Place). found ++ map (λ (d : Place). d.2) es) (sym (take_while-cons (λ (d : Place). d.0 == space) e rest ∙ ap (λ b. cond b (e ∷ take_while (λ (d : Place). d.0 == space) rest) []) (ne_eqb e.0 space other)))
    ∙ ap (λ (es : List Place). found ++ ids_ahead space es) (sym is)
    ∙ ahead
