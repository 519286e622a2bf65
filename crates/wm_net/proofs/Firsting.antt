-- The first stretch of a function is the head of its stretches, and of its listing.
use Rattle.std.proofs.Common.{◌≡◌, ℕ, ◌<◌, ◌≤◌, ◌⊎◌, inl, inr, List, [], ◌∷◌, ◌++◌, map, slice_get, Option, None, Some, Bool, true, false, ◌||◌, refl, sym, ap, ◌∙◌, arith, subst}
use Rattle.std.specs.declared.cmp.Ordering.{Ordering}
use Rattle.std.specs.declared.cmp.Ordering.TheVariants.{Less, Equal, Greater}
use Rattle.wm_spec.proofs.Stretches.{Up-cuts}
use Rattle.wm_spec.specs.Lists.{Entry, Cell}
use Rattle.wm_spec.specs.Stretches.{cuts}
use Rattle.wm_net.specs.Firsts.{IsFirst, IsFirstOf}
use Rattle.wm_net.specs.Groups.{Group, cell, group_order, groups, has_group, GroupsAscend}
use Rattle.wm_net.specs.Listed.{Stretch, value_at, Ordered, IsJoined, listed, stretches_of, listing}
use Rattle.wm_net.proofs.Grouping.{group_order-equal, greater_less, less_other, groups-ascend}
use Rattle.wm_net.proofs.Listing.{Fit, changes_of, value_of, given_none, less_none, nothing, is_listing}
use Rattle.wm_net.proofs.Stretching.{le_or_lt, value_before, Holds, Ordered-stretches}
use Rattle.wm_net.proofs.Unique.{here, past, behind, same_stretch, IsJoined-stretches}

-- the head of an ordered, joined list that holds a function is its first stretch
pub head_first : {A : Type 0} (test : A → A → Bool) (f : ℕ → Option A) (low : ℕ) (s : Stretch A) (ss : List (Stretch A))
    → ((x : A) → test x x ≡ true) → Ordered low (s ∷ ss) → IsJoined test (s ∷ ss) → Holds low (s ∷ ss) f → IsFirst f low s
head_first test f low s ss itself o j h = record {
  begins = o.0;
  before = λ t le lt. sym (h t le) ∙ value_before s.from (s ∷ ss) t (omega arith, o.1, o.2) lt;
  real = o.1;
  over = λ t le lt. sym (h t (omega (arith, o.0, le))) ∙ here s ss t o.2 le lt;
  ends = λ e. behind test s ss itself o.2 j.0 (sym (past s ss s.till (omega arith)) ∙ h s.till (omega (arith, o.0, o.1)) ∙ e);
}

-- of two first stretches none begins before the other
begins_least : {A : Type 0} (f : ℕ → Option A) (low : ℕ) (p q : Stretch A) → IsFirst f low p → IsFirst f low q → q.from ≤ p.from
begins_least f low p q a b = by_place (le_or_lt q.from p.from)
  where
    by_place : (q.from ≤ p.from) ⊎ (p.from < q.from) → q.from ≤ p.from
    by_place (inl le) = le
    by_place (inr lt) =
        let held : f p.from ≡ Some p.value = a.over p.from (omega arith) a.real in
        let gone : f p.from ≡ None = b.before p.from a.begins lt in
        absurd (cc)

-- nor does one end before the other
ends_most : {A : Type 0} (f : ℕ → Option A) (low : ℕ) (p q : Stretch A) → IsFirst f low p → IsFirst f low q → p.from ≡ q.from → p.value ≡ q.value → q.till ≤ p.till
ends_most f low p q a b e v = by_place (le_or_lt q.till p.till)
  where
    by_place : (q.till ≤ p.till) ⊎ (p.till < q.till) → q.till ≤ p.till
    by_place (inl le) = le
    by_place (inr lt) = absurd (a.ends (b.over p.till (omega (arith, e, a.real)) lt ∙ ap (λ x. Some x) (sym v)))

-- there is one first stretch at most
pub first_unique : {A : Type 0} (f : ℕ → Option A) (low : ℕ) (p q : Stretch A) → IsFirst f low p → IsFirst f low q → p ≡ q
first_unique f low p q a b =
    let from : p.from ≡ q.from = omega (arith, begins_least f low p q a b, begins_least f low q p b a) in
    let held : f p.from ≡ Some p.value = a.over p.from (omega arith) a.real in
    let holds : f p.from ≡ Some q.value = b.over p.from (omega (arith, from)) (omega (arith, from, b.real)) in
    let value : p.value ≡ q.value = cc in
    let till : p.till ≡ q.till = omega (arith, ends_most f low p q a b from value, ends_most f low q p b a (sym from) (sym value)) in
    same_stretch p q from till value

-- the first stretch of a function of the cell is the head of its listing
pub listing_first : {A B : Type 0} (same : A → A → Bool) (entry : Group → Stretch A → B) (es : List Entry) (f : Cell → Option A) (g : Group) (s : Stretch A)
    → ((x : A) → same x x ≡ true) → Fit same es f → IsFirstOf f g s → slice_get (listing same entry es f) 0 ≡ Some (entry g s)
listing_first {A = A} {B = B} same entry es f g s itself fit is = by_member (has_group g (groups es)) refl
  where
    F : Group → List (Stretch A)
    F h = stretches_of same es f h

    held : f (cell g s.from) ≡ Some s.value
    held = is.first.over s.from (omega arith) is.first.real

    head : (ss : List (Stretch A)) → F g ≡ ss → (rest : List B) → slice_get (map (entry g) ss ++ rest) 0 ≡ Some (entry g s)
    head [] e rest =
        let gone : f (cell g s.from) ≡ None = sym (value_of same es f fit g s.from) ∙ ap (λ (ss : List (Stretch A)). value_at ss s.from) e in
        absurd (let it : Some s.value ≡ None = sym held ∙ gone in cc)
    head (p ∷ ps) e rest =
        let o : Ordered 0 (p ∷ ps) = subst (λ (ss : List (Stretch A)). Ordered 0 ss) e (Ordered-stretches same (λ t. f (cell g t)) 0 (cuts es g.table g.key) (Up-cuts es g.table g.key)) in
        let j : IsJoined same (p ∷ ps) = subst (λ (ss : List (Stretch A)). IsJoined same ss) e (IsJoined-stretches same (λ t. f (cell g t)) 0 (cuts es g.table g.key) (Up-cuts es g.table g.key) (fit.steady g) (fit.right g)) in
        let h : Holds 0 (p ∷ ps) (λ t. f (cell g t)) = λ t le. ap (λ (ss : List (Stretch A)). value_at ss t) (sym e) ∙ value_of same es f fit g t in
        ap (λ (x : Stretch A). Some (entry g x)) (first_unique (λ t. f (cell g t)) 0 p s (head_first same (λ t. f (cell g t)) 0 p ps itself o j h) is.first)

    walk : (gs : List Group) → GroupsAscend gs → has_group g gs ≡ true → slice_get (listed entry F gs) 0 ≡ Some (entry g s)
    walk [] up member = absurd (cc)
    walk (h ∷ hs) up member = by_order (group_order h g) refl (walk hs up.1)
      where
        by_order : (o : Ordering) → group_order h g ≡ o → (has_group g hs ≡ true → slice_get (listed entry F hs) 0 ≡ Some (entry g s))
            → slice_get (listed entry F (h ∷ hs)) 0 ≡ Some (entry g s)
        by_order Less e rest =
            rw (nothing same es f itself (changes_of same es f fit) h (is.before h e)) (rest (ap (λ (b : Bool). b || has_group g hs) (sym (less_other h g e)) ∙ member))
        by_order Equal e rest =
            let one : h ≡ g = group_order-equal h g e in
            ap (λ x. slice_get (map (entry x) (F x) ++ listed entry F hs) 0) one ∙ head (F g) refl (listed entry F hs)
        by_order Greater e rest =
            let none : has_group g (h ∷ hs) ≡ false = less_none g h hs (greater_less h g e) up.0 in
            absurd (let it : true ≡ false = sym member ∙ none in cc)

    by_member : (b : Bool) → has_group g (groups es) ≡ b → slice_get (listed entry F (groups es)) 0 ≡ Some (entry g s)
    by_member true e = walk (groups es) (groups-ascend es) e
    by_member false e = let gone : f (cell g s.from) ≡ None = given_none es f (changes_of same es f fit) g e s.from in absurd (let it : Some s.value ≡ None = sym held ∙ gone in cc)

-- where a function gives nothing, nothing is listed
pub listing_none : {A B : Type 0} (same : A → A → Bool) (entry : Group → Stretch A → B) (es : List Entry) (f : Cell → Option A)
    → ((x : A) → same x x ≡ true) → Fit same es f → ((c : Cell) → f c ≡ None) → listing same entry es f ≡ []
listing_none same entry es f itself fit none =
    sym (is_listing same entry es f [] itself (changes_of same es f fit) (record { blocks = []; is = refl; ascend = tt; each = tt; others = λ g out t. none (cell g t) }))
