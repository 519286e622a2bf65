-- The own pieces of one key, found among keys that ascend.
use Rattle.std.proofs.Common.{◌≡◌, ℕ, zero, suc, ◌<◌, ◌≤◌, ◌⊎◌, inl, inr, ◌||◌, Option, Bool, true, false, cond, List, [], ◌∷◌, map, length, get_or, None, refl, sym, ap, ◌∙◌, arith}
use Rattle.std.proofs.lemmas.List.Elements.{All-head, All-tail}
use Rattle.std.specs.List.{All, HoldsAt}
use Rattle.std.specs.List.Sorted.{IsNonDecreasingBy, IsPartitionPoint}
use Rattle.std.specs.Ordering.{ordering_index}
use Rattle.std.specs.declared.cmp.Ordering.{Ordering}
use Rattle.std.specs.declared.cmp.Ordering.TheVariants.{Less, Equal, Greater}
use Rattle.wm_net.proofs.Grouping.{group_order-equal, group_order-itself, group_order_total, less_other, same_group-is, same_group-itself}
use Rattle.wm_net.proofs.Stretching.{le_or_lt}
use Rattle.wm_net.specs.Groups.{Group, GroupsAscend, Precedes, cell, group_order, has_group, same_group}
use Rattle.wm_period.specs.Pieces.{Held, held_at}
use Rattle.wm_spec.proofs.Stretches.{by_test}
use Rattle.wm_spec.specs.Lists.{Cell}
use Rattle.wm_state.specs.Copied.{HoldsKey}
use Rattle.wm_telling.specs.Telling.{group_at}
use Rattle.wm_pending.specs.Lookups.{StandsAt, group_own, pieces_on}
use Rattle.wm_pending.specs.Owned.{key_pieces}
use Rattle.wm_pending.specs.declared.own.OwnKey.{OwnKey}

-- the keys of own pieces, by either name
pub groups_own : (ks : List OwnKey) → map group_at (map key_pieces ks) ≡ map group_own ks
groups_own [] = refl
groups_own (k ∷ ks) = ap (λ (gs : List Group). group_own k ∷ gs) (groups_own ks)

-- ---- keys that ascend

-- a key that precedes others comes before each of them
pub precedes_at : (g : Group) (ks : List OwnKey) (i : ℕ) (d : OwnKey) → Precedes g (map group_own ks) → i < length ks → group_order g (group_own (get_or ks i d)) ≡ Less
precedes_at g [] i d before within = absurd (omega (arith, within))
precedes_at g (k ∷ ks) zero d before within = before.0
precedes_at g (k ∷ ks) (suc i) d before within = precedes_at g ks i d before.1 (omega (arith, within))

pub ascend_at : (ks : List OwnKey) (i j : ℕ) (d : OwnKey) → GroupsAscend (map group_own ks) → i < j → j < length ks → group_order (group_own (get_or ks i d)) (group_own (get_or ks j d)) ≡ Less
ascend_at [] i j d up lt within = absurd (omega (arith, within))
ascend_at (k ∷ ks) i zero d up lt within = absurd (omega (arith, lt))
ascend_at (k ∷ ks) zero (suc j) d up lt within = precedes_at (group_own k) ks j d up.0 (omega (arith, within))
ascend_at (k ∷ ks) (suc i) (suc j) d up lt within = ascend_at ks i j d up.1 (omega (arith, lt)) (omega (arith, within))

-- of two keys the lesser compares no greater with a third
lesser_first : (a b g : Group) → group_order a b ≡ Less → ordering_index (group_order a g) ≤ ordering_index (group_order b g)
lesser_first a b g lt = by_order (group_order b g) refl
  where
    most : (o : Ordering) → ordering_index o ≤ 2
    most Less = omega arith
    most Equal = omega arith
    most Greater = omega arith

    by_order : (o : Ordering) → group_order b g ≡ o → ordering_index (group_order a g) ≤ ordering_index o
    by_order Less e = rw (group_order_total.trans a b g lt e) (omega arith)
    by_order Equal e = rw (ap (λ x. group_order a x) (sym (group_order-equal b g e)) ∙ lt) (omega arith)
    by_order Greater e = most (group_order a g)

pub rises : (ks : List OwnKey) (g : Group) → GroupsAscend (map group_own ks) → IsNonDecreasingBy (λ k. ordering_index (group_order (group_own k) g)) ks
rises ks g up i j d le within = by_place (le_or_lt j i)
  where
    by_place : (j ≤ i) ⊎ (i < j) → ordering_index (group_order (group_own (get_or ks i d)) g) ≤ ordering_index (group_order (group_own (get_or ks j d)) g)
    by_place (inl ge) = same i j (omega (arith, le, ge))
      where
        same : (m n : ℕ) → m ≡ n → ordering_index (group_order (group_own (get_or ks m d)) g) ≤ ordering_index (group_order (group_own (get_or ks n d)) g)
        same m n e = rw e (omega arith)
    by_place (inr lt) = lesser_first (group_own (get_or ks i d)) (group_own (get_or ks j d)) g (ascend_at ks i j d up lt within)

-- ---- what a search finds

-- a key that compares equal to none is none of them
none_at : (ks : List OwnKey) (g : Group) → ((i : ℕ) (d : OwnKey) → i < length ks → group_order (group_own (get_or ks i d)) g ≡ Equal → ⊥) → has_group g (map group_own ks) ≡ false
none_at [] g none = refl
none_at (k ∷ ks) g none =
    rw (other, none_at ks g (λ i d within. none (suc i) d (omega (arith, within)))) refl
  where
    other : same_group (group_own k) g ≡ false
    other = by_test (same_group (group_own k) g)
        (λ e. absurd (none zero k (omega arith) (ap (λ x. group_order (group_own k) x) (sym (same_group-is (group_own k) g e)) ∙ group_order-itself (group_own k))))
        (λ e. e)

pub not_among : (ks : List OwnKey) (g : Group) (place : ℕ) → IsPartitionPoint (λ (k : OwnKey). group_order (group_own k) g ≡ Less) (λ (k : OwnKey). group_order (group_own k) g ≡ Greater) ks place
    → has_group g (map group_own ks) ≡ false
not_among ks g place point = none_at ks g (λ i d within e. by_place i d within e (le_or_lt place i))
  where
    by_place : (i : ℕ) (d : OwnKey) → i < length ks → group_order (group_own (get_or ks i d)) g ≡ Equal → (place ≤ i) ⊎ (i < place) → ⊥
    by_place i d within e (inl late) = absurd (let other = point.1 i d late within in cc)
    by_place i d within e (inr early) = absurd (let other = point.0 i d (omega arith) early in cc)

pub among : (ks : List OwnKey) (g : Group) (i : ℕ) → i < length ks → HoldsAt (λ (k : OwnKey). group_order (group_own k) g ≡ Equal) ks i → StandsAt ks g i
among ks g i within equal = (within, λ d. group_order-equal (group_own (get_or ks i d)) g (equal d))

-- ---- the pieces of the key

pub pieces_at : (ks : List OwnKey) (g : Group) (i : ℕ) (d : OwnKey) → GroupsAscend (map group_own ks) → i < length ks → group_own (get_or ks i d) ≡ g → (get_or ks i d).pieces ≡ pieces_on g ks
pieces_at [] g i d up within is = absurd (omega (arith, within))
pieces_at (k ∷ ks) g zero d up within is = rw (ap (λ x. same_group (group_own k) x) (sym is) ∙ same_group-itself (group_own k)) refl
pieces_at (k ∷ ks) g (suc i) d up within is =
    let before : group_order (group_own k) g ≡ Less = ap (λ x. group_order (group_own k) x) (sym is) ∙ precedes_at (group_own k) ks i d up.0 (omega (arith, within)) in
    rw (less_other (group_own k) g before) (pieces_at ks g i d up.1 (omega (arith, within)) is)

pub pieces_none : (ks : List OwnKey) (g : Group) → has_group g (map group_own ks) ≡ false → [] ≡ pieces_on g ks
pieces_none [] g none = refl
pieces_none (k ∷ ks) g none = by_group (same_group (group_own k) g) none (pieces_none ks g)
  where
    by_group : (b : Bool) → (b || has_group g (map group_own ks)) ≡ false → (has_group g (map group_own ks) ≡ false → [] ≡ pieces_on g ks) → [] ≡ cond b k.pieces (pieces_on g ks)
    by_group true e rest = absurd (cc)
    by_group false e rest = rest e

-- they hold what is held at the cells of the key
pub pieces_hold : (held : Cell → Option Held) (ks : List OwnKey) (g : Group) → All (HoldsKey held) (map key_pieces ks) → (has_group g (map group_own ks) ≡ false → (t : ℕ) → held (cell g t) ≡ None)
    → (t : ℕ) → held_at (pieces_on g ks) t ≡ held (cell g t)
pieces_hold held [] g each others t = sym (others refl t)
pieces_hold held (k ∷ ks) g each others t =
    by_group (same_group (group_own k) g) refl
    (pieces_hold held ks g (All-tail (HoldsKey held) (key_pieces k) (map key_pieces ks) each))
  where
    by_group : (b : Bool) → same_group (group_own k) g ≡ b
        → ((has_group g (map group_own ks) ≡ false → (t : ℕ) → held (cell g t) ≡ None) → (t : ℕ) → held_at (pieces_on g ks) t ≡ held (cell g t))
        → held_at (cond b k.pieces (pieces_on g ks)) t ≡ held (cell g t)
    by_group true e rest =
        (All-head (HoldsKey held) (key_pieces k) (map key_pieces ks) each).holds t
        ∙ ap (λ (x : Group). held (cell x t)) (same_group-is (group_own k) g e)
    by_group false e rest = rest (λ none. others (ap (λ b. b || has_group g (map group_own ks)) e ∙ none)) t
