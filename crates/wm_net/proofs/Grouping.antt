-- The order of groups is total, and the groups of a list ascend.
use Rattle.std.proofs.Common.{◌≡◌, ◌==◌, ◌||◌, Bool, true, false, if◌then◌else◌, List, [], ◌∷◌, refl, sym, ap, ◌∙◌, eqb-true, eq-eqb}
use Rattle.std.proofs.lemmas.Bool.{and_parts}
use Rattle.std.proofs.lemmas.Cmp.{nat_cmp_total, on_total, then_total, tied_itself}
use Rattle.std.proofs.lemmas.Map.Lookups.{exact_unsigned, CmpEqualImpliesEq}
use Rattle.std.specs.Cmp.{IsTotalOrder, Equal-is}
use Rattle.std.specs.Ordering.{nat_cmp, is_eq, is_lt}
use Rattle.std.specs.declared.cmp.Ordering.{Ordering}
use Rattle.std.specs.declared.cmp.Ordering.TheVariants.{Less, Equal, Greater}
use Rattle.wm_base.proofs.Plain.{or_swap}
use Rattle.wm_base.specs.Key.{key_order}
use Rattle.wm_base.specs.Orders.{both_equal, key_order_total, key_order-equal, key_order-itself}
use Rattle.wm_spec.specs.Lists.{Entry, is_of}
use Rattle.wm_spec.specs.Stretches.{cuts}
use Rattle.wm_net.specs.Groups.{Group, group_of, group_order, same_group, group_in, groups, has_group, Precedes, GroupsAscend}

-- ---- one group

pub group_order_total : IsTotalOrder group_order
group_order_total = then_total (on_total (λ (g : Group). g.table) nat_cmp_total) (on_total (λ (g : Group). g.key) key_order_total)

pub group_made : (g h : Group) → g.table ≡ h.table → g.key ≡ h.key → g ≡ h
group_made g h e f = λ i. record { table = e i; key = f i }

pub same_group-is : (g h : Group) → same_group g h ≡ true → g ≡ h
same_group-is g h e =
    let two = and_parts (g.table == h.table) (is_eq (key_order g.key h.key)) e in
    group_made g h (eqb-true g.table h.table two.0) (key_order-equal g.key h.key ((Equal-is (key_order g.key h.key)).0 two.1))

pub same_group-itself : (g : Group) → same_group g g ≡ true
same_group-itself g = rw (eq-eqb g.table g.table refl, key_order-itself g.key) refl

pub group_order-equal : CmpEqualImpliesEq group_order
group_order-equal g h e =
    let two = both_equal (nat_cmp g.table h.table) (key_order g.key h.key) e in
    group_made g h (exact_unsigned g.table h.table two.0) (key_order-equal g.key h.key two.1)

pub group_order-itself : (g : Group) → group_order g g ≡ Equal
group_order-itself g = tied_itself group_order_total g

-- a group that comes before another is another
pub less_other : (g h : Group) → group_order g h ≡ Less → same_group g h ≡ false
less_other g h e = by_test (same_group g h) refl
  where
    by_test : (b : Bool) → same_group g h ≡ b → b ≡ false
    by_test false s = refl
    by_test true s = absurd (let it : Less ≡ Equal = sym e ∙ (ap (λ x. group_order g x) (sym (same_group-is g h s)) ∙ group_order-itself g) in cc)

pub same_group-sym : (g h : Group) → same_group g h ≡ same_group h g
same_group-sym g h = by_test (same_group g h) (same_group h g) refl refl
  where
    by_test : (a b : Bool) → same_group g h ≡ a → same_group h g ≡ b → a ≡ b
    by_test true true e f = refl
    by_test false false e f = refl
    by_test true false e f = sym (sym f ∙ ap (λ x. same_group h x) (same_group-is g h e) ∙ same_group-itself h)
    by_test false true e f = sym e ∙ ap (λ x. same_group g x) (same_group-is h g f) ∙ same_group-itself g

pub greater_less : (g h : Group) → group_order g h ≡ Greater → group_order h g ≡ Less
greater_less g h e = group_order_total.antisymm h g ∙ rw e refl

-- ---- a group and others

-- a group that comes before all of some is none of them
pub precedes_other : (g : Group) (hs : List Group) → Precedes g hs → has_group g hs ≡ false
precedes_other g [] before = refl
precedes_other g (h ∷ hs) before = rw (same_group-sym h g, less_other g h before.0) (precedes_other g hs before.1)

-- and so does one that comes before it
pub precedes_more : (g h : Group) (hs : List Group) → group_order g h ≡ Less → Precedes h hs → Precedes g hs
precedes_more g h [] lt before = tt
precedes_more g h (x ∷ hs) lt before = (group_order_total.trans g h x lt before.0, precedes_more g h hs lt before.1)

precedes_in : (g h : Group) (hs : List Group) → group_order g h ≡ Less → Precedes g hs → Precedes g (group_in h hs)
precedes_in g h [] lt before = (lt, tt)
precedes_in g h (x ∷ hs) lt before = by_test (is_lt (group_order h x)) (is_eq (group_order h x)) (precedes_in g h hs lt before.1)
  where
    by_test : (a b : Bool) → Precedes g (group_in h hs) → Precedes g (if a then h ∷ x ∷ hs else (if b then x ∷ hs else x ∷ group_in h hs))
    by_test true b rest = (lt, before)
    by_test false true rest = before
    by_test false false rest = (before.0, rest)

group_in-ascends : (g : Group) (hs : List Group) → GroupsAscend hs → GroupsAscend (group_in g hs)
group_in-ascends g [] up = (tt, tt)
group_in-ascends g (x ∷ hs) up = by_order (group_order g x) refl (group_in-ascends g hs up.1)
  where
    by_order : (o : Ordering) → group_order g x ≡ o → GroupsAscend (group_in g hs)
        → GroupsAscend (if is_lt o then g ∷ x ∷ hs else (if is_eq o then x ∷ hs else x ∷ group_in g hs))
    by_order Less e rest = ((e, precedes_more g x hs e up.0), up)
    by_order Equal e rest = up
    by_order Greater e rest = (precedes_in x g hs (greater_less g x e) up.0, rest)

-- the groups of a list ascend, each once
pub groups-ascend : (es : List Entry) → GroupsAscend (groups es)
groups-ascend [] = tt
groups-ascend (e ∷ es) = group_in-ascends (group_of e) (groups es) (groups-ascend es)

-- a group is one of some with one more where it is that one or one of them
pub has-group_in : (g h : Group) (gs : List Group) → has_group g (group_in h gs) ≡ (same_group h g || has_group g gs)
has-group_in g h [] = refl
has-group_in g h (x ∷ gs) = by_order (group_order h x) refl (has-group_in g h gs)
  where
    twice : (a b c : Bool) → a ≡ b → (b || c) ≡ (a || (b || c))
    twice true b c e = rw (sym e) refl
    twice false b c e = refl

    by_order : (o : Ordering) → group_order h x ≡ o → has_group g (group_in h gs) ≡ (same_group h g || has_group g gs)
        → has_group g (if is_lt o then h ∷ x ∷ gs else (if is_eq o then x ∷ gs else x ∷ group_in h gs)) ≡ (same_group h g || (same_group x g || has_group g gs))
    by_order Less e rest = refl
    by_order Equal e rest = twice (same_group h g) (same_group x g) (has_group g gs) (ap (λ y. same_group y g) (group_order-equal h x e))
    by_order Greater e rest = ap (λ b. same_group x g || b) rest ∙ or_swap (same_group x g) (same_group h g) (has_group g gs)

-- where no entry is of a group, nothing is cut
pub cuts_none : (es : List Entry) (g : Group) → has_group g (groups es) ≡ false → cuts es g.table g.key ≡ []
cuts_none [] g none = refl
cuts_none (e ∷ es) g none = by_test (is_of g.table g.key e) refl (sym (has-group_in g (group_of e) (groups es)) ∙ none) (cuts_none es g)
  where
    by_test : (b : Bool) → is_of g.table g.key e ≡ b → (b || has_group g (groups es)) ≡ false → (has_group g (groups es) ≡ false → cuts es g.table g.key ≡ [])
        → cuts (e ∷ es) g.table g.key ≡ []
    by_test true h out rest = absurd (cc)
    by_test false h out rest = rw h (rest out)
