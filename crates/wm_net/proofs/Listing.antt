-- A list is the listing of a function of the cell where it goes by table, key and from, joined, and says what the function gives.
use Rattle.std.proofs.Common.{◌≡◌, ℕ, ◌⊎◌, inl, inr, List, [], ◌∷◌, ◌++◌, map, Option, None, Bool, true, false, ◌||◌, refl, sym, ap, ◌∙◌, arith, subst}
use Rattle.std.specs.declared.cmp.Ordering.{Ordering}
use Rattle.std.specs.declared.cmp.Ordering.TheVariants.{Less, Equal, Greater}
use Rattle.wm_spec.proofs.Stretches.{Steady, Up-cuts}
use Rattle.wm_spec.specs.Lists.{Entry, Cell}
use Rattle.wm_spec.specs.Stretches.{cuts}
use Rattle.wm_net.specs.Groups.{Group, cell, group_order, same_group, groups, has_group, Precedes, GroupsAscend}
use Rattle.wm_net.specs.Listed.{Stretch, value_at, listed, stretches_of, listing, Block, blocks_listed, groups_of, IsBlock, AreBlocks, IsListing}
use Rattle.wm_net.proofs.Grouping.{same_group-is, same_group-itself, group_order-equal, greater_less, precedes_other, precedes_more, groups-ascend, cuts_none}
use Rattle.wm_net.proofs.Stretching.{Right, Ordered-stretches, value_stretches}
use Rattle.wm_net.proofs.Unique.{IsJoined-stretches, is_stretches}

-- a function of the cell changes where entries of the group end alone
pub record Changes {A : Type 0} (es : List Entry) (f : Cell → Option A) : Type 0 where
  pub steady : (g : Group) → Steady (λ t. f (cell g t)) 0 (cuts es g.table g.key)

-- what a listing asks of a function that it is to hold: it changes so, and the test is right for what it gives
pub record Fit {A : Type 0} (same : A → A → Bool) (es : List Entry) (f : Cell → Option A) : Type 0 where
  pub steady : (g : Group) → Steady (λ t. f (cell g t)) 0 (cuts es g.table g.key)
  pub right : (g : Group) → Right same (λ t. f (cell g t))

pub changes_of : {A : Type 0} (same : A → A → Bool) (es : List Entry) (f : Cell → Option A) → Fit same es f → Changes es f
changes_of same es f fit = record { steady = fit.steady }

pub value_of : {A : Type 0} (same : A → A → Bool) (es : List Entry) (f : Cell → Option A) → Fit same es f → (g : Group) (t : ℕ) → value_at (stretches_of same es f g) t ≡ f (cell g t)
value_of same es f fit g t = value_stretches same (λ t. f (cell g t)) 0 (cuts es g.table g.key) (Up-cuts es g.table g.key) (fit.steady g) (fit.right g) t (omega arith)

-- where it changes so it gives nothing in a group that no entry is of
pub given_none : {A : Type 0} (es : List Entry) (f : Cell → Option A) → Changes es f → (g : Group) → has_group g (groups es) ≡ false → (t : ℕ) → f (cell g t) ≡ None
given_none es f change g none t =
    let steady : Steady (λ t. f (cell g t)) 0 [] = subst (λ (cs : List ℕ). Steady (λ t. f (cell g t)) 0 cs) (cuts_none es g none) (change.steady g) in
    steady t (omega arith)

-- ---- the groups of a listing

-- what is asked of two lists of groups that are listed alike: a group that has anything is one of both or of neither
abbrev pub SameGroups : {A : Type 0} → (Group → List (Stretch A)) → List Group → List Group → Type 0
SameGroups F gs hs = (g : Group) → (F g ≡ []) ⊎ (has_group g gs ≡ has_group g hs)

differ : {P : Type 0} (a b : Bool) → a ≡ true → b ≡ false → a ≡ b → P
differ a b e f g = absurd (let it : true ≡ false = sym e ∙ g ∙ f in cc)

-- a group that is the first of one list and none of the other has nothing
first_empty : {A : Type 0} (F : Group → List (Stretch A)) (g : Group) (gs hs : List Group) → has_group g hs ≡ false → SameGroups F (g ∷ gs) hs → F g ≡ []
first_empty F g gs hs out same = by_case (same g)
  where
    by_case : (F g ≡ []) ⊎ ((same_group g g || has_group g gs) ≡ has_group g hs) → F g ≡ []
    by_case (inl e) = e
    by_case (inr e) = differ (same_group g g || has_group g gs) (has_group g hs) (rw (same_group-itself g) refl) out e

-- and the list may go on without it
without_first : {A : Type 0} (F : Group → List (Stretch A)) (g : Group) (gs hs : List Group) → F g ≡ [] → SameGroups F (g ∷ gs) hs → SameGroups F gs hs
without_first F g gs hs empty same x = by_test (same_group g x) refl (same x)
  where
    by_test : (b : Bool) → same_group g x ≡ b → (F x ≡ []) ⊎ ((b || has_group x gs) ≡ has_group x hs) → (F x ≡ []) ⊎ (has_group x gs ≡ has_group x hs)
    by_test true e s = inl (ap F (sym (same_group-is g x e)) ∙ empty)
    by_test false e s = s

swapped : {A : Type 0} (F : Group → List (Stretch A)) (gs hs : List Group) → SameGroups F gs hs → SameGroups F hs gs
swapped F gs hs same x = by_case (same x)
  where
    by_case : (F x ≡ []) ⊎ (has_group x gs ≡ has_group x hs) → (F x ≡ []) ⊎ (has_group x hs ≡ has_group x gs)
    by_case (inl e) = inl e
    by_case (inr e) = inr (sym e)

-- where both begin with one group, both may go on without it
without_both : {A : Type 0} (F : Group → List (Stretch A)) (g h : Group) (gs hs : List Group) → g ≡ h → Precedes g gs → Precedes h hs
    → SameGroups F (g ∷ gs) (h ∷ hs) → SameGroups F gs hs
without_both F g h gs hs e before1 before2 same x = by_test (same_group g x) (same_group h x) refl (ap (λ y. same_group y x) e) (same x)
  where
    by_test : (a b : Bool) → same_group g x ≡ a → a ≡ b → (F x ≡ []) ⊎ ((a || has_group x gs) ≡ (b || has_group x hs)) → (F x ≡ []) ⊎ (has_group x gs ≡ has_group x hs)
    by_test false false i j s = s
    by_test true true i j s =
        let one : g ≡ x = same_group-is g x i in
        inr (ap (λ y. has_group y gs) (sym one) ∙ precedes_other g gs before1 ∙ sym (ap (λ y. has_group y hs) (sym (sym e ∙ one)) ∙ precedes_other h hs before2))
    by_test true false i j s = absurd (cc)
    by_test false true i j s = absurd (cc)

-- a group with nothing is listed as nothing
skipped : {A B : Type 0} (entry : Group → Stretch A → B) (F : Group → List (Stretch A)) (g : Group) (gs : List Group) → F g ≡ [] → listed entry F (g ∷ gs) ≡ listed entry F gs
skipped entry F g gs e = rw e refl

-- one that comes before the first of some, which ascend, is none of them
pub less_none : (g h : Group) (hs : List Group) → group_order g h ≡ Less → Precedes h hs → has_group g (h ∷ hs) ≡ false
less_none g h hs lt before = precedes_other g (h ∷ hs) (lt, precedes_more g h hs lt before)

-- two ascending lists of groups that have the same members that have anything are listed alike
pub listed_same : {A B : Type 0} (entry : Group → Stretch A → B) (F : Group → List (Stretch A)) (gs hs : List Group) → GroupsAscend gs → GroupsAscend hs
    → SameGroups F gs hs → listed entry F gs ≡ listed entry F hs
listed_same entry F [] [] up1 up2 same = refl
listed_same entry F [] (h ∷ hs) up1 up2 same =
    let empty : F h ≡ [] = first_empty F h hs [] refl (swapped F [] (h ∷ hs) same) in
    listed_same entry F [] hs up1 up2.1 (swapped F hs [] (without_first F h hs [] empty (swapped F [] (h ∷ hs) same)))
    ∙ sym (skipped entry F h hs empty)
listed_same {A = A} {B = B} entry F (g ∷ gs) hs up1 up2 same = walk (λ hs up2 same. listed_same entry F gs hs up1.1 up2 same) hs up2 same
  where
    walk : ((hs : List Group) → GroupsAscend hs → SameGroups F gs hs → listed entry F gs ≡ listed entry F hs)
        → (hs : List Group) → GroupsAscend hs → SameGroups F (g ∷ gs) hs → listed entry F (g ∷ gs) ≡ listed entry F hs
    walk rest [] up same =
        let empty : F g ≡ [] = first_empty F g gs [] refl same in
        skipped entry F g gs empty ∙ rest [] tt (without_first F g gs [] empty same)
    walk rest (h ∷ hs) up same = by_order (group_order g h) refl (walk rest hs up.1)
      where
        by_order : (o : Ordering) → group_order g h ≡ o → (SameGroups F (g ∷ gs) hs → listed entry F (g ∷ gs) ≡ listed entry F hs) → listed entry F (g ∷ gs) ≡ listed entry F (h ∷ hs)
        by_order Less e on =
            let empty : F g ≡ [] = first_empty F g gs (h ∷ hs) (less_none g h hs e up.0) same in
            skipped entry F g gs empty ∙ rest (h ∷ hs) up (without_first F g gs (h ∷ hs) empty same)
        by_order Equal e on =
            let one : g ≡ h = group_order-equal g h e in
            ap (λ x. map (entry x) (F x) ++ listed entry F gs) one
            ∙ ap (λ (xs : List B). map (entry h) (F h) ++ xs) (rest hs up.1 (without_both F g h gs hs one up1.0 up.0 same))
        by_order Greater e on =
            let back = swapped F (g ∷ gs) (h ∷ hs) same in
            let empty : F h ≡ [] = first_empty F h hs (g ∷ gs) (less_none h g gs (greater_less g h e) up1.0) back in
            on (swapped F hs (g ∷ gs) (without_first F h hs (g ∷ gs) empty back)) ∙ sym (skipped entry F h hs empty)

-- ---- any list that goes group by group

-- where a function gives nothing in a group, there is no stretch of it
pub nothing : {A : Type 0} (same : A → A → Bool) (es : List Entry) (f : Cell → Option A) → ((x : A) → same x x ≡ true) → Changes es f → (g : Group)
    → ((t : ℕ) → f (cell g t) ≡ None) → stretches_of same es f g ≡ []
nothing same es f itself change g none =
    sym (is_stretches same (λ t. f (cell g t)) (cuts es g.table g.key) [] itself (Up-cuts es g.table g.key) (change.steady g) tt tt (λ t. sym (none t)))

blocks-are : {A B : Type 0} (same : A → A → Bool) (entry : Group → Stretch A → B) (es : List Entry) (f : Cell → Option A) → ((x : A) → same x x ≡ true) → Changes es f
    → (bs : List (Block A)) → AreBlocks same f bs → blocks_listed entry bs ≡ listed entry (stretches_of same es f) (groups_of bs)
blocks-are same entry es f itself change [] each = refl
blocks-are {A = A} {B = B} same entry es f itself change (b ∷ bs) each =
    let g = b.group in
    ap (λ (ss : List (Stretch A)). map (entry b.group) ss ++ blocks_listed entry bs)
    (is_stretches same (λ t. f (cell b.group t)) (cuts es g.table g.key) b.stretches itself (Up-cuts es g.table g.key) (change.steady g) each.0.ordered each.0.joined each.0.holds)
    ∙ ap (λ (xs : List B). map (entry b.group) (stretches_of same es f b.group) ++ xs) (blocks-are same entry es f itself change bs each.1)

-- any list of groups, ascending, each with stretches that are ordered and joined and hold the function, and it gives nothing elsewhere, is the listing
pub is_listing : {A B : Type 0} (same : A → A → Bool) (entry : Group → Stretch A → B) (es : List Entry) (f : Cell → Option A) (xs : List B)
    → ((x : A) → same x x ≡ true) → Changes es f → IsListing same entry f xs → xs ≡ listing same entry es f
is_listing {A = A} same entry es f xs itself change l =
    l.is ∙ blocks-are same entry es f itself change l.blocks l.each
    ∙ listed_same entry (stretches_of same es f) (groups_of l.blocks) (groups es) l.ascend (groups-ascend es) both
  where
    both : (g : Group) → (stretches_of same es f g ≡ []) ⊎ (has_group g (groups_of l.blocks) ≡ has_group g (groups es))
    both g = by_test (has_group g (groups_of l.blocks)) (has_group g (groups es)) refl refl
      where
        by_test : (a b : Bool) → has_group g (groups_of l.blocks) ≡ a → has_group g (groups es) ≡ b → (stretches_of same es f g ≡ []) ⊎ (a ≡ b)
        by_test true true e h = inr refl
        by_test false false e h = inr refl
        by_test false true e h = inl (nothing same es f itself change g (l.others g e))
        by_test true false e h = inl (nothing same es f itself change g (given_none es f change g h))

-- ---- ascending groups whose stretches a function of the group gives

abbrev pub blocks_of : {A : Type 0} → (Group → List (Stretch A)) → List Group → List (Block A)
blocks_of F gs = map (λ g. record { group = g; stretches = F g }) gs

pub blocks_of-listed : {A B : Type 0} (entry : Group → Stretch A → B) (F : Group → List (Stretch A)) (gs : List Group) → listed entry F gs ≡ blocks_listed entry (blocks_of F gs)
blocks_of-listed entry F [] = refl
blocks_of-listed {B = B} entry F (g ∷ gs) = ap (λ (xs : List B). map (entry g) (F g) ++ xs) (blocks_of-listed entry F gs)

pub blocks_of-groups : {A : Type 0} (F : Group → List (Stretch A)) (gs : List Group) → groups_of (blocks_of F gs) ≡ gs
blocks_of-groups F [] = refl
blocks_of-groups F (g ∷ gs) = ap (λ (hs : List Group). g ∷ hs) (blocks_of-groups F gs)

blocks_of-are : {A : Type 0} (same : A → A → Bool) (f : Cell → Option A) (F : Group → List (Stretch A)) (gs : List Group)
    → ((g : Group) → IsBlock same f (record { group = g; stretches = F g })) → AreBlocks same f (blocks_of F gs)
blocks_of-are same f F [] each = tt
blocks_of-are same f F (g ∷ gs) each = (each g, blocks_of-are same f F gs each)

pub listing_by_groups : {A B : Type 0} (same : A → A → Bool) (entry : Group → Stretch A → B) (f : Cell → Option A) (F : Group → List (Stretch A)) (gs : List Group)
    → GroupsAscend gs → ((g : Group) → IsBlock same f (record { group = g; stretches = F g })) → ((g : Group) → has_group g gs ≡ false → (t : ℕ) → f (cell g t) ≡ None)
    → IsListing same entry f (listed entry F gs)
listing_by_groups same entry f F gs up each others = record {
  blocks = blocks_of F gs;
  is = blocks_of-listed entry F gs;
  ascend = rw (blocks_of-groups F gs) up;
  each = blocks_of-are same f F gs each;
  others = λ g none. others g (ap (λ (hs : List Group). has_group g hs) (sym (blocks_of-groups F gs)) ∙ none);
}

-- the listing is such a list
pub listing_is : {A B : Type 0} (same : A → A → Bool) (entry : Group → Stretch A → B) (es : List Entry) (f : Cell → Option A) → Fit same es f
    → IsListing same entry f (listing same entry es f)
listing_is same entry es f fit =
    listing_by_groups same entry f (stretches_of same es f) (groups es) (groups-ascend es)
    (λ g. record {
      ordered = Ordered-stretches same (λ t. f (cell g t)) 0 (cuts es g.table g.key) (Up-cuts es g.table g.key);
      joined = IsJoined-stretches same (λ t. f (cell g t)) 0 (cuts es g.table g.key) (Up-cuts es g.table g.key) (fit.steady g) (fit.right g);
      holds = value_of same es f fit g;
    })
    (given_none es f (changes_of same es f fit))

-- listings of one function are one, whatever else is cut
pub listing_same : {A B : Type 0} (same : A → A → Bool) (entry : Group → Stretch A → B) (es fs : List Entry) (f : Cell → Option A)
    → ((x : A) → same x x ≡ true) → Fit same es f → Fit same fs f → listing same entry es f ≡ listing same entry fs f
listing_same same entry es fs f itself one two = is_listing same entry fs f (listing same entry es f) itself (changes_of same fs f two) (listing_is same entry es f one)
