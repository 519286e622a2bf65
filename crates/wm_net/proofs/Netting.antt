-- A net list holds what its list holds, and what is gained is what is pending where own entries touch nothing.
use Rattle.std.proofs.Common.{◌≡◌, ℕ, ◌==◌, List, [], ◌∷◌, ◌++◌, map, take, drop, zero, suc, Option, None, Some, is_some, Bool, true, false, ◌&&◌, ◌||◌, if◌then◌else◌, refl, sym, ap, ◌∙◌, eqb-true, eq-eqb}
use Rattle.std.specs.Bool.{then_some}
use Rattle.std.specs.Option.{option_or}
use Rattle.wm_base.proofs.Plain.{option_or-none}
use Rattle.wm_spec.proofs.Lists.{told-append}
use Rattle.wm_spec.proofs.Stretches.{Up-cuts}
use Rattle.wm_spec.specs.Lists.{Entry, Cell, Told, told, told_of, covers, Alike}
use Rattle.wm_spec.specs.Stretches.{cuts}
use Rattle.wm_net.specs.Groups.{Group, cell, of_cell, same_group, groups, has_group}
use Rattle.wm_net.specs.Listed.{Stretch, within, value_at, joined, onto, stretches, listed, stretches_of}
use Rattle.wm_net.specs.Nets.{replayed, one_stamp, told_listing, IsToldListing, net, outside, gained_at, gained, IsGained, Stamped}
use Rattle.wm_net.proofs.Grouping.{same_group-is}
use Rattle.wm_net.proofs.Stretching.{Right, Steady-two, Cut-cuts, Cut-left, Cut-right, Steady-told}
use Rattle.wm_net.proofs.Listing.{Fit, changes_of, value_of, given_none, is_listing, listing_is}
use Rattle.wm_net.proofs.Owing.{listing_alike}

-- ---- what a listing holds

-- what the stretches of a group hold as entries
pub told_replayed : (moment : ℕ) (user : List ℕ) (g : Group) (ss : List (Stretch Told)) (c : Cell)
    → told (map (replayed moment user g) ss) c ≡ (if same_group g (of_cell c) then value_at ss c.time else None)
told_replayed moment user g [] c = by_test (same_group g (of_cell c))
  where
    by_test : (b : Bool) → (let none : Option Told = None in none) ≡ (if b then None else None)
    by_test true = refl
    by_test false = refl
told_replayed moment user g (s ∷ ss) c = rw (told_replayed moment user g ss c) (by_test (same_group g (of_cell c)))
  where
    by_test : (b : Bool) → option_or (if b then value_at ss c.time else None) (then_some (b && within s.from s.till c.time) s.value)
        ≡ (if b then option_or (value_at ss c.time) (then_some (within s.from s.till c.time) s.value) else None)
    by_test true = refl
    by_test false = refl

or_itself : (o : Option Told) → option_or o o ≡ o
or_itself None = refl
or_itself (Some x) = refl

-- and what group after group does
pub told_listed : (moment : ℕ) (user : List ℕ) (F : Group → List (Stretch Told)) (gs : List Group) (c : Cell)
    → told (listed (replayed moment user) F gs) c ≡ (if has_group (of_cell c) gs then value_at (F (of_cell c)) c.time else None)
told_listed moment user F [] c = refl
told_listed moment user F (g ∷ gs) c =
    told-append (map (replayed moment user g) (F g)) (listed (replayed moment user) F gs) c
    ∙ rw (told_listed moment user F gs c, told_replayed moment user g (F g) c) (by_test (same_group g (of_cell c)) (has_group (of_cell c) gs) refl)
  where
    at : Group → Option Told
    at h = value_at (F h) c.time

    by_test : (a b : Bool) → same_group g (of_cell c) ≡ a
        → option_or (if b then at (of_cell c) else None) (if a then at g else None) ≡ (if a || b then at (of_cell c) else None)
    by_test true true e = rw (same_group-is g (of_cell c) e) (or_itself (at (of_cell c)))
    by_test true false e = rw (same_group-is g (of_cell c) e) refl
    by_test false true e = option_or-none (at (of_cell c))
    by_test false false e = refl

-- a listing holds at each cell what the function gives
pub told-listing : (moment : ℕ) (user : List ℕ) (es : List Entry) (f : Cell → Option Told) → Fit one_stamp es f → (c : Cell) → told (told_listing moment user es f) c ≡ f c
told-listing moment user es f fit c =
    told_listed moment user (stretches_of one_stamp es f) (groups es) c ∙ by_test (has_group (of_cell c) (groups es)) refl
  where
    by_test : (b : Bool) → has_group (of_cell c) (groups es) ≡ b → (if b then value_at (stretches_of one_stamp es f (of_cell c)) c.time else None) ≡ f c
    by_test true e = value_of one_stamp es f fit (of_cell c) c.time
    by_test false e = sym (given_none es f (changes_of one_stamp es f fit) (of_cell c) e c.time)

-- ---- one stamp tells one thing

pub one_stamp-itself : (x : Told) → one_stamp x x ≡ true
one_stamp-itself x = eq-eqb x.stamp x.stamp refl

-- where a stamp tells one thing, what has one stamp is one
pub right_stamped : (tells : ℕ → Told) (f : ℕ → Option Told) → ((t : ℕ) (x : Told) → f t ≡ Some x → x ≡ tells x.stamp) → Right one_stamp f
right_stamped tells f h = record { right = λ t u x y e g k. h t x e ∙ ap tells (eqb-true x.stamp y.stamp k) ∙ sym (h u y g) }

pub stamped_told : (tells : ℕ → Told) (es : List Entry) (c : Cell) (x : Told) → Stamped tells es → told es c ≡ Some x → x ≡ tells x.stamp
stamped_told tells [] c x s e = absurd (cc)
stamped_told tells (e ∷ es) c x s h = by_told (told es c) (covers e c) (λ k. stamped_told tells es c x s.1 k) h
  where
    by_told : (o : Option Told) (b : Bool) → (o ≡ Some x → x ≡ tells x.stamp) → option_or o (then_some b (told_of e)) ≡ Some x → x ≡ tells x.stamp
    by_told (Some y) b rest k = rest k
    by_told None true rest k =
        let one : told_of e ≡ x = cc in
        sym one ∙ s.0 ∙ ap (λ (y : Told). tells y.stamp) one
    by_told None false rest k = absurd (cc)

pub Stamped-append : (tells : ℕ → Told) (xs ys : List Entry) → Stamped tells xs → Stamped tells ys → Stamped tells (xs ++ ys)
Stamped-append tells [] ys a b = b
Stamped-append tells (x ∷ xs) ys a b = (a.0, Stamped-append tells xs ys a.1 b)

pub Stamped-drop : (tells : ℕ → Told) (n : ℕ) (xs : List Entry) → Stamped tells xs → Stamped tells (drop n xs)
Stamped-drop tells zero xs a = a
Stamped-drop tells (suc n) [] a = tt
Stamped-drop tells (suc n) (x ∷ xs) a = Stamped-drop tells n xs a.1

pub Stamped-take : (tells : ℕ → Told) (n : ℕ) (xs : List Entry) → Stamped tells xs → Stamped tells (take n xs)
Stamped-take tells zero xs a = tt
Stamped-take tells (suc n) [] a = tt
Stamped-take tells (suc n) (x ∷ xs) a = (a.0, Stamped-take tells n xs a.1)

-- each stretch holds what its stamp tells
abbrev AllTold : (ℕ → Told) → List (Stretch Told) → Type 0
AllTold tells [] = Unit {0}
AllTold tells (s ∷ ss) = (s.value ≡ tells s.value.stamp) × AllTold tells ss

told_joined : (tells : ℕ → Told) (test : Told → Told → Bool) (from till : ℕ) (x : Told) (ss : List (Stretch Told)) → x ≡ tells x.stamp → AllTold tells ss
    → AllTold tells (joined test from till x ss)
told_joined tells test from till x [] e all = (e, tt)
told_joined tells test from till x (s ∷ ss) e all = by_test ((till == s.from) && test x s.value)
  where
    by_test : (b : Bool) → AllTold tells (if b then record { from = from; till = s.till; value = x } ∷ ss else record { from = from; till = till; value = x } ∷ s ∷ ss)
    by_test true = (e, all.1)
    by_test false = (e, all)

told_onto : (tells : ℕ → Told) (test : Told → Told → Bool) (from till : ℕ) (o : Option Told) (ss : List (Stretch Told)) → ((x : Told) → o ≡ Some x → x ≡ tells x.stamp)
    → AllTold tells ss → AllTold tells (onto test from till o ss)
told_onto tells test from till None ss e all = all
told_onto tells test from till (Some x) ss e all = told_joined tells test from till x ss (e x refl) all

all_stretches : (tells : ℕ → Told) (test : Told → Told → Bool) (f : ℕ → Option Told) (low : ℕ) (cs : List ℕ) → ((t : ℕ) (x : Told) → f t ≡ Some x → x ≡ tells x.stamp)
    → AllTold tells (stretches test f low cs)
all_stretches tells test f low [] e = tt
all_stretches tells test f low (a ∷ cs) e = told_onto tells test low a (f low) (stretches test f a cs) (e low) (all_stretches tells test f a cs e)

stamped_replayed : (tells : ℕ → Told) (moment : ℕ) (user : List ℕ) (g : Group) (ss : List (Stretch Told)) → AllTold tells ss → Stamped tells (map (replayed moment user g) ss)
stamped_replayed tells moment user g [] all = tt
stamped_replayed tells moment user g (s ∷ ss) all = (all.0, stamped_replayed tells moment user g ss all.1)

stamped_listed : (tells : ℕ → Told) (moment : ℕ) (user : List ℕ) (F : Group → List (Stretch Told)) (gs : List Group) → ((g : Group) → AllTold tells (F g))
    → Stamped tells (listed (replayed moment user) F gs)
stamped_listed tells moment user F [] all = tt
stamped_listed tells moment user F (g ∷ gs) all =
    Stamped-append tells (map (replayed moment user g) (F g)) (listed (replayed moment user) F gs)
    (stamped_replayed tells moment user g (F g) (all g)) (stamped_listed tells moment user F gs all)

pub Stamped-listing : (tells : ℕ → Told) (moment : ℕ) (user : List ℕ) (es : List Entry) (f : Cell → Option Told) → ((c : Cell) (x : Told) → f c ≡ Some x → x ≡ tells x.stamp)
    → Stamped tells (told_listing moment user es f)
Stamped-listing tells moment user es f h =
    stamped_listed tells moment user (stretches_of one_stamp es f) (groups es)
    (λ g. all_stretches tells one_stamp (λ t. f (cell g t)) 0 (cuts es g.table g.key) (λ t x e. h (cell g t) x e))

-- ---- net lists

pub Fit-net : (tells : ℕ → Told) (es : List Entry) → Stamped tells es → Fit one_stamp es (told es)
Fit-net tells es s = record {
  steady = λ g. Steady-told g es (cuts es g.table g.key) (Up-cuts es g.table g.key) (Cut-cuts g es);
  right = λ g. right_stamped tells (λ t. told es (cell g t)) (λ t x e. stamped_told tells es (cell g t) x s e);
}

-- a net list holds what its list holds
pub told_net : (moment : ℕ) (user : List ℕ) (tells : ℕ → Told) (es : List Entry) → Stamped tells es → (c : Cell) → told (net moment user es) c ≡ told es c
told_net moment user tells es s = told-listing moment user es (told es) (Fit-net tells es s)

pub Alike-net : (moment : ℕ) (user : List ℕ) (tells : ℕ → Told) (es : List Entry) → Stamped tells es → Alike (net moment user es) es
Alike-net moment user tells es s = record { same = told_net moment user tells es s }

pub Stamped-net : (moment : ℕ) (user : List ℕ) (tells : ℕ → Told) (es : List Entry) → Stamped tells es → Stamped tells (net moment user es)
Stamped-net moment user tells es s = Stamped-listing tells moment user es (told es) (λ c x e. stamped_told tells es c x s e)

-- what code that goes key by key owes for a net list
pub net_is : (moment : ℕ) (user : List ℕ) (tells : ℕ → Told) (es xs : List Entry) → Stamped tells es → IsToldListing moment user (told es) xs → xs ≡ net moment user es
net_is moment user tells es xs s l = is_listing one_stamp (replayed moment user) es (told es) xs one_stamp-itself (changes_of one_stamp es (told es) (Fit-net tells es s)) l

-- alike lists have one net list
pub net_alike : (moment : ℕ) (user : List ℕ) (tells : ℕ → Told) (xs ys : List Entry) → Stamped tells xs → Stamped tells ys → Alike xs ys → net moment user xs ≡ net moment user ys
net_alike moment user tells xs ys s t a =
    net_is moment user tells ys (net moment user xs) t
    (listing_alike one_stamp (replayed moment user) (told xs) (told ys) (net moment user xs) a.same (listing_is one_stamp (replayed moment user) xs (told xs) (Fit-net tells xs s)))

-- and so a net list is its own
pub net_net : (moment : ℕ) (user : List ℕ) (tells : ℕ → Told) (es : List Entry) → Stamped tells es → net moment user (net moment user es) ≡ net moment user es
net_net moment user tells es s = net_alike moment user tells (net moment user es) es (Stamped-net moment user tells es s) s (Alike-net moment user tells es s)

-- ---- what is gained

outside_is : (o p : Option Told) → outside o p ≡ (if is_some o then None else p)
outside_is (Some x) p = refl
outside_is None p = refl

-- what is told outside of others is told
pub outside_given : (o p : Option Told) (x : Told) → outside o p ≡ Some x → p ≡ Some x
outside_given (Some y) p x e = absurd (cc)
outside_given None p x e = e

pub Fit-gained : (tells : ℕ → Told) (own pending : List Entry) → Stamped tells pending → Fit one_stamp (own ++ pending) (gained_at own pending)
Fit-gained tells own pending s = record {
  steady = λ g.
      let cs : List ℕ = cuts (own ++ pending) g.table g.key in
      let up = Up-cuts (own ++ pending) g.table g.key in
      let cut = Cut-cuts g (own ++ pending) in
      Steady-two outside (λ t. told own (cell g t)) (λ t. told pending (cell g t)) 0 cs refl
      (Steady-told g own cs up (Cut-left g own pending cs cut)) (Steady-told g pending cs up (Cut-right g own pending cs cut));
  right = λ g. right_stamped tells (λ t. gained_at own pending (cell g t))
      (λ t x e. stamped_told tells pending (cell g t) x s (outside_given (told own (cell g t)) (told pending (cell g t)) x e));
}

-- what is gained is what is pending where own entries touch nothing
pub gained_is : (moment : ℕ) (user : List ℕ) (tells : ℕ → Told) (own pending : List Entry) → Stamped tells pending → IsGained own pending (gained moment user own pending)
gained_is moment user tells own pending s c =
    told-listing moment user (own ++ pending) (gained_at own pending) (Fit-gained tells own pending s) c ∙ outside_is (told own c) (told pending c)

pub Stamped-gained : (moment : ℕ) (user : List ℕ) (tells : ℕ → Told) (own pending : List Entry) → Stamped tells pending → Stamped tells (gained moment user own pending)
Stamped-gained moment user tells own pending s =
    Stamped-listing tells moment user (own ++ pending) (gained_at own pending) (λ c x e. stamped_told tells pending c x s (outside_given (told own c) (told pending c) x e))

-- what code that goes key by key owes for what is gained
pub gained_listed : (moment : ℕ) (user : List ℕ) (tells : ℕ → Told) (own pending xs : List Entry) → Stamped tells pending → IsToldListing moment user (gained_at own pending) xs
    → xs ≡ gained moment user own pending
gained_listed moment user tells own pending xs s l =
    is_listing one_stamp (replayed moment user) (own ++ pending) (gained_at own pending) xs one_stamp-itself (changes_of one_stamp (own ++ pending) (gained_at own pending) (Fit-gained tells own pending s)) l

-- it is the part of the net list of what is pending on cells that own entries do not touch
pub gained_of_net : (moment : ℕ) (user : List ℕ) (tells : ℕ → Told) (own pending : List Entry) → Stamped tells pending
    → gained moment user own pending ≡ gained moment user own (net moment user pending)
gained_of_net moment user tells own pending s =
    gained_listed moment user tells own (net moment user pending) (gained moment user own pending) (Stamped-net moment user tells pending s)
    (listing_alike one_stamp (replayed moment user) (gained_at own pending) (gained_at own (net moment user pending)) (gained moment user own pending)
    (λ c. ap (λ o. outside (told own c) o) (sym (told_net moment user tells pending s c)))
    (listing_is one_stamp (replayed moment user) (own ++ pending) (gained_at own pending) (Fit-gained tells own pending s)))
