-- A listing covers each cell once.
use Rattle.std.proofs.Common.{◌≡◌, ℕ, ◌<◌, List, [], ◌∷◌, ◌++◌, map, Option, None, is_some, Bool, true, false, if◌then◌else◌, refl, sym, ap, ◌∙◌, arith}
use Rattle.std.proofs.lemmas.Bool.{and_parts}
use Rattle.std.proofs.lemmas.Bool.Decides.{nat_tests}
use Rattle.wm_spec.proofs.Stretches.{Up-cuts}
use Rattle.wm_spec.specs.Lists.{Entry, Cell, Told, touched}
use Rattle.wm_spec.specs.Stretches.{cuts}
use Rattle.wm_net.specs.Groups.{Group, cell, of_cell, same_group, groups, has_group, GroupsAscend}
use Rattle.wm_net.specs.Listed.{Stretch, within, value_at, Ordered, listed, stretches_of}
use Rattle.wm_net.specs.Nets.{replayed, one_stamp, told_listing}
use Rattle.wm_net.specs.Places.{Once}
use Rattle.wm_net.proofs.Alikes.{touched-cons}
use Rattle.wm_spec.proofs.Reaching.{touched-append}
use Rattle.wm_net.proofs.Grouping.{same_group-is, precedes_other, groups-ascend}
use Rattle.wm_net.proofs.Netting.{told_replayed, told_listed}
use Rattle.wm_net.proofs.Stretching.{value_before, Ordered-stretches}

-- two lists one behind the other
Once-append : (xs ys : List Entry) → Once xs → Once ys → ((c : Cell) → touched xs c ≡ true → touched ys c ≡ false) → Once (xs ++ ys)
Once-append [] ys one two apart = two
Once-append (x ∷ xs) ys one two apart = (
  λ c h. touched-append xs ys c ∙ rw (apart c (touched-cons x xs c ∙ rw (h, one.0 c h) refl), one.0 c h) refl,
  Once-append xs ys one.1 two (λ c h. apart c (touched-cons x xs c ∙ rw h refl)),
)

nothing_held : (b : Bool) (o : Option Told) → o ≡ None → is_some (if b then o else None) ≡ false
nothing_held true o e = rw e refl
nothing_held false o e = refl

-- in a group
once_replayed : (moment : ℕ) (user : List ℕ) (g : Group) (low : ℕ) (ss : List (Stretch Told)) → Ordered low ss → Once (map (replayed moment user g) ss)
once_replayed moment user g low [] o = tt
once_replayed moment user g low (s ∷ ss) o = (
  λ c h.
      let before : c.time < s.till = ended s.from s.till c.time (and_parts (same_group g (of_cell c)) (within s.from s.till c.time) h).1 in
      ap (λ (o : Option Told). is_some o) (told_replayed moment user g ss c) ∙ nothing_held (same_group g (of_cell c)) (value_at ss c.time) (value_before s.till ss c.time o.2 before),
  once_replayed moment user g s.till ss o.2,
)
  where
    ended : (from till t : ℕ) → within from till t ≡ true → t < till
    ended from till t e = grind (arith, nat_tests)

-- and group after group
once_listed : (moment : ℕ) (user : List ℕ) (F : Group → List (Stretch Told)) (gs : List Group) → GroupsAscend gs → ((g : Group) → Ordered 0 (F g))
    → Once (listed (replayed moment user) F gs)
once_listed moment user F [] up o = tt
once_listed moment user F (g ∷ gs) up o =
    Once-append (map (replayed moment user g) (F g)) (listed (replayed moment user) F gs) (once_replayed moment user g 0 (F g) (o g)) (once_listed moment user F gs up.1 o) apart
  where
    at : Cell → Option Told
    at c = value_at (F (of_cell c)) c.time

    by_test : (c : Cell) (b : Bool) → same_group g (of_cell c) ≡ b → is_some (if b then value_at (F g) c.time else None) ≡ true → is_some (if has_group (of_cell c) gs then at c else None) ≡ false
    by_test c false e h = absurd (cc)
    by_test c true e h =
        let one : g ≡ of_cell c = same_group-is g (of_cell c) e in
        let none : has_group (of_cell c) gs ≡ false = ap (λ (x : Group). has_group x gs) (sym one) ∙ precedes_other g gs up.0 in
        rw none refl

    apart : (c : Cell) → touched (map (replayed moment user g) (F g)) c ≡ true → touched (listed (replayed moment user) F gs) c ≡ false
    apart c h =
        ap (λ (o : Option Told). is_some o) (told_listed moment user F gs c)
        ∙ by_test c (same_group g (of_cell c)) refl (ap (λ (o : Option Told). is_some o) (sym (told_replayed moment user g (F g) c)) ∙ h)

-- whatever the function and the entries that cut it are
pub Once-listing : (moment : ℕ) (user : List ℕ) (es : List Entry) (f : Cell → Option Told) → Once (told_listing moment user es f)
Once-listing moment user es f =
    once_listed moment user (stretches_of one_stamp es f) (groups es) (groups-ascend es)
    (λ g. Ordered-stretches one_stamp (λ t. f (cell g t)) 0 (cuts es g.table g.key) (Up-cuts es g.table g.key))
