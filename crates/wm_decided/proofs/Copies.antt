-- What decisions copy, cut to the stretches over which they count.
use Rattle.std.proofs.Common.{◌≡◌, ℕ, ◌<◌, ◌≤◌, max, min, nat_lt, List, [], ◌∷◌, Option, None, Some, option_map, Bool, true, false, ◌&&◌, ◌==◌, refl, sym, ap, ◌∙◌, arith, eqb-true}
use Rattle.std.proofs.lemmas.Bool.Decides.{nat_tests}
use Rattle.std.proofs.lemmas.Bool.{eq-eqb, ltb-true}
use Rattle.std.specs.Bool.{then_some}
use Rattle.std.specs.Option.{option_or}
use Rattle.wm_base.proofs.Plain.{option_or-none, less_apart}
use Rattle.wm_net.specs.Listed.{IsApart, IsJoined, Ordered, Stretch, value_at, within}
use Rattle.wm_net.specs.Nets.{one_stamp}
use Rattle.wm_net.proofs.Stretching.{Ordered-lower}
use Rattle.wm_spec.proofs.Stretches.{by_test}
use Rattle.wm_spec.specs.Lists.{Told}
use Rattle.wm_decided.specs.Counted.{copies_in}
use Rattle.wm_decided.specs.Netted.{Copy, same_copy}

-- a stretch is apart from others that begin behind its end
pub apart_behind : {A : Type 0} (test : A → A → Bool) (p : Stretch A) (low : ℕ) (ss : List (Stretch A)) → p.till < low → Ordered low ss → IsApart test p ss
apart_behind test p low [] lt o = tt
apart_behind test p low (q ∷ ss) lt o = let other : (p.till == q.from) ≡ false = less_apart p.till q.from (omega (arith, lt, o.0)) in rw other refl

-- what is had of a copy, where a test passes, before others
abbrev consed : {A : Type 0} → Option A → List A → List A
consed None xs = xs
consed (Some x) xs = x ∷ xs

-- ---- in a period

-- copies lie in a period, and are of the decision at a place
abbrev pub Lie : ℕ → ℕ → ℕ → List (Stretch Copy) → Type 0
Lie from till place [] = Unit {0}
Lie from till place (x ∷ xs) = (from ≤ x.from) × (x.till ≤ till) × (x.value.place ≡ place) × Lie from till place xs

module _ (from till place : ℕ) where
  abbrev copies : List (Stretch Told) → List (Stretch Copy)
  copies ss = copies_in from till place ss

  abbrev is_some_of : Stretch Told → Bool
  is_some_of s = nat_lt (max s.from from) (min s.till till)

  abbrev copy_of : Stretch Told → Stretch Copy
  copy_of s = record { from = max s.from from; till = min s.till till; value = (let c : Copy = record { place = place; told = s.value } in c) }

  taken : (s : Stretch Told) (ss : List (Stretch Told)) → is_some_of s ≡ true → copies (s ∷ ss) ≡ copy_of s ∷ copies ss
  taken s ss e = rw e refl

  dropped : (s : Stretch Told) (ss : List (Stretch Told)) → is_some_of s ≡ false → copies (s ∷ ss) ≡ copies ss
  dropped s ss e = rw e refl

  pub lie : (ss : List (Stretch Told)) → Lie from till place (copies ss)
  lie [] = tt
  lie (s ∷ ss) = by_test (is_some_of s) (λ e. rw e (omega arith, omega arith, refl, lie ss)) (λ e. rw e (lie ss))

  pub ordered : (low : ℕ) (ss : List (Stretch Told)) → Ordered low ss → Ordered (max low from) (copies ss)
  ordered low [] o = tt
  ordered low (s ∷ ss) o =
      by_test (is_some_of s)
      (λ e. rw e (omega (arith, o.0), ltb-true (max s.from from) (min s.till till) e, Ordered-lower (min s.till till) (max s.till from) (copies ss) (omega arith) (ordered s.till ss o.2)))
      (λ e. rw e (Ordered-lower (max low from) (max s.till from) (copies ss) (omega (arith, o.0, o.1)) (ordered s.till ss o.2)))

  -- a copy does not meet the next with the same stamp
  apart : (s : Stretch Told) (ss : List (Stretch Told)) → is_some_of s ≡ true → Ordered s.till ss → IsApart one_stamp s ss → IsApart same_copy (copy_of s) (copies ss)
  apart s [] e o a = tt
  apart s (t ∷ ss) e o a =
      by_test (is_some_of t)
      (λ f. rw f (by_test (min s.till till == max t.from from) (λ meets. rw meets (met f meets)) (λ out. rw out refl)))
      (λ f. rw f (apart_behind same_copy (copy_of s) (max t.till from) (copies ss) (omega (arith, o.0, o.1)) (ordered t.till ss o.2)))
    where
      met : is_some_of t ≡ true → (min s.till till == max t.from from) ≡ true → ((place == place) && (s.value.stamp == t.value.stamp)) ≡ false
      met f meets =
          let real = ltb-true (max s.from from) (min s.till till) e in
          let other = ltb-true (max t.from from) (min t.till till) f in
          let is = eqb-true (min s.till till) (max t.from from) meets in
          let same : s.till ≡ t.from = omega (arith, real, other, is, o.0) in
          by_stamp (s.till == t.from) (place == place) (s.value.stamp == t.value.stamp) (eq-eqb s.till t.from same) a
        where
          by_stamp : (x y z : Bool) → x ≡ true → (x && z) ≡ false → (y && z) ≡ false
          by_stamp true true z e k = k
          by_stamp true false z e k = refl
          by_stamp false y z e k = absurd (cc)

  pub joined : (low : ℕ) (ss : List (Stretch Told)) → Ordered low ss → IsJoined one_stamp ss → IsJoined same_copy (copies ss)
  joined low [] o j = tt
  joined low (s ∷ ss) o j =
      by_test (is_some_of s)
      (λ e. rw e (apart s ss e o.2 j.0, joined s.till ss o.2 j.1))
      (λ e. rw e (joined s.till ss o.2 j.1))

  within_cut : (a b t : ℕ) → within (max a from) (min b till) t ≡ (within a b t && within from till t)
  within_cut a b t = grind (arith, nat_tests)

  empty_cut : (a b t : ℕ) → nat_lt (max a from) (min b till) ≡ false → within (max a from) (min b till) t ≡ false
  empty_cut a b t e = grind (arith, nat_tests, e)

  abbrev made : Told → Copy
  made x = record { place = place; told = x }

  -- a copy before others
  value_cons : (s : Stretch Told) (ss : List (Stretch Told)) (t : ℕ) → value_at (copies (s ∷ ss)) t ≡ option_or (value_at (copies ss) t) (then_some (within s.from s.till t && within from till t) (made s.value))
  value_cons s ss t =
      by_test (is_some_of s)
      (λ e. rw e (ap (λ b. option_or (value_at (copies ss) t) (then_some b (made s.value))) (within_cut s.from s.till t)))
      (λ e. rw e (
      sym (ap (λ b. option_or (value_at (copies ss) t) (then_some b (made s.value))) (sym (within_cut s.from s.till t) ∙ empty_cut s.from s.till t e)
      ∙ option_or-none (value_at (copies ss) t))))

  -- inside the period what is copied stands, and nothing outside
  pub value_in : (ss : List (Stretch Told)) (t : ℕ) → within from till t ≡ true → value_at (copies ss) t ≡ option_map made (value_at ss t)
  value_in [] t e = refl
  value_in (s ∷ ss) t e = value_cons s ss t ∙ rw (e, value_in ss t e) (by_told (value_at ss t) (within s.from s.till t))
    where
      by_told : (o : Option Told) (b : Bool) → option_or (option_map made o) (then_some (b && true) (made s.value)) ≡ option_map made (option_or o (then_some b s.value))
      by_told (Some x) b = refl
      by_told None true = refl
      by_told None false = refl

  pub value_out : (ss : List (Stretch Told)) (t : ℕ) → within from till t ≡ false → value_at (copies ss) t ≡ None
  value_out [] t e = refl
  value_out (s ∷ ss) t e = value_cons s ss t ∙ rw (e, value_out ss t e) (by_within (within s.from s.till t))
    where
      by_within : (b : Bool) → (let n : Option Copy = None in option_or n (then_some (b && false) (made s.value))) ≡ None
      by_within true = refl
      by_within false = refl
