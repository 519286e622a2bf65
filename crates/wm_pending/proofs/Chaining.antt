-- Stretches that were found one behind another, each the first from the end of the one before it.
use Rattle.std.proofs.Common.{◌≡◌, ℕ, ◌<◌, ◌≤◌, ◌⊎◌, inl, inr, ◌&&◌, ◌==◌, List, [], ◌∷◌, ◌++◌, Option, Some, None, refl, sym, ap, ◌∙◌, subst, arith, eqb-true}
use Rattle.std.proofs.lemmas.Bool.{and_parts}
use Rattle.wm_net.proofs.Conflicting.{same_stamps-is}
use Rattle.wm_net.proofs.Stretching.{le_or_lt, value_before}
use Rattle.wm_net.proofs.Unique.{here, past}
use Rattle.wm_net.specs.Conflicts.{Stamps, same_stamps}
use Rattle.wm_net.specs.Firsts.{IsFirst}
use Rattle.wm_net.specs.Listed.{IsApart, IsJoined, Ordered, Stretch, value_at}
use Rattle.wm_spec.proofs.Stretches.{by_test}

-- from an instant up to another
abbrev pub AreFirsts : (ℕ → Option Stamps) → ℕ → List (Stretch Stamps) → ℕ → Type 0
AreFirsts f low [] high = low ≡ high
AreFirsts f low (s ∷ ss) high = IsFirst f low s × AreFirsts f s.till ss high

-- one more
pub firsts_more : (f : ℕ → Option Stamps) (low : ℕ) (ss : List (Stretch Stamps)) (high : ℕ) (s : Stretch Stamps) → AreFirsts f low ss high → IsFirst f high s → AreFirsts f low (ss ++ s ∷ []) s.till
firsts_more f low [] high s are first = (subst (λ (x : ℕ). IsFirst f x s) (sym are) first, refl)
firsts_more f low (x ∷ ss) high s are first = (are.0, firsts_more f x.till ss high s are.1 first)

-- the first stretch of another function that gives the same
pub first_alike : (f h : ℕ → Option Stamps) (low : ℕ) (s : Stretch Stamps) → ((t : ℕ) → low ≤ t → f t ≡ h t) → IsFirst f low s → IsFirst h low s
first_alike f h low s same first =
    let begins = first.begins in
    let real = first.real in
    record {
      begins = first.begins;
      before = λ t le lt. sym (same t le) ∙ first.before t le lt;
      real = first.real;
      over = λ t le lt. sym (same t (omega (arith, begins, le))) ∙ first.over t le lt;
      ends = λ e. first.ends (same s.till (omega (arith, begins, real)) ∙ e);
    }

-- a stretch does not go on in the one behind it
apart : (f : ℕ → Option Stamps) (low high : ℕ) (s : Stretch Stamps) (ss : List (Stretch Stamps)) → IsFirst f low s → AreFirsts f s.till ss high → IsApart same_stamps s ss
apart f low high s [] first are = tt
apart f low high s (q ∷ ss) first are =
    by_test ((s.till == q.from) && same_stamps s.value q.value)
    (λ both.
    let two = and_parts (s.till == q.from) (same_stamps s.value q.value) both in
    let held : f q.from ≡ Some q.value = are.0.over q.from (omega arith) are.0.real in
    absurd (first.ends (ap f (eqb-true s.till q.from two.0) ∙ held ∙ ap (λ (x : Stamps). Some x) (sym (same_stamps-is s.value q.value two.1)))))
    (λ out. out)

-- stretches from an instant on are in order and as long as can be, and hold what the function gives
pub record Lists (f : ℕ → Option Stamps) (low : ℕ) (ss : List (Stretch Stamps)) : Type 0 where
  pub ordered : Ordered low ss
  pub joined : IsJoined same_stamps ss
  pub holds : (t : ℕ) → low ≤ t → value_at ss t ≡ f t

pub firsts_list : (f : ℕ → Option Stamps) (low : ℕ) (ss : List (Stretch Stamps)) (high : ℕ) → AreFirsts f low ss high → ((t : ℕ) → high ≤ t → f t ≡ None) → Lists f low ss
firsts_list f low [] high are none = record { ordered = tt; joined = tt; holds = λ t le. sym (none t (omega (arith, are, le))) }
firsts_list f low (s ∷ ss) high are none = more (firsts_list f s.till ss high are.1 none)
  where
    more : Lists f s.till ss → Lists f low (s ∷ ss)
    more rest = record {
      ordered = (are.0.begins, are.0.real, rest.ordered);
      joined = (apart f low high s ss are.0 are.1, rest.joined);
      holds = λ t le. by_place t le (le_or_lt s.till t) (le_or_lt s.from t);
    }
      where
        by_place : (t : ℕ) → low ≤ t → (s.till ≤ t) ⊎ (t < s.till) → (s.from ≤ t) ⊎ (t < s.from) → value_at (s ∷ ss) t ≡ f t
        by_place t le (inl late) from = past s ss t late ∙ rest.holds t late
        by_place t le (inr lt) (inl begun) = here s ss t rest.ordered begun lt ∙ sym (are.0.over t begun lt)
        by_place t le (inr lt) (inr early) = value_before s.from (s ∷ ss) t (omega arith, are.0.real, rest.ordered) early ∙ sym (are.0.before t le early)
