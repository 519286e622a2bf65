-- What decisions copy over the stretches where they count, in order and joined.
use Rattle.std.proofs.Common.{◌≡◌, ℕ, ◌<◌, ◌≤◌, ◌⊎◌, inl, inr, max, List, [], ◌∷◌, ◌++◌, Option, Bool, true, false, ◌&&◌, ◌==◌, refl, sym, ap, ◌∙◌, arith, eqb-true}
use Rattle.std.proofs.lemmas.Bool.{eq-eqb}
use Rattle.std.specs.Bool.{then_some}
use Rattle.std.specs.Option.{option_or}
use Rattle.wm_base.proofs.Plain.{option_or-none, option_or_assoc, and_last}
use Rattle.wm_net.proofs.Stretching.{le_or_lt, value_before, within_not_after, Ordered-lower}
use Rattle.wm_net.specs.Groups.{Group}
use Rattle.wm_net.specs.Listed.{IsApart, IsBlock, IsJoined, Ordered, Stretch, same_number, value_at, within}
use Rattle.wm_spec.proofs.Stretches.{by_test}
use Rattle.wm_spec.specs.Lists.{Cell, Told}
use Rattle.wm_state.specs.State.{Decision}
use Rattle.wm_decided.proofs.Copies.{Lie, apart_behind, joined as joined_in, lie, ordered as ordered_in, value_in, value_out}
use Rattle.wm_decided.specs.Counted.{IsSound, copies_in, copies_over, copy_from, decision_in}
use Rattle.wm_decided.specs.Netted.{Copy, same_copy}

-- ---- one list behind another

ordered_append : (low from till place : ℕ) (xs ys : List (Stretch Copy)) → Lie from till place xs → Ordered low xs → low ≤ till → Ordered till ys → Ordered low (xs ++ ys)
ordered_append low from till place [] ys lies o le more = Ordered-lower low till ys le more
ordered_append low from till place (x ∷ xs) ys lies o le more = (o.0, o.1, ordered_append x.till from till place xs ys lies.3 o.2 lies.1 more)

joined_append : (from till place : ℕ) (xs ys : List (Stretch Copy)) → Lie from till place xs → IsJoined same_copy xs → IsJoined same_copy ys
    → ((x : Stretch Copy) → x.till ≤ till → x.value.place ≡ place → IsApart same_copy x ys) → IsJoined same_copy (xs ++ ys)
joined_append from till place [] ys lies j more other = more
joined_append from till place (x ∷ []) ys lies j more other = (other x lies.1 lies.2, more)
joined_append from till place (x ∷ y ∷ xs) ys lies j more other = (j.0, joined_append from till place (y ∷ xs) ys lies.3 j.1 more other)

value_append : (xs ys : List (Stretch Copy)) (t : ℕ) → value_at (xs ++ ys) t ≡ option_or (value_at ys t) (value_at xs t)
value_append [] ys t = sym (option_or-none (value_at ys t))
value_append (x ∷ xs) ys t = rw (value_append xs ys t) (option_or_assoc (value_at ys t) (value_at xs t) (then_some (within x.from x.till t) x.value))

module _ (ds : List Decision) (sound : (n : ℕ) → IsSound (decision_in ds n)) where
  abbrev its : Stretch ℕ → List (Stretch Copy)
  its s = copies_in s.from s.till s.value (decision_in ds s.value).copied

  over_ordered : (low : ℕ) (ss : List (Stretch ℕ)) → Ordered low ss → Ordered low (copies_over ds ss)
  over_ordered low [] o = tt
  over_ordered low (s ∷ ss) o =
      ordered_append low s.from s.till s.value (its s) (copies_over ds ss) (lie s.from s.till s.value (decision_in ds s.value).copied)
      (Ordered-lower low (max 0 s.from) (its s) (omega (arith, o.0)) (ordered_in s.from s.till s.value 0 (decision_in ds s.value).copied (sound s.value).0))
      (omega (arith, o.0, o.1)) (over_ordered s.till ss o.2)

  -- what another decision copies behind does not go on with it
  other_first : (s : Stretch ℕ) (ss : List (Stretch ℕ)) → Ordered s.till ss → IsApart same_number s ss → (x : Stretch Copy) → x.till ≤ s.till → x.value.place ≡ s.value
      → IsApart same_copy x (copies_over ds ss)
  other_first s [] o a x ends is = tt
  other_first s (q ∷ qs) o a x ends is = by_list (its q) (lie q.from q.till q.value (decision_in ds q.value).copied)
    where
      by_list : (xs : List (Stretch Copy)) → Lie q.from q.till q.value xs → IsApart same_copy x (xs ++ copies_over ds qs)
      by_list [] lies = apart_behind same_copy x q.till (copies_over ds qs) (omega (arith, ends, o.0, o.1)) (over_ordered q.till qs o.2)
      by_list (y ∷ ys) lies = by_test (x.till == y.from) (λ e. rw e (met e)) (λ e. rw e refl)
        where
          met : (x.till == y.from) ≡ true → ((x.value.place == y.value.place) && (x.value.told.stamp == y.value.told.stamp)) ≡ false
          met e =
              let meets : s.till ≡ q.from = omega (arith, ends, o.0, lies.0, eqb-true x.till y.from e) in
              let other : (s.value == q.value) ≡ false = and_last (s.till == q.from) (s.value == q.value) (eq-eqb s.till q.from meets) a in
              rw (is, lies.2, other) refl

  over_joined : (low : ℕ) (ss : List (Stretch ℕ)) → Ordered low ss → IsJoined same_number ss → IsJoined same_copy (copies_over ds ss)
  over_joined low [] o j = tt
  over_joined low (s ∷ ss) o j =
      joined_append s.from s.till s.value (its s) (copies_over ds ss) (lie s.from s.till s.value (decision_in ds s.value).copied)
      (joined_in s.from s.till s.value 0 (decision_in ds s.value).copied (sound s.value).0 (sound s.value).1)
      (over_joined s.till ss o.2 j.1) (other_first s ss o.2 j.0)

  over_value : (low : ℕ) (ss : List (Stretch ℕ)) (t : ℕ) → Ordered low ss → value_at (copies_over ds ss) t ≡ copy_from ds t (value_at ss t)
  over_value low [] t o = refl
  over_value low (s ∷ ss) t o = value_append (its s) (copies_over ds ss) t ∙ rw (over_value s.till ss t o.2) (by_place (le_or_lt s.till t))
    where
      copied : List (Stretch Told)
      copied = (decision_in ds s.value).copied

      by_within : (b : Bool) → within s.from s.till t ≡ b → value_at (its s) t ≡ copy_from ds t (then_some b s.value)
      by_within true e = value_in s.from s.till s.value copied t e
      by_within false e = value_out s.from s.till s.value copied t e

      by_place : (s.till ≤ t) ⊎ (t < s.till) → option_or (copy_from ds t (value_at ss t)) (value_at (its s) t) ≡ copy_from ds t (option_or (value_at ss t) (then_some (within s.from s.till t) s.value))
      by_place (inl late) =
          let out = within_not_after s.from s.till t late in
          rw (value_out s.from s.till s.value copied t out, out, option_or-none (value_at ss t)) (option_or-none (copy_from ds t (value_at ss t)))
      by_place (inr early) = rw (value_before s.till ss t o.2 early) (by_within (within s.from s.till t) refl)

  -- they are a block of what is copied at each cell
  pub copies_block : (f : Cell → Option ℕ) (g : Group) (ss : List (Stretch ℕ)) → IsBlock same_number f (record { group = g; stretches = ss })
      → IsBlock same_copy (λ c. copy_from ds c.time (f c)) (record { group = g; stretches = copies_over ds ss })
  copies_block f g ss b = record {
    ordered = over_ordered 0 ss b.ordered;
    joined = over_joined 0 ss b.ordered b.joined;
    holds = λ t. over_value 0 ss t b.ordered ∙ ap (copy_from ds t) (b.holds t);
  }
