-- Stretches that are ordered and joined are told by what they hold at each moment.
use Rattle.std.proofs.Common.{◌≡◌, ℕ, ◌<◌, ◌≤◌, ◌⊎◌, inl, inr, List, [], ◌∷◌, Option, None, Some, Bool, true, ◌&&◌, ◌==◌, refl, sym, ap, ◌∙◌, arith, eq-eqb, subst}
use Rattle.std.proofs.lemmas.Bool.{and_parts}
use Rattle.std.proofs.lemmas.Bool.Decides.{nat_tests}
use Rattle.std.specs.Bool.{then_some}
use Rattle.std.specs.Option.{option_or}
use Rattle.wm_base.proofs.Plain.{option_or-none}
use Rattle.wm_spec.proofs.Stretches.{Up, Steady, by_test}
use Rattle.wm_net.specs.Listed.{Stretch, within, value_at, joined, onto, stretches, Ordered, IsApart, IsJoined}
use Rattle.wm_net.proofs.Stretching.{Holds, le_or_lt, within_is, within_not_after, value_before, HeadSame, Right, head_given, Ordered-stretches, value_stretches}

-- what the first of some stretches holds
pub here : {A : Type 0} (p : Stretch A) (ps : List (Stretch A)) (t : ℕ) → Ordered p.till ps → p.from ≤ t → t < p.till → value_at (p ∷ ps) t ≡ Some p.value
here p ps t o h k = rw (value_before p.till ps t o k, within_is p.from p.till t h k) refl

-- and what the others do, behind it
pub past : {A : Type 0} (p : Stretch A) (ps : List (Stretch A)) (t : ℕ) → p.till ≤ t → value_at (p ∷ ps) t ≡ value_at ps t
past p ps t h = rw (within_not_after p.from p.till t h) (option_or-none (value_at ps t))

-- behind the end of a stretch its value does not go on
pub behind : {A : Type 0} (test : A → A → Bool) (p : Stretch A) (ps : List (Stretch A))
    → ((x : A) → test x x ≡ true) → Ordered p.till ps → IsApart test p ps → value_at ps p.till ≡ Some p.value → ⊥
behind test p [] itself o apart h = cc
behind test p (q ∷ ps) itself o apart h = by_place (le_or_lt q.from p.till)
  where
    by_place : (q.from ≤ p.till) ⊎ (p.till < q.from) → ⊥
    by_place (inr before) = let gone : value_at (q ∷ ps) p.till ≡ None = value_before q.from (q ∷ ps) p.till (omega arith, o.1, o.2) before in cc
    by_place (inl le) =
        let held : value_at (q ∷ ps) p.till ≡ Some q.value = here q ps p.till o.2 le (omega (arith, o.0, o.1)) in
        let one : p.value ≡ q.value = cc in
        let meets : (p.till == q.from) ≡ true = eq-eqb p.till q.from (omega (arith, o.0, le)) in
        let same : test p.value q.value ≡ true = rw (← one) (itself p.value) in
        let both : ((p.till == q.from) && test p.value q.value) ≡ true = rw (meets, same) refl in
        cc

pub same_stretch : {A : Type 0} (p q : Stretch A) → p.from ≡ q.from → p.till ≡ q.till → p.value ≡ q.value → p ≡ q
same_stretch p q e f g = λ i. record { from = e i; till = f i; value = g i }

-- ---- the stretches of a function are told by what it gives

-- where nothing is given from an instant on, there is no stretch
none_left : {A : Type 0} (f : ℕ → Option A) (low : ℕ) (ss : List (Stretch A)) → Ordered low ss → Holds low ss f → ((t : ℕ) → low ≤ t → f t ≡ None) → ss ≡ []
none_left f low [] o h none = refl
none_left f low (s ∷ ss) o h none = absurd (let it = sym (here s ss s.from o.2 (omega arith) o.1) ∙ h s.from o.0 ∙ none s.from o.0 in cc)

-- where nothing is given up to an instant, they begin behind it
later : {A : Type 0} (f : ℕ → Option A) (low high : ℕ) (ss : List (Stretch A)) → Ordered low ss → Holds low ss f → ((t : ℕ) → low ≤ t → t < high → f t ≡ None) → Ordered high ss
later f low high [] o h none = tt
later f low high (s ∷ ss) o h none = (by_place (le_or_lt high s.from), o.1, o.2)
  where
    by_place : (high ≤ s.from) ⊎ (s.from < high) → high ≤ s.from
    by_place (inl le) = le
    by_place (inr lt) = absurd (let it = sym (here s ss s.from o.2 (omega arith) o.1) ∙ h s.from o.0 ∙ none s.from o.0 lt in cc)

-- a stretch that begins elsewhere stays apart from what follows
apart_from : {A : Type 0} (test : A → A → Bool) (p : Stretch A) (from : ℕ) (ss : List (Stretch A)) → IsApart test p ss → IsApart test (record { from = from; till = p.till; value = p.value }) ss
apart_from test p from [] apart = tt
apart_from test p from (q ∷ ss) apart = apart

-- a stretch before others that it is apart from
joined_apart : {A : Type 0} (test : A → A → Bool) (low : ℕ) (p : Stretch A) (ss : List (Stretch A)) → p.from ≡ low → IsApart test p ss → joined test low p.till p.value ss ≡ p ∷ ss
joined_apart test low p [] e apart = ap (λ q. q ∷ []) (same_stretch (record { from = low; till = p.till; value = p.value }) p (sym e) refl refl)
joined_apart test low p (q ∷ ss) e apart = rw apart (ap (λ s. s ∷ q ∷ ss) (same_stretch (record { from = low; till = p.till; value = p.value }) p (sym e) refl refl))

-- and before its own rest
joined_own : {A : Type 0} (test : A → A → Bool) (low middle : ℕ) (p : Stretch A) (ss : List (Stretch A)) → p.from ≡ low → test p.value p.value ≡ true
    → joined test low middle p.value (record { from = middle; till = p.till; value = p.value } ∷ ss) ≡ p ∷ ss
joined_own test low middle p ss e itself = rw (eq-eqb middle middle refl, itself) (ap (λ s. s ∷ ss) (same_stretch (record { from = low; till = p.till; value = p.value }) p (sym e) refl refl))

within_later : (from middle till t : ℕ) → from ≤ middle → middle ≤ t → within middle till t ≡ within from till t
within_later from middle till t le after = grind (arith, nat_tests)

-- the stretches from a cut on before what is given up to it
with_first : {A : Type 0} (test : A → A → Bool) (f : ℕ → Option A) (low a : ℕ) (more : List (Stretch A)) → ((x : A) → test x x ≡ true) → low < a → ((t : ℕ) → low ≤ t → t < a → f t ≡ f low)
    → ((xs : List (Stretch A)) → Ordered a xs → IsJoined test xs → Holds a xs f → more ≡ xs)
    → (ss : List (Stretch A)) → Ordered low ss → IsJoined test ss → Holds low ss f → onto test low a (f low) more ≡ ss
with_first {A = A} test f low a more itself up steady rest ss o j h = by_value (f low) refl
  where
    first : (x : A) (xs : List (Stretch A)) → f low ≡ Some x → Ordered low xs → IsJoined test xs → Holds low xs f → joined test low a x more ≡ xs
    first x [] e o j h = absurd (let it = h low (omega arith) ∙ e in cc)
    first x (p ∷ ps) e o j h = by_from (le_or_lt p.from low)
      where
        by_end : p.from ≡ low → x ≡ p.value → a ≤ p.till → (p.till ≤ a) ⊎ (a < p.till) → joined test low a x more ≡ p ∷ ps
        by_end begins is past_a (inl le) =
            let ends : a ≡ p.till = omega (arith, past_a, le) in
            let own : more ≡ ps = rest ps (subst (λ n. Ordered n ps) (sym ends) o.2) j.1 (λ t le2. sym (past p ps t (omega (arith, ends, le2))) ∙ h t (omega (arith, up, le2))) in
            rw (own, ends, is) (joined_apart test low p ps begins j.0)
        by_end begins is past_a (inr lt) =
            let own : more ≡ record { from = a; till = p.till; value = p.value } ∷ ps =
            rest (record { from = a; till = p.till; value = p.value } ∷ ps) (omega arith, lt, o.2) (apart_from test p a ps j.0, j.1)
            (λ t le2. ap (λ (b : Bool). option_or (value_at ps t) (then_some b p.value)) (within_later p.from a p.till t (omega (arith, begins, up)) le2) ∙ h t (omega (arith, up, le2))) in
            rw (own, is) (joined_own test low a p ps begins (itself p.value))

        by_till : p.from ≡ low → x ≡ p.value → (a ≤ p.till) ⊎ (p.till < a) → joined test low a x more ≡ p ∷ ps
        by_till begins is (inl le) = by_end begins is le (le_or_lt p.till a)
        by_till begins is (inr lt) =
            let at : low ≤ p.till = omega (arith, begins, o.1) in
            absurd (behind test p ps itself o.2 j.0 (sym (past p ps p.till (omega arith)) ∙ h p.till at ∙ steady p.till at lt ∙ e ∙ ap (λ y. Some y) is))

        by_from : (p.from ≤ low) ⊎ (low < p.from) → joined test low a x more ≡ p ∷ ps
        by_from (inl le) =
            let begins : p.from ≡ low = omega (arith, le, o.0) in
            let same : Some x ≡ Some p.value = sym e ∙ sym (h low (omega arith)) ∙ here p ps low o.2 le (omega (arith, begins, o.1)) in
            let is : x ≡ p.value = cc in
            by_till begins is (le_or_lt a p.till)
        by_from (inr lt) = absurd (let it = sym (value_before p.from (p ∷ ps) low (omega arith, o.1, o.2) lt) ∙ h low (omega arith) ∙ e in cc)

    by_value : (o2 : Option A) → f low ≡ o2 → onto test low a (f low) more ≡ ss
    by_value None e = rw e (rest ss (later f low a ss o h (λ t le lt. steady t le lt ∙ e)) j (λ t le. h t (omega (arith, up, le))))
    by_value (Some x) e = rw e (first x ss e o j h)

-- stretches that are ordered and joined and hold what a function gives are its stretches
stretches_are : {A : Type 0} (test : A → A → Bool) (f : ℕ → Option A) (low : ℕ) (cs : List ℕ) (ss : List (Stretch A)) → ((x : A) → test x x ≡ true) → Up low cs → Steady f low cs
    → Ordered low ss → IsJoined test ss → Holds low ss f → stretches test f low cs ≡ ss
stretches_are test f low [] ss itself u s o j h = sym (none_left f low ss o h s)
stretches_are test f low (a ∷ cs) ss itself u s o j h =
    with_first test f low a (stretches test f a cs) itself u.0 s.0 (λ xs. stretches_are test f a cs xs itself u.1 s.1) ss o j h

-- ---- the stretches of a function are so

apart_alike : {A : Type 0} (test : A → A → Bool) (p q : Stretch A) (ss : List (Stretch A)) → p.till ≡ q.till → p.value ≡ q.value → IsApart test q ss → IsApart test p ss
apart_alike test p q [] e v apart = tt
apart_alike test p q (s ∷ ss) e v apart = rw (e, v) apart

IsJoined-joined : {A : Type 0} (test : A → A → Bool) (from till : ℕ) (x : A) (ss : List (Stretch A)) → HeadSame test x ss → IsJoined test ss → IsJoined test (joined test from till x ss)
IsJoined-joined test from till x [] head j = (tt, tt)
IsJoined-joined {A = A} test from till x (s ∷ ss) head j =
    by_test ((till == s.from) && test x s.value)
    (λ e. rw e (
      apart_alike test (let p : Stretch A = record { from = from; till = s.till; value = x } in p) s ss refl (head (and_parts (till == s.from) (test x s.value) e).1) j.0,
      j.1,
    ))
    (λ e. rw e (e, j))

IsJoined-onto : {A : Type 0} (test : A → A → Bool) (from till : ℕ) (o : Option A) (ss : List (Stretch A)) → ((x : A) → o ≡ Some x → HeadSame test x ss)
    → IsJoined test ss → IsJoined test (onto test from till o ss)
IsJoined-onto test from till None ss head j = j
IsJoined-onto test from till (Some x) ss head j = IsJoined-joined test from till x ss (head x refl) j

pub IsJoined-stretches : {A : Type 0} (test : A → A → Bool) (f : ℕ → Option A) (low : ℕ) (cs : List ℕ) → Up low cs → Steady f low cs → Right test f
    → IsJoined test (stretches test f low cs)
IsJoined-stretches test f low [] u s e = tt
IsJoined-stretches test f low (a ∷ cs) u s e =
    IsJoined-onto test low a (f low) (stretches test f a cs)
    (λ x g. head_given a (stretches test f a cs) f test low x (Ordered-stretches test f a cs u.1) (value_stretches test f a cs u.1 s.1 e) e g)
    (IsJoined-stretches test f a cs u.1 s.1 e)

-- what code owes in a key: stretches that are ordered and joined and hold what the function gives are its stretches, whatever is cut, and
-- whatever else the test takes for the same
pub is_stretches : {A : Type 0} (test : A → A → Bool) (f : ℕ → Option A) (cs : List ℕ) (ps : List (Stretch A)) → ((x : A) → test x x ≡ true) → Up 0 cs → Steady f 0 cs
    → Ordered 0 ps → IsJoined test ps → ((t : ℕ) → value_at ps t ≡ f t) → ps ≡ stretches test f 0 cs
is_stretches test f cs ps itself u s o j h = sym (stretches_are test f 0 cs ps itself u s o j (λ t le. h t))
