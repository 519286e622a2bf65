-- The stretches of a function of the moment hold what it gives; functions that change at cuts alone.
use Rattle.std.proofs.Common.{◌≡◌, ℕ, ◌<◌, ◌≤◌, ◌⊎◌, inl, inr, List, [], ◌∷◌, ◌++◌, Option, None, Some, Bool, true, false, ◌&&◌, ◌||◌, ◌==◌, nat_le, refl, sym, ap, ◌∙◌, arith, eqb-true, ⊎_elim}
use Rattle.std.proofs.lemmas.Bool.{and_parts}
use Rattle.std.proofs.lemmas.Bool.Decides.{nat_tests}
use Rattle.std.specs.Bool.{then_some}
use Rattle.std.specs.Option.{option_or, option_and_then}
use Rattle.wm_base.proofs.Plain.{option_or-none, option_or_assoc}
use Rattle.wm_spec.proofs.Stretches.{Up, Steady, Off, by_test, Up-cut, Off-cut, Off-own, Steady-alike, Steady-or, Steady-period, Up-cuts}
use Rattle.wm_spec.specs.Lists.{Entry, told, told_of, is_of, has_time}
use Rattle.wm_spec.specs.Stretches.{cut_in, cuts}
use Rattle.wm_net.specs.Groups.{Group, cell}
use Rattle.wm_net.specs.Listed.{Stretch, within, value_at, joined, onto, stretches, Ordered}

-- ---- within a period

pub le_or_lt : (a b : ℕ) → (a ≤ b) ⊎ (b < a)
le_or_lt a b = by_test (nat_le a b) (λ e. inl (grind (arith, nat_tests))) (λ e. inr (grind (arith, nat_tests)))

pub within_not_before : (a b t : ℕ) → t < a → within a b t ≡ false
within_not_before a b t h = grind (arith, nat_tests)

pub within_not_after : (a b t : ℕ) → b ≤ t → within a b t ≡ false
within_not_after a b t h = grind (arith, nat_tests)

pub within_is : (a b t : ℕ) → a ≤ t → t < b → within a b t ≡ true
within_is a b t h k = grind (arith, nat_tests)

-- two periods that meet are one
within_both : (from middle till t : ℕ) → from < middle → middle < till → (within from middle t || within middle till t) ≡ within from till t
within_both from middle till t lt1 lt2 = grind (arith, nat_tests)

-- ---- the order of stretches

pub Ordered-lower : {A : Type 0} (low high : ℕ) (ss : List (Stretch A)) → low ≤ high → Ordered high ss → Ordered low ss
Ordered-lower low high [] le o = tt
Ordered-lower low high (s ∷ ss) le o = (omega (arith, le, o.0), o.1, o.2)

Ordered-joined : {A : Type 0} (same : A → A → Bool) (from till : ℕ) (x : A) (ss : List (Stretch A)) → from < till → Ordered till ss → Ordered from (joined same from till x ss)
Ordered-joined same from till x [] lt o = (omega arith, lt, tt)
Ordered-joined same from till x (s ∷ ss) lt o =
    by_test ((till == s.from) && same x s.value)
    (λ e. rw e (omega arith, omega (arith, lt, o.0, o.1), o.2))
    (λ e. rw e (omega arith, lt, (o.0, o.1, o.2)))

Ordered-onto : {A : Type 0} (same : A → A → Bool) (from till : ℕ) (o : Option A) (ss : List (Stretch A)) → from < till → Ordered till ss → Ordered from (onto same from till o ss)
Ordered-onto same from till None ss lt o = Ordered-lower from till ss (omega (arith, lt)) o
Ordered-onto same from till (Some x) ss lt o = Ordered-joined same from till x ss lt o

pub Ordered-stretches : {A : Type 0} (same : A → A → Bool) (f : ℕ → Option A) (low : ℕ) (cs : List ℕ) → Up low cs → Ordered low (stretches same f low cs)
Ordered-stretches same f low [] u = tt
Ordered-stretches same f low (a ∷ cs) u = Ordered-onto same low a (f low) (stretches same f a cs) u.0 (Ordered-stretches same f a cs u.1)

-- ---- what stretches hold

-- nothing stands before the first
pub value_before : {A : Type 0} (low : ℕ) (ss : List (Stretch A)) (t : ℕ) → Ordered low ss → t < low → value_at ss t ≡ None
value_before low [] t o h = refl
value_before low (s ∷ ss) t o h = rw (value_before s.till ss t o.2 (omega (arith, o.0, o.1, h)), within_not_before s.from s.till t (omega (arith, o.0, h))) refl

-- what the test takes for the same as the head's value is that value
abbrev pub HeadSame : {A : Type 0} → (A → A → Bool) → A → List (Stretch A) → Type 0
HeadSame same x [] = Unit {0}
HeadSame same x (s ∷ ss) = same x s.value ≡ true → x ≡ s.value

chosen-or : {A : Type 0} (a b : Bool) (x : A) → option_or (then_some b x) (then_some a x) ≡ then_some (a || b) x
chosen-or true true x = refl
chosen-or true false x = refl
chosen-or false true x = refl
chosen-or false false x = refl

-- a stretch that is made longer holds what the two held
merged : {A : Type 0} (v : Option A) (from middle till : ℕ) (x : A) (t : ℕ) → from < middle → middle < till
    → option_or v (then_some (within from till t) x) ≡ option_or (option_or v (then_some (within middle till t) x)) (then_some (within from middle t) x)
merged {A = A} v from middle till x t lt1 lt2 =
    sym (option_or_assoc v (then_some (within middle till t) x) (then_some (within from middle t) x)
    ∙ ap (λ (o : Option A). option_or v o)
    (chosen-or (within from middle t) (within middle till t) x ∙ ap (λ (b : Bool). then_some b x) (within_both from middle till t lt1 lt2)))

value_joined : {A : Type 0} (same : A → A → Bool) (from till : ℕ) (x : A) (t : ℕ) (ss : List (Stretch A)) → from < till → Ordered till ss → HeadSame same x ss
    → value_at (joined same from till x ss) t ≡ option_or (value_at ss t) (then_some (within from till t) x)
value_joined same from till x t [] lt o head = refl
value_joined same from till x t (s ∷ ss) lt o head =
    by_test ((till == s.from) && same x s.value)
    (λ e. rw e (
    let two = and_parts (till == s.from) (same x s.value) e in
    let meets : till ≡ s.from = eqb-true till s.from two.0 in
    rw (← meets, ← head two.1) (merged (value_at ss t) from till s.till x t lt (omega (arith, o.0, o.1, meets)))))
    (λ e. rw e refl)

value_onto : {A : Type 0} (same : A → A → Bool) (from till t : ℕ) (o : Option A) (ss : List (Stretch A)) → from < till → Ordered till ss → ((x : A) → o ≡ Some x → HeadSame same x ss)
    → value_at (onto same from till o ss) t ≡ option_or (value_at ss t) (option_and_then (λ x. then_some (within from till t) x) o)
value_onto same from till t None ss lt o head = sym (option_or-none (value_at ss t))
value_onto same from till t (Some x) ss lt o head = value_joined same from till x t ss lt o (head x refl)

-- the test is right for values that f gives
pub record Right {A : Type 0} (same : A → A → Bool) (f : ℕ → Option A) : Type 0 where
  pub right : (t u : ℕ) (x y : A) → f t ≡ Some x → f u ≡ Some y → same x y ≡ true → x ≡ y

-- a list holds what f gives from low on
abbrev pub Holds : {A : Type 0} → ℕ → List (Stretch A) → (ℕ → Option A) → Type 0
Holds low ss f = (t : ℕ) → low ≤ t → value_at ss t ≡ f t

pub head_given : {A : Type 0} (low : ℕ) (ss : List (Stretch A)) (f : ℕ → Option A) (same : A → A → Bool) (r : ℕ) (x : A)
    → Ordered low ss → Holds low ss f → Right same f → f r ≡ Some x → HeadSame same x ss
head_given low [] f same r x o h e g = tt
head_given low (s ∷ ss) f same r x o h e g = λ q.
    let held : value_at (s ∷ ss) s.from ≡ Some s.value = rw (value_before s.till ss s.from o.2 o.1, within_is s.from s.till s.from (omega arith) o.1) refl in
    e.right r s.from x s.value g (sym (h s.from o.0) ∙ held) q

taken : {A : Type 0} (o : Option A) → option_and_then (λ x. then_some true x) o ≡ o
taken None = refl
taken (Some x) = refl

let_go : {A : Type 0} (o : Option A) → option_and_then (λ x. then_some false x) o ≡ None
let_go None = refl
let_go (Some x) = refl

-- stretches hold what the function gives, from the lowest on
pub value_stretches : {A : Type 0} (same : A → A → Bool) (f : ℕ → Option A) (low : ℕ) (cs : List ℕ) → Up low cs → Steady f low cs → Right same f → Holds low (stretches same f low cs) f
value_stretches same f low [] u s r t le = sym (s t le)
value_stretches same f low (a ∷ cs) u s r t le =
    let held : Holds a (stretches same f a cs) f = value_stretches same f a cs u.1 s.1 r in
    let ordered : Ordered a (stretches same f a cs) = Ordered-stretches same f a cs u.1 in
    value_onto same low a t (f low) (stretches same f a cs) u.0 ordered (λ x e. head_given a (stretches same f a cs) f same low x ordered held r e)
    ∙ ⊎_elim
    (λ past. rw (within_not_after low a t past, let_go (f low), option_or-none (value_at (stretches same f a cs) t)) (held t past))
    (λ before. rw (value_before a (stretches same f a cs) t ordered before, within_is low a t le before, taken (f low)) (sym (s.0 t le before)))
    (le_or_lt a t)

-- ---- steady functions

pub Steady-none : {A : Type 0} (n : Option A) (low : ℕ) (cs : List ℕ) → n ≡ None → Steady (λ t. n) low cs
Steady-none n low [] e = λ t l. e
Steady-none n low (a ∷ cs) e = ((λ t l k. refl), Steady-none n a cs e)

-- any function of two views of a cell
pub Steady-two : {A B C : Type 0} (op : Option A → Option B → Option C) (f : ℕ → Option A) (h : ℕ → Option B) (low : ℕ) (cs : List ℕ)
    → op None None ≡ None → Steady f low cs → Steady h low cs → Steady (λ t. op (f t) (h t)) low cs
Steady-two op f h low [] n s r = λ t l. rw (s t l, r t l) n
Steady-two op f h low (a ∷ cs) n s r = ((λ t l k. rw (s.0 t l k, r.0 t l k) refl), Steady-two op f h a cs n s.1 r.1)

-- all ends of the entries of a group are cuts
abbrev pub Cut : Group → List Entry → List ℕ → Type 0
Cut g [] cs = Unit {0}
Cut g (e ∷ es) cs = (is_of g.table g.key e ≡ true → Off e.from 0 cs × Off e.till 0 cs) × Cut g es cs

-- and stay so where more is cut
Cut-cut : (g : Group) (es : List Entry) (n : ℕ) (cs : List ℕ) → Up 0 cs → Cut g es cs → Cut g es (cut_in n 0 cs)
Cut-cut g [] n cs u k = tt
Cut-cut g (e ∷ es) n cs u k = ((λ h. (Off-cut e.from n 0 cs (k.0 h).0 u, Off-cut e.till n 0 cs (k.0 h).1 u)), Cut-cut g es n cs u k.1)

pub Cut-cuts : (g : Group) (es : List Entry) → Cut g es (cuts es g.table g.key)
Cut-cuts g [] = tt
Cut-cuts g (e ∷ es) =
    let up : Up 0 (cuts es g.table g.key) = Up-cuts es g.table g.key in
    let more : Up 0 (cut_in e.till 0 (cuts es g.table g.key)) = Up-cut e.till 0 (cuts es g.table g.key) up in
    by_test (is_of g.table g.key e)
    (λ h. rw h (
      (λ _. (Off-own e.from 0 _ more, Off-cut e.till e.from 0 _ (Off-own e.till 0 _ up) more)),
      Cut-cut g es e.from _ more (Cut-cut g es e.till _ up (Cut-cuts g es)),
    ))
    (λ h. rw h ((λ i. absurd (cc)), Cut-cuts g es))

pub Cut-left : (g : Group) (xs ys : List Entry) (cs : List ℕ) → Cut g (xs ++ ys) cs → Cut g xs cs
Cut-left g [] ys cs k = tt
Cut-left g (x ∷ xs) ys cs k = (k.0, Cut-left g xs ys cs k.1)

pub Cut-right : (g : Group) (xs ys : List Entry) (cs : List ℕ) → Cut g (xs ++ ys) cs → Cut g ys cs
Cut-right g [] ys cs k = k
Cut-right g (x ∷ xs) ys cs k = Cut-right g xs ys cs k.1

-- what a list holds in a group changes at cuts alone, whatever else is cut
pub Steady-told : (g : Group) (es : List Entry) (cs : List ℕ) → Up 0 cs → Cut g es cs → Steady (λ t. told es (cell g t)) 0 cs
Steady-told g [] cs u k = Steady-none None 0 cs refl
Steady-told g (e ∷ es) cs u k =
    by_test (is_of g.table g.key e)
    (λ h. rw h (Steady-or (λ t. told es (cell g t)) (λ t. then_some (true && has_time t e) (told_of e)) 0 cs
    (Steady-told g es cs u k.1) (Steady-period (told_of e) e.from e.till 0 cs u (k.0 h).0 (k.0 h).1)))
    (λ h. rw h (Steady-alike (λ t. told es (cell g t)) (λ t. option_or (told es (cell g t)) None) 0 cs
    (λ t. sym (option_or-none (told es (cell g t)))) (Steady-told g es cs u k.1)))
