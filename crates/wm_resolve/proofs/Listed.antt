-- Each stretch of a listing is over what the function gives, and there is one where it gives something.
use Rattle.std.proofs.Common.{◌≡◌, ◌⊎◌, inl, inr, ℕ, ◌+◌, ◌-◌, ◌<◌, ◌≤◌, ◌==◌, is_some, ◌&&◌, ◌||◌, Bool, true, false, if◌then◌else◌, List, [], ◌∷◌, ◌++◌, map, Option, None, Some, refl, sym, ap, ◌∙◌, arith, eqb-true, subst}
use Rattle.std.proofs.lemmas.List.Elements.{All-append, All-from_recursion, All-map, All-nil}
use Rattle.std.proofs.lemmas.Bool.{and_parts}
use Rattle.std.specs.List.{All, AllByRecursion}
use Rattle.wm_net.specs.Groups.{Group, cell, groups, has_group, same_group}
use Rattle.wm_net.specs.Listed.{Stretch, joined, listed, listing, onto, stretches, stretches_of}
use Rattle.wm_net.proofs.Grouping.{cuts_none, same_group-is}
use Rattle.wm_net.proofs.Stretching.{le_or_lt}
use Rattle.wm_spec.proofs.Stretches.{Steady, Up, Up-cuts}
use Rattle.wm_spec.specs.Lists.{Cell, Entry}
use Rattle.wm_spec.specs.Stretches.{cuts}

-- ---- what each is of

-- a stretch whose value a function gives at a moment, and which ends behind a moment at which it gives something
pub record IsGiven {A : Type 0} (f : ℕ → Option A) (s : Stretch A) : Type 0 where
  pub time : ℕ
  pub is : f time ≡ Some s.value
  pub real : s.from < s.till
  pub last : ℕ
  pub given : is_some (f last) ≡ true
  pub till : last + 1 ≡ s.till

given_joined : {A : Type 0} (same : A → A → Bool) (f : ℕ → Option A) (low cut : ℕ) (x : A) (ss : List (Stretch A)) → f low ≡ Some x → low < cut → ((t : ℕ) → low ≤ t → t < cut → f t ≡ f low) → AllByRecursion (IsGiven f) ss
    → AllByRecursion (IsGiven f) (joined same low cut x ss)
given_joined {A = A} same f low cut x ss is up steady each = by_rest ss each
  where
    alone : IsGiven f (record { from = low; till = cut; value = x })
    alone = record {
      time = low;
      is = is;
      real = up;
      last = cut - 1;
      given = ap is_some (steady (cut - 1) (omega (arith, up)) (omega (arith, up)) ∙ is);
      till = omega (arith, up);
    }

    by_test : (s : Stretch A) (ss : List (Stretch A)) → IsGiven f s → AllByRecursion (IsGiven f) ss → (b : Bool) → ((cut == s.from) && same x s.value) ≡ b
        → AllByRecursion (IsGiven f) (if b then record { from = low; till = s.till; value = x } ∷ ss else record { from = low; till = cut; value = x } ∷ s ∷ ss)
    by_test s ss first rest true meets =
        let meet : cut ≡ s.from = eqb-true cut s.from (and_parts (cut == s.from) (same x s.value) meets).0 in
        (record { time = low; is = is; real = omega (arith, up, meet, first.real); last = first.last; given = first.given; till = first.till }, rest)
    by_test s ss first rest false meets = (alone, (first, rest))

    by_rest : (ss : List (Stretch A)) → AllByRecursion (IsGiven f) ss → AllByRecursion (IsGiven f) (joined same low cut x ss)
    by_rest [] each = (alone, tt)
    by_rest (s ∷ ss) each = by_test s ss each.0 each.1 ((cut == s.from) && same x s.value) refl

pub given_stretches : {A : Type 0} (same : A → A → Bool) (f : ℕ → Option A) (low : ℕ) (cs : List ℕ) → Up low cs → Steady f low cs → AllByRecursion (IsGiven f) (stretches same f low cs)
given_stretches same f low [] up steady = tt
given_stretches {A = A} same f low (cut ∷ cs) up steady = by_value (f low) refl (given_stretches same f cut cs up.1 steady.1)
  where
    by_value : (o : Option A) → f low ≡ o → AllByRecursion (IsGiven f) (stretches same f cut cs) → AllByRecursion (IsGiven f) (onto same low cut o (stretches same f cut cs))
    by_value None is each = each
    by_value (Some x) is each = given_joined same f low cut x (stretches same f cut cs) is up.0 steady.0 each

mapped_each : {A : Type 0} (Q : A → Type 0) (P : A → Type 0) (xs : List A) → ((x : A) → Q x → P x) → AllByRecursion Q xs → AllByRecursion P xs
mapped_each Q P [] to all = tt
mapped_each Q P (x ∷ xs) to all = (to x all.0, mapped_each Q P xs to all.1)

-- what is so of each stretch over something that is given is so of all that are listed
pub listing_each : {A B : Type 0} (same : A → A → Bool) (entry : Group → Stretch A → B) (es : List Entry) (f : Cell → Option A) (P : B → Type 0) → ((g : Group) → Steady (λ t. f (cell g t)) 0 (cuts es g.table g.key))
    → ((g : Group) (s : Stretch A) → IsGiven (λ t. f (cell g t)) s → P (entry g s)) → All P (listing same entry es f)
listing_each {A = A} {B = B} same entry es f P steady make = over (groups es)
  where
    over : (gs : List Group) → All P (listed entry (stretches_of same es f) gs)
    over [] = All-nil P
    over (g ∷ gs) =
        All-append P (map (entry g) (stretches_of same es f g)) (listed entry (stretches_of same es f) gs)
        (All-map P (entry g) (stretches_of same es f g)
        (All-from_recursion (λ s. P (entry g s)) (stretches_of same es f g)
        (mapped_each (IsGiven (λ t. f (cell g t))) (λ s. P (entry g s)) (stretches_of same es f g) (make g)
        (given_stretches same (λ t. f (cell g t)) 0 (cuts es g.table g.key) (Up-cuts es g.table g.key) (steady g)))))
        (over gs)

-- ---- something is listed where something is given

joined_some : {A : Type 0} (same : A → A → Bool) (from till : ℕ) (x : A) (ss : List (Stretch A)) → joined same from till x ss ≡ [] → ⊥
joined_some same from till x [] e = cc
joined_some {A = A} same from till x (s ∷ ss) e = by_test ((till == s.from) && same x s.value) e
  where
    by_test : (b : Bool) → (if b then record { from = from; till = s.till; value = x } ∷ ss else record { from = from; till = till; value = x } ∷ s ∷ ss) ≡ (let none : List (Stretch A) = [] in none) → ⊥
    by_test true e = cc
    by_test false e = cc

none_given : {A : Type 0} (same : A → A → Bool) (f : ℕ → Option A) (low : ℕ) (cs : List ℕ) → Steady f low cs → stretches same f low cs ≡ [] → (t : ℕ) → low ≤ t → f t ≡ None
none_given same f low [] steady none t le = steady t le
none_given {A = A} same f low (cut ∷ cs) steady none t le = by_value (f low) refl none (λ empty past. none_given same f cut cs steady.1 empty t past)
  where
    by_value : (o : Option A) → f low ≡ o → onto same low cut o (stretches same f cut cs) ≡ [] → (stretches same f cut cs ≡ [] → cut ≤ t → f t ≡ None) → f t ≡ None
    by_value (Some x) is empty later = absurd (joined_some same low cut x (stretches same f cut cs) empty)
    by_value None is empty later = by_place (le_or_lt cut t)
      where
        by_place : (cut ≤ t) ⊎ (t < cut) → f t ≡ None
        by_place (inl past) = later empty past
        by_place (inr before) = steady.0 t le before ∙ is

listed_none : {A B : Type 0} (entry : Group → Stretch A → B) (F : Group → List (Stretch A)) (gs : List Group) → listed entry F gs ≡ [] → (g : Group) → has_group g gs ≡ true → F g ≡ []
listed_none entry F [] none g has = absurd (cc)
listed_none {A = A} {B = B} entry F (h ∷ hs) none g has = by_test (same_group h g) refl has (front (F h) none) (λ empty among. listed_none entry F hs empty g among)
  where
    front : (ss : List (Stretch A)) → map (entry h) ss ++ listed entry F hs ≡ [] → (ss ≡ []) × (listed entry F hs ≡ [])
    front [] e = (refl, e)
    front (s ∷ ss) e = absurd (cc)

    by_test : (b : Bool) → same_group h g ≡ b → (b || has_group g hs) ≡ true → (F h ≡ []) × (listed entry F hs ≡ []) → (listed entry F hs ≡ [] → has_group g hs ≡ true → F g ≡ []) → F g ≡ []
    by_test true is has two rest = ap F (sym (same_group-is h g is)) ∙ two.0
    by_test false is has two rest = rest two.1 has

pub nothing_given : {A B : Type 0} (same : A → A → Bool) (entry : Group → Stretch A → B) (es : List Entry) (f : Cell → Option A) → ((g : Group) → Steady (λ t. f (cell g t)) 0 (cuts es g.table g.key))
    → listing same entry es f ≡ [] → (g : Group) (t : ℕ) → f (cell g t) ≡ None
nothing_given same entry es f steady none g t = by_group (has_group g (groups es)) refl
  where
    by_group : (b : Bool) → has_group g (groups es) ≡ b → f (cell g t) ≡ None
    by_group true has = none_given same (λ u. f (cell g u)) 0 (cuts es g.table g.key) (steady g) (listed_none entry (stretches_of same es f) (groups es) none g has) t (omega arith)
    by_group false out = subst (Steady (λ u. f (cell g u)) 0) (cuts_none es g out) (steady g) t (omega arith)
