-- What each entry of a list has of its table, key and row, each of its net list has, and of what is gained of it.
use Rattle.std.proofs.Common.{◌≡◌, ℕ, ◌==◌, ◌&&◌, Bool, true, false, if◌then◌else◌, List, [], ◌∷◌, ◌++◌, map, Option, Some, None, refl, ap, ◌∙◌, subst}
use Rattle.std.proofs.lemmas.Bool.{eqb-true, and_parts}
use Rattle.std.proofs.lemmas.List.Elements.{All-append, All-from_recursion, All-head, All-map, All-nil, All-tail}
use Rattle.std.proofs.lemmas.Option.{same_Some}
use Rattle.std.specs.Bool.{then_some}
use Rattle.std.specs.List.{All, AllByRecursion}
use Rattle.std.specs.Option.{option_or}
use Rattle.std.specs.Ordering.{is_eq}
use Rattle.wm_base.specs.Key.{key_order}
use Rattle.wm_base.specs.declared.row.Row.{Row}
use Rattle.wm_base.specs.declared.value.Value.{Value}
use Rattle.wm_net.specs.Groups.{Group, cell, groups}
use Rattle.wm_net.specs.Listed.{Stretch, joined, listed, onto, stretches, stretches_of}
use Rattle.wm_net.specs.Nets.{gained, gained_at, net, one_stamp, replayed}
use Rattle.wm_net.proofs.Netting.{outside_given}
use Rattle.wm_spec.specs.Lists.{Cell, Entry, Told, covers, has_time, is_of, told, told_of}
use Rattle.wm_spec.specs.Stretches.{cuts}
use Rattle.wm_state.proofs.Laying.{key_same}

-- ---- what a stretch holds is given somewhere

joined_given : {A : Type 0} (same : A → A → Bool) (Q : A → Type 0) (from till : ℕ) (x : A) (ss : List (Stretch A)) → Q x → AllByRecursion (λ (s : Stretch A). Q s.value) ss
    → AllByRecursion (λ (s : Stretch A). Q s.value) (joined same from till x ss)
joined_given same Q from till x [] has all = (has, tt)
joined_given {A = A} same Q from till x (s ∷ ss) has all = by_test ((till == s.from) && same x s.value)
  where
    by_test : (b : Bool) → AllByRecursion (λ (s : Stretch A). Q s.value) (if b then record { from = from; till = s.till; value = x } ∷ ss else record { from = from; till = till; value = x } ∷ s ∷ ss)
    by_test true = (has, all.1)
    by_test false = (has, all)

onto_given : {A : Type 0} (same : A → A → Bool) (Q : A → Type 0) (from till : ℕ) (o : Option A) (ss : List (Stretch A)) → ((x : A) → o ≡ Some x → Q x)
    → AllByRecursion (λ (s : Stretch A). Q s.value) ss → AllByRecursion (λ (s : Stretch A). Q s.value) (onto same from till o ss)
onto_given same Q from till None ss has all = all
onto_given same Q from till (Some x) ss has all = joined_given same Q from till x ss (has x refl) all

stretches_given : {A : Type 0} (same : A → A → Bool) (f : ℕ → Option A) (Q : A → Type 0) → ((t : ℕ) (x : A) → f t ≡ Some x → Q x) → (low : ℕ) (cs : List ℕ)
    → AllByRecursion (λ (s : Stretch A). Q s.value) (stretches same f low cs)
stretches_given same f Q has low [] = tt
stretches_given same f Q has low (a ∷ cs) = onto_given same Q low a (f low) (stretches same f a cs) (has low) (stretches_given same f Q has a cs)

listed_given : {A B : Type 0} (entry : Group → Stretch A → B) (F : Group → List (Stretch A)) (P : B → Type 0) → ((g : Group) → AllByRecursion (λ (s : Stretch A). P (entry g s)) (F g))
    → (gs : List Group) → All P (listed entry F gs)
listed_given entry F P each [] = All-nil P
listed_given entry F P each (g ∷ gs) =
    All-append P (map (entry g) (F g)) (listed entry F gs) (All-map P (entry g) (F g) (All-from_recursion (λ s. P (entry g s)) (F g) (each g))) (listed_given entry F P each gs)

-- ---- a property of the table, the key and the row of an entry

abbrev pub EntryHas : (ℕ → List Value → Option Row → Type 0) → Entry → Type 0
EntryHas P e = P e.table e.key e.row

module _ (P : ℕ → List Value → Option Row → Type 0) where
  -- what is told at a cell is what an entry says that covers it
  told_has : (es : List Entry) (c : Cell) (t : Told) → All (EntryHas P) es → told es c ≡ Some t → P c.table c.key t.row
  told_has [] c t all e = absurd (cc)
  told_has (x ∷ xs) c t all e = by_told (told xs c) (covers x c) refl (told_has xs c t (All-tail (EntryHas P) x xs all)) refl e
    where
      own : covers x c ≡ true → told_of x ≡ t → P c.table c.key t.row
      own is same =
          let at = and_parts (x.table == c.table) (is_eq (key_order x.key c.key)) (and_parts (is_of c.table c.key x) (has_time c.time x) is).0 in
          subst (λ (r : Option Row). P c.table c.key r) (ap (λ (s : Told). s.row) same)
          (subst (λ (k : List Value). P c.table k x.row) (key_same x.key c.key at.1) (subst (λ (n : ℕ). P n x.key x.row) (eqb-true x.table c.table at.0) (All-head (EntryHas P) x xs all)))

      by_told : (o : Option Told) (b : Bool) → told xs c ≡ o → (told xs c ≡ Some t → P c.table c.key t.row) → covers x c ≡ b → option_or o (then_some b (told_of x)) ≡ Some t → P c.table c.key t.row
      by_told (Some s) b at rest is h = rest (at ∙ h)
      by_told None true at rest is h = own is (same_Some (told_of x) t h)
      by_told None false at rest is h = absurd (cc)

  listing_has : (moment : ℕ) (user : List ℕ) (es : List Entry) (f : Cell → Option Told) → ((c : Cell) (t : Told) → f c ≡ Some t → P c.table c.key t.row)
      → All (EntryHas P) (listed (replayed moment user) (stretches_of one_stamp es f) (groups es))
  listing_has moment user es f has =
      listed_given (replayed moment user) (stretches_of one_stamp es f) (EntryHas P)
      (λ g. stretches_given one_stamp (λ t. f (cell g t)) (λ (x : Told). P g.table g.key x.row) (λ t x e. has (cell g t) x e) 0 (cuts es g.table g.key))
      (groups es)

  -- each entry of a net list has what each of its list has
  pub net_all : (moment : ℕ) (user : List ℕ) (es : List Entry) → All (EntryHas P) es → All (EntryHas P) (net moment user es)
  net_all moment user es all = listing_has moment user es (told es) (λ c t e. told_has es c t all e)

  -- and each of what is gained what each of what is pending has
  pub gained_all : (moment : ℕ) (user : List ℕ) (own pending : List Entry) → All (EntryHas P) pending → All (EntryHas P) (gained moment user own pending)
  gained_all moment user own pending all =
      listing_has moment user (own ++ pending) (gained_at own pending) (λ c t e. told_has pending c t all (outside_given (told own c) (told pending c) t e))
