-- Net lists and what is gained are sound where the lists are of which they are made.
use Rattle.std.proofs.Common.{◌≡◌, ℕ, zero, suc, ◌<◌, ◌==◌, ◌&&◌, Bool, true, false, if◌then◌else◌, List, [], ◌∷◌, ◌++◌, drop, map, Option, Some, None, refl, sym, ap, ◌∙◌, subst}
use Rattle.std.proofs.lemmas.Bool.{and_parts}
use Rattle.std.proofs.lemmas.Option.{same_Some}
use Rattle.std.specs.Bool.{then_some}
use Rattle.std.specs.List.{list_all}
use Rattle.std.specs.Option.{option_map_or, option_or}
use Rattle.wm_base.specs.declared.value.Value.{Value}
use Rattle.wm_making.specs.Rows.{is_filled}
use Rattle.wm_net.specs.Groups.{Group, cell, groups}
use Rattle.wm_net.specs.Listed.{Stretch, joined, listed, listing, onto, stretches, stretches_of}
use Rattle.wm_net.specs.Nets.{Stamped, gained, gained_at, net, one_stamp, replayed}
use Rattle.wm_net.proofs.Netting.{outside_given}
use Rattle.wm_spec.specs.Lists.{Cell, Entry, Told, covers, is_of, told, told_of}
use Rattle.wm_spec.specs.Stretches.{cuts}
use Rattle.wm_state.proofs.Laying.{key_same}
use Rattle.wm_model.specs.Lawful.{Each, IsSound, is_full_row}
use Rattle.wm_model.proofs.Lawful.Entries.{each_append}

-- ---- what is listed

-- so it is with what each stretch holds
abbrev pub Valued : {A : Type 0} → (A → Type 0) → List (Stretch A) → Type 0
Valued Q [] = Unit {0}
Valued Q (s ∷ ss) = Q s.value × Valued Q ss

valued_joined : {A : Type 0} (Q : A → Type 0) (same : A → A → Bool) (from till : ℕ) (x : A) (ss : List (Stretch A)) → Q x → Valued Q ss → Valued Q (joined same from till x ss)
valued_joined Q same from till x [] one all = (one, tt)
valued_joined {A = A} Q same from till x (s ∷ ss) one all = by_test ((till == s.from) && same x s.value)
  where
    by_test : (b : Bool) → Valued Q (if b then record { from = from; till = s.till; value = x } ∷ ss else record { from = from; till = till; value = x } ∷ s ∷ ss)
    by_test true = (one, all.1)
    by_test false = (one, all)

valued_onto : {A : Type 0} (Q : A → Type 0) (same : A → A → Bool) (from till : ℕ) (o : Option A) (ss : List (Stretch A)) → ((x : A) → o ≡ Some x → Q x) → Valued Q ss → Valued Q (onto same from till o ss)
valued_onto Q same from till None ss one all = all
valued_onto Q same from till (Some x) ss one all = valued_joined Q same from till x ss (one x refl) all

-- what a function of the moment gives is listed
pub valued_stretches : {A : Type 0} (Q : A → Type 0) (same : A → A → Bool) (f : ℕ → Option A) (low : ℕ) (ends : List ℕ) → ((t : ℕ) (x : A) → f t ≡ Some x → Q x) → Valued Q (stretches same f low ends)
valued_stretches Q same f low [] each = tt
valued_stretches Q same f low (end ∷ ends) each = valued_onto Q same low end (f low) (stretches same f end ends) (each low) (valued_stretches Q same f end ends each)

pub each_mapped : {A : Type 0} (P : Entry → Type 0) (Q : A → Type 0) (entry : Stretch A → Entry) (ss : List (Stretch A)) → ((s : Stretch A) → Q s.value → P (entry s)) → Valued Q ss → Each P (map entry ss)
each_mapped P Q entry [] to all = tt
each_mapped P Q entry (s ∷ ss) to all = (to s all.0, each_mapped P Q entry ss to all.1)

-- what a function gives at a cell of a group
abbrev GivenIn : {A : Type 0} → (Cell → Option A) → Group → A → Type 0
GivenIn f g x = (t : ℕ) × (f (cell g t) ≡ Some x)

each_listed : {A : Type 0} (P : Entry → Type 0) (same : A → A → Bool) (entry : Group → Stretch A → Entry) (es : List Entry) (f : Cell → Option A) (gs : List Group)
    → ((g : Group) (t : ℕ) (s : Stretch A) → f (cell g t) ≡ Some s.value → P (entry g s)) → Each P (listed entry (stretches_of same es f) gs)
each_listed P same entry es f [] to = tt
each_listed P same entry es f (g ∷ gs) to =
    each_append P (map (entry g) (stretches_of same es f g)) (listed entry (stretches_of same es f) gs)
    (each_mapped P (GivenIn f g) (entry g) (stretches_of same es f g) (λ s given. to g given.0 s given.1)
    (valued_stretches (GivenIn f g) same (λ t. f (cell g t)) 0 (cuts es g.table g.key) (λ t x is. (t, is))))
    (each_listed P same entry es f gs to)

-- each entry of a list of what a function of the cell gives is of a cell at which it does
pub each_listing : {A : Type 0} (P : Entry → Type 0) (same : A → A → Bool) (entry : Group → Stretch A → Entry) (es : List Entry) (f : Cell → Option A)
    → ((g : Group) (t : ℕ) (s : Stretch A) → f (cell g t) ≡ Some s.value → P (entry g s)) → Each P (listing same entry es f)
each_listing P same entry es f to = each_listed P same entry es f (groups es) to

-- ---- sound lists

-- what a sound entry of a key tells
abbrev pub Tells : (ℕ → Told) → ℕ → List Value → Told → Type 0
Tells tells next key t = (t.stamp < next) × (t ≡ tells t.stamp) × (option_map_or is_full_row t.row true ≡ true) × (list_all is_filled key ≡ true)

pub told_tells : (tells : ℕ → Told) (next : ℕ) (es : List Entry) (c : Cell) (x : Told) → Each (IsSound tells next) es → told es c ≡ Some x → Tells tells next c.key x
told_tells tells next [] c x each found = absurd (cc)
told_tells tells next (e ∷ es) c x each found = by_told (told es c) (covers e c) refl (told_tells tells next es c x each.1) found
  where
    keyed : covers e c ≡ true → list_all is_filled c.key ≡ true
    keyed is = ap (list_all is_filled) (sym (key_same e.key c.key (and_parts (e.table == c.table) _ (and_parts (is_of c.table c.key e) _ is).0).1)) ∙ each.0.keyed

    by_told : (o : Option Told) (b : Bool) → covers e c ≡ b → (o ≡ Some x → Tells tells next c.key x) → option_or o (then_some b (told_of e)) ≡ Some x → Tells tells next c.key x
    by_told (Some y) b here rest is = rest is
    by_told None true here rest is = subst (Tells tells next c.key) (same_Some (told_of e) x is) (each.0.given, each.0.told, each.0.filled, keyed here)
    by_told None false here rest is = absurd (cc)

-- what is told of a key, written again
pub again_sound : (tells : ℕ → Told) (next moment : ℕ) (user : List ℕ) (g : Group) (s : Stretch Told) → Tells tells next g.key s.value → IsSound tells next (replayed moment user g s)
again_sound tells next moment user g s t = record { given = t.0; told = t.1; filled = t.2; keyed = t.3 }

pub net_sound : (tells : ℕ → Told) (next moment : ℕ) (user : List ℕ) (es : List Entry) → Each (IsSound tells next) es → Each (IsSound tells next) (net moment user es)
net_sound tells next moment user es each =
    each_listing (IsSound tells next) one_stamp (replayed moment user) es (told es) (λ g t s is. again_sound tells next moment user g s (told_tells tells next es (cell g t) s.value each is))

pub gained_sound : (tells : ℕ → Told) (next moment : ℕ) (user : List ℕ) (own pending : List Entry) → Each (IsSound tells next) pending → Each (IsSound tells next) (gained moment user own pending)
gained_sound tells next moment user own pending each =
    each_listing (IsSound tells next) one_stamp (replayed moment user) (own ++ pending) (gained_at own pending)
    (λ g t s is. again_sound tells next moment user g s (told_tells tells next pending (cell g t) s.value each (outside_given (told own (cell g t)) (told pending (cell g t)) s.value is)))

pub each_drop : (P : Entry → Type 0) (n : ℕ) (xs : List Entry) → Each P xs → Each P (drop n xs)
each_drop P zero xs each = each
each_drop P (suc n) [] each = tt
each_drop P (suc n) (x ∷ xs) each = each_drop P n xs each.1

-- in a sound list one stamp tells one thing
pub sound_stamped : (tells : ℕ → Told) (next : ℕ) (es : List Entry) → Each (IsSound tells next) es → Stamped tells es
sound_stamped tells next [] each = tt
sound_stamped tells next (e ∷ es) each = (each.0.told, sound_stamped tells next es each.1)
