-- What is told of what is decided on stretches of conflict.
use Rattle.std.proofs.Common.{◌≡◌, ◌<◌, ◌≤◌, ◌==◌, ℕ, ◌+◌, nat_lt, arith, true, false, List, [], ◌∷◌, ◌++◌, map, take, length, get_or, Bor, Option, None, Some, is_some, option_to_list, refl, sym, ap, ◌∙◌}
use Rattle.std.proofs.lemmas.List.{map-append, take_all, take_more}
use Rattle.std.proofs.lemmas.List.Elements.{filter_map-append}
use Rattle.std.proofs.lemmas.Bool.Decides.{nat_tests}
use Rattle.std.proofs.lemmas.Bool.{and_parts}
use Rattle.std.specs.List.{cons_option, filter_map}
use Rattle.std.specs.Option.{option_copied}
use Rattle.wm_base.proofs.Plain.{copied_some}
use Rattle.wm_graph.specs.Parts.{parts_of, space_of}
use Rattle.wm_rebased.proofs.RebasingFields.{parent_recorded}
use Rattle.wm_spec.specs.declared.record.space.Space.{Space}
use Rattle.wm_spec.specs.declared.record.stored.Stored.{Stored}
use Rattle.wm_state.specs.State.{Session}
use Rattle.wm_model.specs.Merged.{NamesFamily}
use Rattle.wm_model.specs.Step.{has_open}
use Rattle.wm_model.specs.Undone.{NamesSpace}
use Rattle.wm_model.proofs.Recorded.{named_numbered}

-- ---- all of them

filter_map_last : {A B : Type 0} (f : A → Option B) (xs : List A) (x : A) → filter_map f (xs ++ x ∷ []) ≡ filter_map f xs ++ option_to_list (f x)
filter_map_last f xs x = filter_map-append f xs (x ∷ []) ∙ ap (λ ys. filter_map f xs ++ ys) (one (f x))
  where
    one : {B : Type 0} (o : Option B) → cons_option o [] ≡ option_to_list o
    one None = refl
    one (Some y) = refl

pub decided_more : {A B C : Type 0} (f : B → Option C) (pair : A → B) (xs : List A) (i : ℕ) (x : A) (old new : List C) → i < length xs → x ≡ get_or xs i x → new ≡ old ++ option_to_list (f (pair x))
    → old ≡ filter_map f (map pair (take i xs)) → new ≡ filter_map f (map pair (take (i + 1) xs))
decided_more {A} {B} {C} f pair xs i x old new within is more were =
    more
    ∙ (λ j. were j ++ option_to_list (f (pair x)))
    ∙ sym (filter_map_last f (map pair (take i xs)) (pair x))
    ∙ ap (filter_map f) (sym (map-append pair (take i xs) (x ∷ [])))
    ∙ ap (λ (ys : List A). filter_map f (map pair ys)) (ap (λ y. take i xs ++ y ∷ []) is ∙ sym (take_more xs i x within))

pub decided_all : {A B C : Type 0} (f : B → Option C) (pair : A → B) (xs : List A) (i : ℕ) (ds : List C) → length xs ≤ i → ds ≡ filter_map f (map pair (take i xs)) → ds ≡ filter_map f (map pair xs)
decided_all {A} f pair xs i ds past were = were ∙ ap (λ (ys : List A). filter_map f (map pair ys)) (take_all i xs past)

-- ---- whether there are any

pub some_of : {A : Type 0} (xs : List A) → (length xs == 0) ≡ false → xs ≡ [] → ⊥
some_of [] some none = cc
some_of (x ∷ xs) some none = cc

-- ---- the workspace and its parent

pub not_live : (n : ℕ) (session : Session) → has_open n session ≡ true → 0 < n
not_live n session has = let some = (and_parts (nat_lt 0 n) _ has).0 in grind (arith, nat_tests, some)

pub parent_found : (rs : List Stored) (workspace : List ℕ) (a : Space) (session : Session) (r : Option (Bor Space)) → NamesSpace rs workspace a → has_open a.number session ≡ true → option_copied r ≡ space_of (parts_of rs).spaces a.parent → is_some r ≡ true
parent_found rs workspace a session r names has found =
    copied_some r (space_of (parts_of rs).spaces a.parent) found (parent_recorded (parts_of rs) names.rules a.number a (not_live a.number session has) (named_numbered rs workspace a names))

pub family_named : (rs : List Stored) (workspace : List ℕ) (a : Space) (session : Session) (r : Option (Bor Space)) (b : Space) → NamesSpace rs workspace a → has_open a.number session ≡ true
    → option_copied r ≡ space_of (parts_of rs).spaces a.parent → option_copied r ≡ Some b → NamesFamily rs workspace a b
family_named rs workspace a session r b names has found is = record { space = names; child = not_live a.number session has; parent = sym found ∙ is }
