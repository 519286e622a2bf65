-- What is so where nothing was found: neither the first of the workspaces that passes a test, nor the first of the faults of a line.
use Rattle.std.proofs.Common.{◌≡◌, ℕ, Bool, true, false, nat_le, if◌then◌else◌, List, [], ◌∷◌, Option, Some, None, is_some, refl, sym, ap, ◌∙◌, arith}
use Rattle.std.proofs.lemmas.Bool.{lt-ltb}
use Rattle.std.specs.List.{find, list_any}
use Rattle.std.specs.Option.{option_and_then, option_map_or}
use Rattle.wm_base.proofs.Plain.{none_mapped}
use Rattle.wm_base.specs.declared.refusal.Refusal.{Refusal}
use Rattle.wm_model.specs.Step.{Answer, State, first_fault, first_name, first_named, first_session, refusal_of, refused_for, refused_if}
use Rattle.wm_model.specs.Step.Places.{least, place, sooner}
use Rattle.wm_model.proofs.Lawful.Spaces.{at_its_number, number_is, under}
use Rattle.wm_outline.specs.Outline.{SpaceOutline, outline, outline_in}
use Rattle.wm_outline.proofs.Least.{least_none, least_passes}
use Rattle.wm_outline.proofs.Looks.{first_at}
use Rattle.wm_state.specs.Firsts.{first_space, least_below}
use Rattle.wm_state.specs.State.{Session, Workspace, next_space, workspace_of}
use Rattle.wm_state.proofs.Mapped.{none-found}

-- ---- workspaces

-- where no workspace is the first that passes, none passes
pub none_first : (test : Workspace → Bool) (ws : List Workspace) → first_space test ws ≡ None → (n : ℕ) (x : Workspace) → workspace_of ws n ≡ Some x → test x ≡ false
none_first test ws none n x found = by_least (least_below (next_space ws) passes) refl none
  where
    passes : ℕ → Bool
    passes number = option_map_or test (workspace_of ws number) false

    lost : (o : Option Workspace) → o ≡ None → option_map_or test o false ≡ true → test x ≡ false
    lost None is e = absurd (cc)
    lost (Some w) is e = absurd (cc)

    by_least : (o : Option ℕ) → least_below (next_space ws) passes ≡ o → option_and_then (workspace_of ws) o ≡ None → test x ≡ false
    by_least None is e =
        let fails : passes n ≡ false = least_none (next_space ws) passes is n (lt-ltb n (next_space ws) (let number : x.number ≡ n = number_is ws n x found in omega (arith, number, under ws n x found))) in
        sym (ap (λ (o : Option Workspace). option_map_or test o false) found) ∙ fails
    by_least (Some m) is e = lost (workspace_of ws m) e (least_passes (next_space ws) passes m is)

-- the first that passes is there, and passes
pub first_there : (test : Workspace → Bool) (ws : List Workspace) (w : Workspace) → first_space test ws ≡ Some w → (workspace_of ws w.number ≡ Some w) × (test w ≡ true)
first_there test ws w found = by_least (least_below (next_space ws) passes) refl found
  where
    passes : ℕ → Bool
    passes number = option_map_or test (workspace_of ws number) false

    by_least : (o : Option ℕ) → least_below (next_space ws) passes ≡ o → option_and_then (workspace_of ws) o ≡ Some w → (workspace_of ws w.number ≡ Some w) × (test w ≡ true)
    by_least None is e = absurd (cc)
    by_least (Some n) is e = (at_its_number ws n w e, sym (ap (λ (o : Option Workspace). option_map_or test o false) e) ∙ least_passes (next_space ws) passes n is)

pub none_named : (test : Workspace → Bool) (s : State) → first_name test s ≡ None → (n : ℕ) (x : Workspace) → workspace_of s.durable.spaces n ≡ Some x → test x ≡ false
none_named test s none = none_first test s.durable.spaces (none_mapped (λ (c : Workspace). c.name) (first_space test s.durable.spaces) none)

-- so it is where none is told of
pub none_outlined : (test : SpaceOutline → Bool) (s : State) → first_named test (outline s) ≡ None → (n : ℕ) (x : Workspace) → workspace_of s.durable.spaces n ≡ Some x → test (outline_in x) ≡ false
none_outlined test s none =
    none_first (λ w. test (outline_in w)) s.durable.spaces
    (none_mapped outline_in _ (sym (first_at s.durable test) ∙ none_mapped (λ (x : SpaceOutline). x.fields.name) (find test (outline s).spaces) none))

-- ---- sessions

pub none_inside : (test : Session → Bool) (xs : List Session) → first_session test xs ≡ None → list_any test xs ≡ false
none_inside test xs none = none-found test xs (none_mapped (λ (x : Session). x.name) _ none)

-- ---- faults

-- none of these is a fault
abbrev pub NoFaults : List (Option Refusal) → Type 0
NoFaults [] = Unit {0}
NoFaults (fault ∷ others) = (fault ≡ None) × NoFaults others

-- so it is where there is no first one
pub no_faults : (faults : List (Option Refusal)) → first_fault faults ≡ None → NoFaults faults
no_faults [] none = tt
no_faults (None ∷ others) none = (refl, no_faults others none)
no_faults (Some refusal ∷ others) none = absurd (cc)

-- nor is one where the least is none
pub none_told : (faults : List (Option Refusal)) → least faults ≡ None → NoFaults faults
unfolding least
none_told [] none = tt
none_told (None ∷ others) none = (refl, none_told others none)
none_told (Some r ∷ others) none = by_other (least others) none
  where
    by_place : (b : Bool) (q : Refusal) → (if b then Some r else Some q) ≡ None → NoFaults (Some r ∷ others)
    by_place true q e = absurd (cc)
    by_place false q e = absurd (cc)

    by_other : (o : Option Refusal) → sooner (Some r) o ≡ None → NoFaults (Some r ∷ others)
    by_other None e = absurd (cc)
    by_other (Some q) e = by_place (nat_le (place r) (place q)) q e

-- nothing was found that is refused for
pub none_refused : {A : Type 0} (tells : A → Answer) → ((x : A) → is_some (refusal_of (tells x)) ≡ true) → (o : Option A) → refused_for tells o ≡ None → o ≡ None
none_refused tells refuses None e = refl
none_refused tells refuses (Some x) e = absurd (let refused : is_some (refusal_of (tells x)) ≡ true = refuses x in cc)

pub not_refused : (test : Bool) (answer : Answer) → is_some (refusal_of answer) ≡ true → refused_if test answer ≡ None → test ≡ false
not_refused true answer refuses e = absurd (cc)
not_refused false answer refuses e = refl
