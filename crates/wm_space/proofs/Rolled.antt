-- What comes of RollbackToSP, by what was found.
use Rattle.std.proofs.Common.{◌≡◌, ℕ, Bool, if◌then◌else◌, List, [], ◌∷◌, Option, Some, None, refl, sym, ap, ◌∙◌}
use Rattle.std.specs.Option.{option_or}
use Rattle.std.specs.Str.{bytes_eq}
use Rattle.wm_base.specs.declared.refusal.Refusal.{Refusal}
use Rattle.wm_calls.specs.Arguments.{text_given}
use Rattle.wm_calls.specs.Faults.{argument_fault}
use Rattle.wm_grammar.specs.declared.procedure.Parameter.TheVariants as parameters
use Rattle.wm_grammar.specs.declared.procedure.Procedure.TheVariants as procedures
use Rattle.wm_ground.specs.Outcomes.{outcome_view}
use Rattle.wm_model.specs.Planning.{Stay}
use Rattle.wm_model.specs.Step.{Outcome, first_fault, for_named, for_savepoint, is_still, mistyped, no_savepoint, no_workspace, outcome, refused_for, refused_if, refused_or, refused_with, reserved_name, rollback_plan, rolling, rolling_faults, savepoint_called, spent, workspace_given}
use Rattle.wm_model.specs.Step.Naming.{latest}
use Rattle.wm_model.specs.Step.Places.{least}
use Rattle.wm_outcome.proofs.Named.{told_first}
use Rattle.wm_outcome.proofs.Rolling.{rollback_is, rolled, rolling_order}
use Rattle.wm_outline.specs.Outline.{Outline, SpaceOutline}
use Rattle.wm_plan.specs.Views.{answer_view, seating_view}
use Rattle.wm_plan.specs.declared.planned.Planned.{Planned}
use Rattle.wm_plan.specs.declared.seating.Seating.TheVariants as seatings
use Rattle.wm_print.specs.Texts.{Answer, Fine}
use Rattle.wm_state.specs.Standing.{SavepointFields}
use Rattle.wm_state.specs.declared.edit.Edit.TheVariants as edits
use Rattle.wm_syntax.specs.declared.statement.Arg.{Arg}

-- ---- to a savepoint that is there

module _ (o : Outline) (x : SpaceOutline) (k : SavepointFields) where
  -- the last fault, by whether nothing came behind the savepoint
  abbrev last : Bool → Option Refusal
  last b = if b then None else spent o

  abbrev made : Bool → Outcome
  made b = record { edits = if b then [] else edits.Restore x.number k.making ∷ []; seating = Stay; answer = Fine }

  -- a fault before the last one
  pub told_early : (fault : Option Refusal) (r : Refusal) (q : Outcome) → fault ≡ Some r → option_or fault (last (is_still o x k)) ≡ first_fault (rolling_faults o x k) → q ≡ refused_with r → q ≡ outcome (rolling o x k)
  told_early fault r q is first says = told_first (rolling o x k) (Some r) q (rolling_order o x k) (ap (λ (f : Option Refusal). option_or f (last (is_still o x k))) (sym is) ∙ first) says

  -- none before it
  pub told_late : (fault late : Option Refusal) (b : Bool) (q : Outcome) → fault ≡ None → option_or fault (last (is_still o x k)) ≡ first_fault (rolling_faults o x k) → b ≡ is_still o x k → late ≡ last b → q ≡ refused_or late (made b)
      → q ≡ outcome (rolling o x k)
  told_late fault late b q none first still is says =
      told_first (rolling o x k) late q (rolling_order o x k) (is ∙ ap last still ∙ ap (λ (f : Option Refusal). option_or f (last (is_still o x k))) (sym none) ∙ first)
      (says ∙ ap (λ (c : Bool). refused_or late (made c)) still)

-- the workspace has no savepoint of the name
pub told_unsaved : (workspace name : List ℕ) (o : Outline) (found : Option SpaceOutline) (x : SpaceOutline) (q : Outcome) → found ≡ Some x → savepoint_called name x ≡ None → q ≡ record { edits = []; seating = Stay; answer = no_savepoint name }
    → q ≡ outcome (for_named (no_workspace workspace) (λ y. for_savepoint (no_savepoint name) (rolling o y) (savepoint_called name y)) found)
unfolding least
told_unsaved workspace name o found x q is none says = says ∙ rw (is, none) refl

-- ---- by what is given

pub told_lacking : (p : Planned) (answer : Answer) → p.edits.items ≡ [] → p.seating ≡ seatings.Stay → answer_view p.answer ≡ answer → let q : Outcome = record { edits = []; seating = Stay; answer = answer } in outcome_view p ≡ q
told_lacking p answer edits seats says = λ i. record { edits = edits i; seating = seating_view (seats i); answer = says i }

pub rollback_told : (args : List Arg) (o : Outline) (name : List ℕ) (newest : Bool) (fault : Option (List ℕ)) (q : Outcome) → text_given procedures.RollbackToSp args parameters.SavepointName ≡ Some name → newest ≡ bytes_eq name latest
    → fault ≡ argument_fault procedures.RollbackToSp args
    → q ≡ refused_or (first_fault (refused_if newest (reserved_name name) ∷ refused_for mistyped fault ∷ [])) (outcome (rolled (workspace_given procedures.RollbackToSp args) name o)) → q ≡ outcome (rollback_plan args o)
rollback_told args o name newest fault q some late is says =
    let rest : Outcome = outcome (rolled (workspace_given procedures.RollbackToSp args) name o) in
    says
    ∙ ap (λ (b : Bool). refused_or (first_fault (refused_if b (reserved_name name) ∷ refused_for mistyped fault ∷ [])) rest) late
    ∙ ap (λ (f : Option (List ℕ)). refused_or (first_fault (refused_if (bytes_eq name latest) (reserved_name name) ∷ refused_for mistyped f ∷ [])) rest) is
    ∙ sym (rollback_is args o name some)
