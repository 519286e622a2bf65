-- What comes of plans that are refused at once, that have one fault, or that set something of a session; and of a call, by its arguments.
use Rattle.std.proofs.Common.{◌≡◌, ℕ, true, List, [], ◌∷◌, Option, Some, None, refl, sym, ap, ◌∙◌}
use Rattle.wm_base.specs.declared.refusal.Refusal.{Refusal}
use Rattle.wm_calls.specs.Faults.{argument_fault}
use Rattle.wm_grammar.specs.declared.procedure.Procedure.{Procedure}
use Rattle.wm_model.specs.Planning.{Set, Stay, is_idle}
use Rattle.wm_model.specs.Step.Places.{least}
use Rattle.wm_model.specs.Step.{Outcome, Plan, Setting, also, done_so, first_fault, misfit, mistyped, outcome, refused_for, refused_or, refused_with, refusing, setting}
use Rattle.wm_outcome.proofs.Faults.{at_for}
use Rattle.wm_outcome.proofs.Ordered.{From, also_is, passed}
use Rattle.wm_print.specs.Texts.{Fine, Refused}
use Rattle.wm_state.specs.State.{Session}
use Rattle.wm_syntax.specs.declared.statement.Arg.{Arg}

-- ---- one fault, or none

least_one : (f : Option Refusal) → least (f ∷ []) ≡ f
unfolding least
least_one None = refl
least_one (Some r) = refl

pub told_one : (p : Plan) (f g : Option Refusal) (q : Outcome) → p.faults ≡ g ∷ [] → f ≡ g → q ≡ refused_or f (done_so p) → q ≡ outcome p
told_one p f g q alone is says = says ∙ ap (λ h. refused_or h (done_so p)) (is ∙ sym (ap least alone ∙ least_one g))

pub told_none : (p : Plan) (q : Outcome) → p.faults ≡ [] → q ≡ done_so p → q ≡ outcome p
unfolding least
told_none p q none says = says ∙ ap (λ fs. refused_or (least fs) (done_so p)) (sym none)

pub told_at_once : (r : Refusal) (q : Outcome) → q ≡ refused_with r → q ≡ outcome (refusing (Refused r))
told_at_once r q says = told_one (refusing (Refused r)) (Some r) (Some r) q refl refl says

pub told_set : (session : Session) (what : Setting) (q : Outcome) → q ≡ record { edits = []; seating = Set session.name what; answer = Fine } → q ≡ outcome (setting [] session what)
told_set session what q says = told_none (setting [] session what) q refl says

-- an answer of a line that changes nothing is told of none that changes something
pub told_idle : (p : Plan) → (is_idle p.answer ≡ true → (p.edits ≡ []) × (p.seating ≡ Stay)) → is_idle (outcome p).answer ≡ true → ((outcome p).edits ≡ []) × ((outcome p).seating ≡ Stay)
told_idle p idle = by_fault (least p.faults)
  where
    by_fault : (f : Option Refusal) → is_idle (refused_or f (done_so p)).answer ≡ true → ((refused_or f (done_so p)).edits ≡ []) × ((refused_or f (done_so p)).seating ≡ Stay)
    by_fault None e = idle e
    by_fault (Some r) e = (refl, refl)

-- ---- faults in front of a plan, of which none is one

pub also_clear : (fs : List (Option Refusal)) (p : Plan) (q : Outcome) → None ≡ first_fault fs → q ≡ outcome p → q ≡ outcome (also fs p)
also_clear fs p q none is = is ∙ ap (λ f. refused_or f (done_so p)) (sym (passed fs p.faults (sym none)))

-- ---- the arguments of a call

module _ (procedure : Procedure) (args : List Arg) (p : Plan) (q : Outcome) where
  -- one does not fit its parameter, or is missing; all else that the call may be refused for is of no sooner row
  pub misfit_told : (parameter : List ℕ) → From 14 p → Some parameter ≡ argument_fault procedure args → q ≡ record { edits = []; seating = Stay; answer = mistyped parameter } → q ≡ outcome (also (misfit procedure args ∷ []) p)
  misfit_told parameter later is says =
      says
      ∙ ap (λ o. refused_or (first_fault (refused_for mistyped o ∷ [])) (outcome p)) is
      ∙ sym (also_is (14 ∷ []) 14 (misfit procedure args ∷ []) p (at_for 14 mistyped (λ y. refl) (argument_fault procedure args), tt) refl refl later)

  -- all fit
  pub misfit_clear : None ≡ argument_fault procedure args → q ≡ outcome p → q ≡ outcome (also (misfit procedure args ∷ []) p)
  misfit_clear is says = also_clear (misfit procedure args ∷ []) p q (ap (λ o. first_fault (refused_for mistyped o ∷ [])) is) says
