use Rattle.std.proofs.Common.{ℕ, nat_lt, length, List, [], ◌∷◌, Option, unwrap_or, ap, ◌∙◌}
use Rattle.wm_calls.specs.Faults.{argument_fault}
use Rattle.wm_grammar.specs.declared.procedure.Procedure.TheVariants.{EnableVersioning}
use Rattle.wm_ground.specs.Grounds.{outline_on}
use Rattle.wm_ground.specs.Outcomes.{outcome_view}
use Rattle.wm_model.specs.Seating.{Stay}
use Rattle.wm_model.specs.Step.{Outcome, Plan, also, for_text, long_name, mistyped, outcome, refused_if}
use Rattle.wm_outcome.proofs.Tables.{enabling_named}
use Rattle.wm_outcome.proofs.Told.{told_at_once}
use Rattle.wm_outline.specs.Outline.{Outline}
use Rattle.wm_plan.specs.Views.{seating_view}
use Rattle.wm_reader.specs.Reading.{folded}
use Rattle.wm_syntax.specs.declared.statement.Arg.{Arg}
use Rattle.wm_space.proofs.enable.enable_plan.Goals as goal

abbrev act : List Arg → Outline → List ℕ → Plan
act args o text = also (refused_if (nat_lt 25 (length (folded text))) long_name ∷ []) (enabling_named (folded text) args o)

pub returns-in_ok-fault-in-None : goal.returns-in_ok-fault-in-None
returns-in_ok-fault-in-None c =
    let args = c.args.args.now in
    told_at_once _ (outcome_view c.lacking.result)
    ((λ i. let q : Outcome = record { edits = c.lacking.ensures.edits i; seating = seating_view (c.lacking.ensures.seating i); answer = c.lacking.ensures.answer i } in q)
    ∙ ap (λ (fault : Option (List ℕ)). let q : Outcome = record { edits = []; seating = Stay; answer = mistyped (unwrap_or fault []) } in q) c.in_ok-fault-in-None.ensures)
    ∙ ap (λ (text : Option (List ℕ)). outcome (for_text text (argument_fault EnableVersioning args) (act args (outline_on c.args.ground)))) c.in-None.ensures
