use Rattle.std.proofs.Common.{[], unwrap_or, sym, ap, ◌∙◌}
use Rattle.wm_calls.specs.Faults.{argument_fault}
use Rattle.wm_ground.specs.Grounds.{outline_on}
use Rattle.wm_ground.specs.Outcomes.{outcome_view}
use Rattle.wm_model.proofs.Named.{named_is}
use Rattle.wm_model.specs.Planning.{named}
use Rattle.wm_model.specs.Seating.{Stay}
use Rattle.wm_model.specs.Step.{Answer, Outcome, mistyped}
use Rattle.wm_reader.specs.Reading.{folded}
use Rattle.wm_locking.proofs.Fronts.{nameless, tabled, tableless}
use Rattle.wm_locking.proofs.Sites.{nothing, view_is}
use Rattle.wm_locking.specs.Asked.{asking_view}
use Rattle.wm_locking.proofs.asked.table_asked.Goals as goal

pub returns-in_default : goal.returns-in_default
returns-in_default c =
    let a = asking_view c.args.asking in
    let says = view_is c.lacking.result (mistyped (unwrap_or (argument_fault a.procedure a.args) [])) c.lacking.ensures.edits c.lacking.ensures.seating
    (c.lacking.ensures.answer ∙ ap (λ f. mistyped (unwrap_or f [])) c.in_ok-fault.ensures) in
    nothing c.args.ground a c.lacking.result _ says (λ act late. nameless a act (outline_on c.args.ground) (outcome_view c.lacking.result) c.in_default.ensures says)

pub returns : goal.returns
returns c =
    let a = asking_view c.args.asking in
    let says = c.answered.ensures ∙ ap (λ (x : Answer). let q : Outcome = record { edits = []; seating = Stay; answer = x } in q) c.no_table.ensures in
    nothing c.args.ground a c.answered.result _ says
    (λ act late.
    tableless a act (outline_on c.args.ground) c.in-Some.name.now c.in_ok-name.name (outcome_view c.answered.result) c.in-Some.ensures (c.in_ok-name.ensures ∙ ap folded c.as_bytes.ensures)
    (c.in-None.ensures ∙ ap (named c.args.ground.image.now) c.as_bytes-2.ensures) says)

pub returns-in-Some-table : goal.returns-in-Some-table
returns-in-Some-table c =
    let a = asking_view c.args.asking in
    let found = c.in-Some-table.ensures ∙ ap (named c.args.ground.image.now) c.as_bytes-2.ensures in
    let is = named_is c.args.ground.image.now c.in_ok-name.name c.in-Some-table.table.now c.args.ground.rules (sym found) in
    record {
      well = is.well;
      there = is.there;
      comes = λ act. tabled a act (outline_on c.args.ground) c.in-Some.name.now c.in_ok-name.name c.in-Some-table.table.now c.in-Some.ensures (c.in_ok-name.ensures ∙ ap folded c.as_bytes.ensures) found;
    }
