use Rattle.std.proofs.Common.{ap, ◌∙◌}
use Rattle.wm_graph.specs.Parts.{parts_of}
use Rattle.wm_guard.specs.Orders.{nows}
use Rattle.wm_model.specs.Step.{refusal_of}
use Rattle.wm_barred.proofs.Firsts.{told_first}
use Rattle.wm_barred.specs.Alone.{outline_alone}
use Rattle.wm_barred.specs.Views.{claim_view, stretch_view}
use Rattle.wm_barred.proofs.barring.fault_at.Goals as goal

pub returns-in-Some : goal.returns-in-Some
returns-in-Some c =
    told_first (outline_alone (parts_of c.args.image.now)) (claim_view c.args.claim) (stretch_view c.args.cells) c.in-Some.lock.now (nows c.as_slice.result.now) c.into_refusal.result
    (ap nows c.as_slice.ensures.value ∙ c.in_ok-locks.ensures.locks) c.in-Some.ensures.first (c.into_refusal.ensures ∙ ap refusal_of c.in_ok-locked_told-in-Some.ensures)
