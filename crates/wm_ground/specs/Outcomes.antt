-- What a plan of the code says, as a value.
use Rattle.wm_model.specs.Step.{Outcome}
use Rattle.wm_plan.specs.Views.{answer_view, seating_view}
use Rattle.wm_plan.specs.declared.planned.Planned.{Planned}

abbrev pub outcome_view : Planned → Outcome
outcome_view p = record { edits = p.edits.items; seating = seating_view p.seating; answer = answer_view p.answer }
