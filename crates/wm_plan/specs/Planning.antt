-- What a plan says that a line does and answers.
use Rattle.std.specs.Prelude.{ℕ, List}
use Rattle.wm_spec.specs.declared.record.stored.Stored.{Stored}
use Rattle.wm_print.specs.Texts.{Answer}
use Rattle.wm_state.specs.State.{State, Session}
use Rattle.wm_model.specs.Planning.{Does, DoesAt}
use Rattle.wm_plan.specs.Views.{answer_view, seating_view}
use Rattle.wm_plan.specs.declared.planned.Planned.{Planned}
use Rattle.wm_plan.specs.declared.planned.Timed.{Timed}

-- the plan over records, sessions and a moment does and answers what a function of the state does and answers
abbrev pub DoesIt : List Stored → List Session → ℕ → Planned → (State → State × Answer) → Type 0
DoesIt rs xs m p act = Does rs xs m p.edits.items (seating_view p.seating) (answer_view p.answer) act

-- so, with the moment that is planned behind it
abbrev pub DoesTimed : List Stored → List Session → ℕ → Timed → (State → State × Answer) → Type 0
DoesTimed rs xs m t act = DoesAt rs xs m t.planned.edits.items (seating_view t.planned.seating) t.moment (answer_view t.planned.answer) act
