-- A plan of a line that is refused since a counter is at its end, where a function may find no memory for it.
use Rattle.std.proofs.Common.{◌≡◌, ℕ, List, [], Result, Ok, Err, IfOk, ap}
use Rattle.wm_base.specs.declared.memory.Memory.{Memory}
use Rattle.wm_model.specs.Planning.{Stay}
use Rattle.wm_model.specs.Step.{at_its_end}
use Rattle.wm_plan.specs.Views.{answer_view, seating_view}
use Rattle.wm_plan.specs.declared.planned.Planned.{Planned}
use Rattle.wm_plan.specs.declared.seating.Seating.TheVariants as seatings

pub told_ended : (r : Result Planned Memory) (counter : List ℕ) (Q : Planned → Type 0) → IfOk r (λ p. p.edits.items ≡ []) → IfOk r (λ p. p.seating ≡ seatings.Stay) → IfOk r (λ p. answer_view p.answer ≡ at_its_end counter)
    → ((p : Planned) → p.edits.items ≡ [] → seating_view p.seating ≡ Stay → answer_view p.answer ≡ at_its_end counter → Q p) → IfOk r Q
told_ended (Ok p) counter Q edits seats says does = does p edits (ap seating_view seats) says
told_ended (Err e) counter Q edits seats says does = tt
