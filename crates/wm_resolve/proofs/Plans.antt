-- What is told of plans by which something is set of a session.
use Rattle.std.proofs.Common.{◌≡◌, ℕ, List, [], Result, Ok, Err, IfOk, ap}
use Rattle.wm_base.specs.declared.memory.Memory.{Memory}
use Rattle.wm_print.specs.Texts.{Answer, Fine}
use Rattle.wm_spec.specs.declared.record.stored.Stored.{Stored}
use Rattle.wm_state.specs.State.{Session, State}
use Rattle.wm_ground.specs.Outcomes.{outcome_view}
use Rattle.wm_model.specs.Planning.{Does, IsOpen, Seating}
use Rattle.wm_model.specs.Step.{Outcome}
use Rattle.wm_model.specs.Undone.{NamesSpace}
use Rattle.wm_spec.specs.declared.record.space.Space.{Space}
use Rattle.wm_plan.proofs.Planning.{does_one, told}
use Rattle.wm_plan.specs.Planning.{DoesIt}
use Rattle.wm_plan.specs.declared.planned.Planned.{Planned}

-- ---- for sessions among which one is open

pub sets_open : (rs : List Stored) (m : ℕ) (session : Session) (r : Result Planned Memory) (seating : Seating) (act : State → State × Answer) → IfOk r (λ p. outcome_view p ≡ record { edits = []; seating = seating; answer = Fine })
    → ((xs : List Session) → Does rs xs m [] seating Fine act) → IfOk r (λ p. (xs : List Session) → IsOpen xs session → DoesIt rs xs m p act)
sets_open rs m session (Ok p) seating act is does = λ xs among. told rs xs m p [] seating Fine act (ap (λ (o : Outcome). o.edits) is) (ap (λ (o : Outcome). o.seating) is) (ap (λ (o : Outcome). o.answer) is) (does xs)
sets_open rs m session (Err e) seating act is does = tt

-- a plan for each name of a workspace is one for this name
pub opens_named : (rs : List Stored) (m : ℕ) (session : Session) (r : Result Planned Memory) (to : List ℕ → State → State × Answer) (workspace : List ℕ) (a : Space) → NamesSpace rs workspace a
    → IfOk r (λ p. (xs : List Session) (workspace : List ℕ) → NamesSpace rs workspace a → IsOpen xs session → DoesIt rs xs m p (to workspace)) → IfOk r (λ p. (xs : List Session) → IsOpen xs session → DoesIt rs xs m p (to workspace))
opens_named rs m session (Ok p) to workspace a names does = λ xs among. does xs workspace names among
opens_named rs m session (Err e) to workspace a names does = tt

-- ---- what another function does

pub opens_same : (rs : List Stored) (m : ℕ) (session : Session) (r : Result Planned Memory) (act other : State → State × Answer) → ((s : State) → other s ≡ act s)
    → IfOk r (λ p. (xs : List Session) → IsOpen xs session → DoesIt rs xs m p act) → IfOk r (λ p. (xs : List Session) → IsOpen xs session → DoesIt rs xs m p other)
opens_same rs m session (Ok p) act other same does = λ xs among. does_one rs xs m p act other (λ s st. same s) (does xs among)
opens_same rs m session (Err e) act other same does = tt
