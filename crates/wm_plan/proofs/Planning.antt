-- How what a plan says is told of the plan that a function gives.
use Rattle.std.proofs.Common.{◌≡◌, ◌≤◌, ℕ, ◌<◌, nat_lt, true, false, List, [], length, Option, Some, None, is_some, Result, Ok, Err, IfOk, refl, sym, ap, subst, ◌∙◌, arith}
use Rattle.std.proofs.lemmas.Bool.Decides.{nat_tests}
use Rattle.std.specs.List.{list_all}
use Rattle.wm_base.specs.declared.memory.Memory.{Memory}
use Rattle.wm_base.specs.declared.instant.TheConstants.{END}
use Rattle.wm_print.specs.Texts.{Answer}
use Rattle.wm_spec.specs.declared.record.space.Space.{Space}
use Rattle.wm_spec.specs.declared.record.stored.Stored.{Stored}
use Rattle.wm_state.specs.State.{State, Session}
use Rattle.wm_state.specs.declared.edit.Edit.{Edit}
use Rattle.wm_model.specs.Planning.{StandsAt, Does, DoesAt, IsOpen, Seating, Stay, planned, SeatsStaged}
use Rattle.wm_model.proofs.Doing.{does_alike, does_nothing}
use Rattle.wm_model.proofs.Homes.{home_recorded}
use Rattle.wm_state.specs.Drafts.{is_fork as is_fork_edit}
use Rattle.wm_plan.specs.Forks.{AreForks}
use Rattle.wm_plan.specs.Planning.{DoesIt, DoesTimed}
use Rattle.wm_plan.specs.Views.{answer_view, seating_view}
use Rattle.wm_plan.specs.declared.planned.Planned.{Planned}
use Rattle.wm_plan.specs.declared.planned.Timed.{Timed}
use Rattle.wm_plan.specs.declared.seating.Seating.TheVariants as seatings
use Rattle.wm_graph.specs.Parts.{parts_of, space_of}
use Rattle.wm_graph.specs.Rules.{keep_rules}

-- a plan of these edits, of this that becomes of the sessions, and of this answer
pub told : (rs : List Stored) (xs : List Session) (m : ℕ) (p : Planned) (es : List Edit) (seating : Seating) (answer : Answer) (act : State → State × Answer) → p.edits.items ≡ es → seating_view p.seating ≡ seating → answer_view p.answer ≡ answer
    → Does rs xs m es seating answer act → DoesIt rs xs m p act
told rs xs m p es seating answer act edits seats says does = rw (edits, seats, says) does

-- a plan of no edit makes neither a savepoint nor a workspace
pub forks_none : (p : Planned) → p.edits.items ≡ [] → AreForks p
forks_none p none = (ap (list_all is_fork_edit) none, subst (λ (es : List Edit). length es ≤ 1) (sym none) (omega arith))

-- a moment that is before the end passes the test for it
pub early : (m : ℕ) → m < END → nat_lt m END ≡ true
early m lt = grind (arith, nat_tests, lt)

-- a plan does what another function does to each state that the records stand for
pub does_one : (rs : List Stored) (xs : List Session) (m : ℕ) (p : Planned) (act other : State → State × Answer) → ((s : State) → StandsAt rs xs m s → other s ≡ act s) → DoesIt rs xs m p act → DoesIt rs xs m p other
does_one rs xs m p act other same does = does_alike rs xs m p.edits.items (seating_view p.seating) (answer_view p.answer) act other same does

-- a plan for these sessions at this moment
pub does_here : (rs : List Stored) (xs : List Session) (m : ℕ) (r : Result Planned Memory) (act other : State → State × Answer) → ((s : State) → other s ≡ act s)
    → IfOk r (λ p. DoesIt rs xs m p act) → IfOk r (λ p. DoesIt rs xs m p other)
does_here rs xs m (Ok p) act other same does = does_one rs xs m p act other (λ s st. same s) does
does_here rs xs m (Err e) act other same does = tt

-- one that looks at neither the sessions nor the moment
pub for_one : (rs : List Stored) (xs : List Session) (m : ℕ) (r : Result Planned Memory) (act other : State → State × Answer) → ((s : State) → other s ≡ act s)
    → IfOk r (λ p. (ys : List Session) (n : ℕ) → DoesIt rs ys n p act) → IfOk r (λ p. DoesIt rs xs m p other)
for_one rs xs m (Ok p) act other same does = does_one rs xs m p act other (λ s st. same s) (does xs m)
for_one rs xs m (Err e) act other same does = tt

-- ---- a plan for a session that is open

-- a plan for each record that its workspace may have is one, since its workspace has a record wherever these stand for a state
pub does_at_home : (rs : List Stored) (xs : List Session) (m : ℕ) (session : Session) (seating : Seating) (answer : Answer) (act : State → State × Answer) → IsOpen xs session → SeatsStaged (parts_of rs) seating
    → ((a : Space) → space_of (parts_of rs).spaces session.space ≡ Some a → Does rs xs m [] seating answer act) → Does rs xs m [] seating answer act
does_at_home rs xs m session seating answer act among staged each = record { can = tt; seats = staged; does = λ s st. by_record s st (space_of (parts_of rs).spaces session.space) refl (home_recorded rs xs m s session st among) }
  where
    by_record : (s : State) → StandsAt rs xs m s → (o : Option Space) → space_of (parts_of rs).spaces session.space ≡ o → is_some o ≡ true → act s ≡ (planned m m [] seating s, answer)
    by_record s st None none there = absurd (let e : false ≡ true = there in cc)
    by_record s st (Some a) found there = (each a found).does s st

-- it is open among these sessions
pub for_open : (rs : List Stored) (xs : List Session) (m : ℕ) (r : Result Planned Memory) (session : Session) (act other : State → State × Answer) → IsOpen xs session → ((s : State) → other s ≡ act s)
    → IfOk r (λ p. (ys : List Session) → IsOpen ys session → DoesIt rs ys m p act) → IfOk r (λ p. DoesIt rs xs m p other)
for_open rs xs m (Ok p) session act other among same does = does_one rs xs m p act other (λ s st. same s) (does xs among)
for_open rs xs m (Err e) session act other among same does = tt

-- ---- the moment behind a line

-- a plan of this answer alone, and of this moment behind it
pub told_at : (rs : List Stored) (xs : List Session) (m : ℕ) (t : Timed) (after : ℕ) (answer : Answer) (act : State → State × Answer) → t.planned.edits.items ≡ [] → seating_view t.planned.seating ≡ Stay → t.moment ≡ after
    → answer_view t.planned.answer ≡ answer → DoesAt rs xs m [] Stay after answer act → DoesTimed rs xs m t act
told_at rs xs m t after answer act none stays behind says does = rw (none, stays, behind, says) does

-- a plan that changes nothing at all
pub told_alone : (rs : List Stored) (xs : List Session) (m : ℕ) (t : Timed) (answer : Answer) (act : State → State × Answer) → t.planned.edits.items ≡ [] → seating_view t.planned.seating ≡ Stay → t.moment ≡ m
    → answer_view t.planned.answer ≡ answer → ((s : State) → StandsAt rs xs m s → act s ≡ (s, answer)) → DoesTimed rs xs m t act
told_alone rs xs m t answer act none stays behind says same = told_at rs xs m t m answer act none stays behind says (does_nothing rs xs m answer act same)

-- a plan does what another function does to each state that the records stand for
timed_one : (rs : List Stored) (xs : List Session) (m : ℕ) (t : Timed) (act other : State → State × Answer) → ((s : State) → StandsAt rs xs m s → other s ≡ act s) → DoesTimed rs xs m t act → DoesTimed rs xs m t other
timed_one rs xs m t act other same does = record { can = does.can; seats = does.seats; does = λ s st. same s st ∙ does.does s st }

pub timed_same : (rs : List Stored) (xs : List Session) (m : ℕ) (r : Result Timed Memory) (act other : State → State × Answer) → ((s : State) → StandsAt rs xs m s → other s ≡ act s)
    → IfOk r (λ t. DoesTimed rs xs m t act) → IfOk r (λ t. DoesTimed rs xs m t other)
timed_same rs xs m (Ok t) act other same does = timed_one rs xs m t act other same does
timed_same rs xs m (Err e) act other same does = tt

-- a plan that changes nothing
pub refused : (rs : List Stored) (xs : List Session) (m : ℕ) (p : Planned) (answer : Answer) (act : State → State × Answer) → p.edits.items ≡ [] → p.seating ≡ seatings.Stay → answer_view p.answer ≡ answer → keep_rules (parts_of rs) ≡ true
    → ((s : State) → act s ≡ (s, answer)) → DoesIt rs xs m p act
refused rs xs m p answer act changes seating says rules same = told rs xs m p [] Stay answer act changes (ap seating_view seating) says (does_nothing rs xs m answer act (λ s st. same s))
