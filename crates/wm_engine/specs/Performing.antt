-- What the plan of a statement, and that of a line, says over a ground.
use Rattle.std.specs.Prelude.{◌≡◌, ◌<◌, Bool, true, Option, Some}
use Rattle.wm_base.specs.declared.instant.TheConstants.{END}
use Rattle.wm_grammar.specs.declared.procedure.Procedure.{Procedure}
use Rattle.wm_ground.specs.declared.ground.Ground.{Ground}
use Rattle.wm_model.specs.Step.{call_with}
use Rattle.wm_plan.specs.Forks.{AreForks}
use Rattle.wm_plan.specs.Idle.{Idles, StaysAt}
use Rattle.wm_plan.specs.Planning.{DoesIt, DoesTimed}
use Rattle.wm_plan.specs.declared.planned.Planned.{Planned}
use Rattle.wm_plan.specs.declared.planned.Timed.{Timed}
use Rattle.wm_print.specs.Texts.{Answer}
use Rattle.wm_spending.specs.Nets.{AreNets, Net}
use Rattle.wm_state.specs.State.{Session, State}
use Rattle.wm_syntax.specs.Views.{filter_view}
use Rattle.wm_engine.specs.declared.plan.call.Called.{Called}

-- a call, by what it is given
abbrev pub called_with : Session → Option Procedure → Called → State → State × Answer
called_with session procedure called = call_with session procedure called.given.args.now (filter_view called.given.condition.now) called.empty

-- it does and answers what a function of the state does and answers; where its answer is that of a line that changes nothing, it changes nothing;
-- a savepoint or a workspace is made by such an edit alone, and a refresh, or a merge that removes nothing, makes no other edits than its own
pub record Performs (g : Ground) (act : State → State × Answer) (forks : Bool) (net : Option Net) (p : Planned) : Type 0 where
  pub does : DoesIt g.image.now g.sessions.now g.moment p act
  pub idle : Idles p
  pub few : forks ≡ true → AreForks p
  pub nets : (n : Net) → net ≡ Some n → AreNets g.image.now n p.edits.items

-- so does a line, which also sets the moment behind it
pub record PerformsAt (g : Ground) (act : State → State × Answer) (forks : Bool) (net : Option Net) (t : Timed) : Type 0 where
  pub does : DoesTimed g.image.now g.sessions.now g.moment t act
  pub moment : t.moment < END
  pub idle : Idles t.planned
  pub stays : StaysAt g.moment t
  pub few : forks ≡ true → AreForks t.planned
  pub nets : (n : Net) → net ≡ Some n → AreNets g.image.now n t.planned.edits.items
