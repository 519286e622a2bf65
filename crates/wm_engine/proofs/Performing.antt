-- How what is said of the plan of a statement, and of that of a line, comes of what its function says.
use Rattle.std.proofs.Common.{◌≡◌, ◌≤◌, ◌<◌, ℕ, Bool, true, false, if◌then◌else◌, [], length, Option, Some, None, Result, Ok, Err, IfOk, refl, sym, ap, subst}
use Rattle.std.proofs.lemmas.Bool.{false≢true}
use Rattle.std.proofs.lemmas.Option.{same_Some, none-some}
use Rattle.std.specs.List.{list_all}
use Rattle.wm_base.specs.declared.instant.TheConstants.{END}
use Rattle.wm_base.specs.declared.memory.Memory.{Memory}
use Rattle.wm_ground.proofs.Bridge.{does_fit, idles_fit}
use Rattle.wm_ground.specs.Grounds.{outline_on}
use Rattle.wm_ground.specs.Outcomes.{outcome_view}
use Rattle.wm_ground.specs.declared.ground.Ground.{Ground}
use Rattle.wm_model.specs.Planning.{Does, StandsAt, Stay}
use Rattle.wm_model.specs.Step.{Outcome, Plan, outcome, run}
use Rattle.wm_outcome.specs.Fitting.{Fits}
use Rattle.wm_outline.specs.Outline.{Outline, outline}
use Rattle.wm_plan.proofs.Planning.{does_one, forks_none, told, told_alone}
use Rattle.wm_plan.specs.Idle.{Idles}
use Rattle.wm_plan.specs.Planning.{DoesIt}
use Rattle.wm_plan.specs.Views.{answer_view, seating_view}
use Rattle.wm_plan.specs.declared.planned.Planned.{Planned}
use Rattle.wm_plan.specs.declared.planned.Timed.{Timed}
use Rattle.wm_plan.specs.declared.seating.Seating.TheVariants as seatings
use Rattle.wm_print.specs.Texts.{Answer}
use Rattle.wm_spending.specs.Nets.{AreNets, Net, Nothing}
use Rattle.wm_state.specs.Drafts.{is_fork}
use Rattle.wm_state.specs.State.{State}
use Rattle.wm_engine.specs.Performing.{Performs, PerformsAt}

-- what holds of a plan, where there is memory for it
pub if_timed : (r : Result Timed Memory) (P Q : Timed → Type 0) → ((t : Timed) → P t → Q t) → IfOk r P → IfOk r Q
if_timed (Ok t) P Q each holds = each t holds
if_timed (Err e) P Q each holds = tt

module _ (g : Ground) (act : State → State × Answer) where
  -- ---- of a statement

  -- a plan that is told by parts, and makes no savepoint
  pub plain : (r : Result Planned Memory) → IfOk r (λ p. DoesIt g.image.now g.sessions.now g.moment p act) → IfOk r Idles → IfOk r (Performs g act false None)
  plain (Ok p) does idle = record { does = does; idle = idle; few = λ no. absurd (false≢true no); nets = λ n named. absurd (none-some n named) }
  plain (Err e) does idle = tt

  -- so is one that refreshes, or merges, and whose edits are those alone where it does not also remove
  pub netting : (removes : Bool) (net : Net) (r : Result Planned Memory) → IfOk r (λ p. DoesIt g.image.now g.sessions.now g.moment p act) → IfOk r Idles
      → (removes ≡ false → IfOk r (λ p. AreNets g.image.now net p.edits.items)) → IfOk r (Performs g act false (if removes then None else Some net))
  netting true net r does idle nets = plain r does idle
  netting false net (Ok p) does idle nets = record {
    does = does;
    idle = idle;
    few = λ no. absurd (false≢true no);
    nets = λ n named. subst (λ (n : Net). AreNets g.image.now n p.edits.items) (same_Some net n named) (nets refl);
  }
  netting false net (Err e) does idle nets = tt

  -- a plan of the outline that fits the records
  pub fitting : (plan : Outline → Plan) (forks : Bool) (r : Result Planned Memory) → IfOk r (λ p. outcome_view p ≡ outcome (plan (outline_on g))) → Fits g.image.now g.moment (plan (outline_on g)) → ((s : State) → act s ≡ run (plan (outline s)) s)
      → (forks ≡ true → (list_all is_fork (outcome (plan (outline_on g))).edits ≡ true) × (length (outcome (plan (outline_on g))).edits ≤ 1)) → IfOk r (Performs g act forks None)
  fitting plan forks (Ok p) is fits alike few = record {
    does = does_fit g.image.now g.sessions.now g.moment (Ok p) plan act is fits alike;
    idle = idles_fit g.image.now g.moment (Ok p) (plan (outline_on g)) is fits;
    few = λ forks. subst (λ (o : Outcome). (list_all is_fork o.edits ≡ true) × (length o.edits ≤ 1)) (sym is) (few forks);
    nets = λ n named. absurd (none-some n named);
  }
  fitting plan forks (Err e) is fits alike few = tt

  -- one that makes no savepoint
  pub fitting_plain : (plan : Outline → Plan) (r : Result Planned Memory) → IfOk r (λ p. outcome_view p ≡ outcome (plan (outline_on g))) → Fits g.image.now g.moment (plan (outline_on g)) → ((s : State) → act s ≡ run (plan (outline s)) s)
      → IfOk r (Performs g act false None)
  fitting_plain plan r is fits alike = fitting plan false r is fits alike (λ no. absurd (false≢true no))

  -- it performs what does the same
  pub performs_alike : (other : State → State × Answer) (forks : Bool) (net : Option Net) (r : Result Planned Memory) → ((s : State) → other s ≡ act s) → IfOk r (Performs g act forks net) → IfOk r (Performs g other forks net)
  performs_alike other forks net (Ok p) same h = record { does = does_one g.image.now g.sessions.now g.moment p act other (λ s st. same s) h.does; idle = h.idle; few = h.few; nets = h.nets }
  performs_alike other forks net (Err e) same h = tt

  -- a plan of an answer alone
  pub answering : (p : Planned) (forks : Bool) (net : Option Net) (answer : Answer) → p.edits.items ≡ [] → p.seating ≡ seatings.Stay → answer_view p.answer ≡ answer → Does g.image.now g.sessions.now g.moment [] Stay answer act → Performs g act forks net p
  answering p forks net answer none stays says does = record {
    does = told g.image.now g.sessions.now g.moment p [] Stay answer act none (ap seating_view stays) says does;
    idle = λ said. (none, stays);
    few = λ is. forks_none p none;
    nets = λ n named. Nothing none;
  }

  -- ---- of a line

  -- a statement leaves the moment
  pub at_once : (p : Planned) (forks : Bool) (net : Option Net) → Performs g act forks net p → PerformsAt g act forks net (record { planned = p; moment = g.moment })
  at_once p forks net h = record { does = h.does; moment = g.early; idle = h.idle; stays = λ said. refl; few = h.few; nets = h.nets }

  -- a plan of an answer alone
  pub answering_alone : (t : Timed) (forks : Bool) (net : Option Net) (answer : Answer) → t.planned.edits.items ≡ [] → t.planned.seating ≡ seatings.Stay → t.moment ≡ g.moment → answer_view t.planned.answer ≡ answer
      → ((s : State) → StandsAt g.image.now g.sessions.now g.moment s → act s ≡ (s, answer)) → PerformsAt g act forks net t
  answering_alone t forks net answer none stays behind says same = record {
    does = told_alone g.image.now g.sessions.now g.moment t answer act none (ap seating_view stays) behind says same;
    moment = subst (λ (n : ℕ). n < END) (sym behind) g.early;
    idle = λ said. (none, stays);
    stays = λ said. behind;
    few = λ is. forks_none t.planned none;
    nets = λ n named. Nothing none;
  }
