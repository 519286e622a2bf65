-- What is known of a line once the moment stands in the place of SYSDATE.
use Rattle.std.proofs.Common.{◌≡◌, ℕ, false, true, List, Option, Some, Result, Ok, Err, IfOk, refl, sym, ap, subst, ◌∙◌}
use Rattle.std.specs.Prelude.{IfSome}
use Rattle.wm_base.specs.declared.memory.Memory.{Memory}
use Rattle.wm_syntax.specs.Trees.{Projection, All, Outs, Query, Create, Insert, Update, Delete, Select, Call, Line, Connect, Disconnect, At, Run}
use Rattle.wm_calls.proofs.Lasting.{outs_last, query_lasts}
use Rattle.wm_calls.specs.Empty.{has_empty_period, projection_has_empty}
use Rattle.wm_select.specs.Query.{item_lasts, projection_lasts}
use Rattle.wm_model.specs.Planning.{StandsAt}
use Rattle.wm_model.specs.Step.{run_line, run_parsed, timed_line}
use Rattle.wm_spec.specs.declared.record.stored.Stored.{Stored}
use Rattle.wm_state.specs.State.{State, Session}
use Rattle.wm_ground.specs.declared.ground.Ground.{Ground}
use Rattle.wm_plan.proofs.Planning.{timed_same}
use Rattle.wm_plan.specs.declared.planned.Timed.{Timed}
use Rattle.wm_engine.proofs.NetLines.{nets_timed}
use Rattle.wm_engine.specs.ForkLines.{is_fork_line}
use Rattle.wm_engine.specs.NetLines.{nets_of_line}
use Rattle.wm_engine.specs.Performing.{PerformsAt}

-- a projection without an empty period
projection_is : (p : Projection) → projection_has_empty p ≡ false → projection_lasts p ≡ true
projection_is All none = refl
projection_is (Outs os) none = outs_last item_lasts (record { plain = λ x lasts. lasts; count = refl; aggregate = λ agg x lasts. lasts }) os none

-- no item of a query without an empty period has one
pub select_lasts : (q : Query) → has_empty_period (Select q) ≡ false → projection_lasts q.projection ≡ true
select_lasts q none = projection_is q.projection (query_lasts q none)

-- the line makes a savepoint or a workspace at one moment as at another
timed_forks : (m : ℕ) (l : Line) → is_fork_line l ≡ is_fork_line (timed_line m l)
timed_forks m (Connect session user) = refl
timed_forks m (Disconnect session) = refl
timed_forks m (At instant) = refl
timed_forks m (Run session (Create table items)) = refl
timed_forks m (Run session (Insert table names values)) = refl
timed_forks m (Run session (Update table sets filter)) = refl
timed_forks m (Run session (Delete table filter)) = refl
timed_forks m (Run session (Select q)) = refl
timed_forks m (Run session (Call procedure args condition)) = refl

-- the moment of the records is the state's
timed_runs : (rs : List Stored) (xs : List Session) (m : ℕ) (l : Line) (s : State) → StandsAt rs xs m s → run_parsed (Ok l) s ≡ run_line (timed_line m l) s
timed_runs rs xs m l s st = ap (λ n. run_line (timed_line n l) s) (sym st.moment_is)

-- a line that was read at a moment performs what it does once that stands in the place of SYSDATE
pub timed_performs : (g : Ground) (l : Line) (r : Result Timed Memory) → IfOk r (PerformsAt g (run_line (timed_line g.moment l)) (is_fork_line (timed_line g.moment l)) (nets_of_line (timed_line g.moment l)))
    → IfOk r (PerformsAt g (run_parsed (Ok l)) (is_fork_line l) (nets_of_line l))
timed_performs g l (Ok t) h = record {
  does = timed_same g.image.now g.sessions.now g.moment (Ok t) (run_line (timed_line g.moment l)) (run_parsed (Ok l)) (timed_runs g.image.now g.sessions.now g.moment l) h.does;
  moment = h.moment;
  idle = h.idle;
  stays = h.stays;
  few = λ is. h.few (sym (timed_forks g.moment l) ∙ is);
  nets = λ net named. h.nets net (nets_timed g.moment l ∙ named);
}
timed_performs g l (Err e) h = tt

-- the moment of an instant that is given is that
pub now_is : (o : Option ℕ) (now moment : ℕ) → o ≡ Some now → IfSome o (λ n. n ≡ moment) → now ≡ moment
now_is o now moment is value = subst (λ (x : Option ℕ). IfSome x (λ n. n ≡ moment)) is value
