use Rattle.std.proofs.Common.{refl, arith, ◌∙◌}
use Rattle.std.proofs.lemmas.Result.{err_from_is_err_and}
use Rattle.wm_host.proofs.Saying.{front_begun, front_more, front_failed, said_failed, said_none}
use Rattle.wm_host.proofs.Crashing.{crash_says_begun, crash_says_more, crash_says_failed}
use Rattle.wm_host.proofs.Held.{more_of_test}
use Rattle.wm_host.proofs.say.say_all.Goals as goal

pub returns-in_err-count-clause-part : goal.returns-in_err-count-clause-part
returns-in_err-count-clause-part g c =
    let p = err_from_is_err_and c.from_residual.result c.from_residual.ensures.1 in
    rw p.1
    (front_failed g.P.Station.tells _ _ _ c.args.bytes.now c.loop-rest.rest.now c.loop-rest.invariant.front
    (λ t. said_failed _ _ c.loop-rest.rest.now (c.in_err-count.ensures.unsaid t)) (more_of_test _ c.loop-rest.rest.now c.is_empty.ensures c.loop-rest-test.true))

pub returns-then-count-eq0-clause-part : goal.returns-then-count-eq0-clause-part
returns-then-count-eq0-clause-part g c =
    front_failed g.P.Station.tells _ _ _ c.args.bytes.now c.loop-rest.rest.now c.loop-rest.invariant.front
    (λ t. said_none _ _ c.loop-rest.rest.now c.in_ok-count.count c.if-count-eq0.true (c.in_ok-count.ensures.said t))
    (more_of_test _ c.loop-rest.rest.now c.is_empty.ensures c.loop-rest-test.true)

pub loop-rest-preserved : goal.loop-rest-preserved
loop-rest-preserved g c =
    let some = c.if-count-eq0.false in
    record {
      front = front_more g.P.Station.tells _ _ _ c.args.bytes.now c.loop-rest.rest.now c.split_at.result.1.now c.in_ok-count.count c.loop-rest.invariant.front c.in_ok-count.ensures.said c.split_at.ensures.back;
      crash = λ t. crash_says_more g.P.Station.tells _ _ _ c.args.bytes.now c.loop-rest.rest.now c.in_ok-count.count c.loop-rest.invariant.front c.in_ok-count.ensures.within (c.in_ok-count.ensures.said t) t (c.loop-rest.invariant.crash t);
      kept = c.in_ok-count.ensures.some (omega (arith, some)) ∙ c.loop-rest.invariant.kept;
      quiet = c.in_ok-count.ensures.quiet ∙ c.loop-rest.invariant.quiet;
    }

pub loop-rest-init : goal.loop-rest-init
loop-rest-init g c = record {
  front = front_begun g.P.Station.tells (g.P.Station.history c.args.station.now) c.args.bytes.now;
  crash = λ t. crash_says_begun (g.P.Station.history c.args.station.now) c.args.bytes.now;
  kept = refl;
  quiet = refl;
}

pub returns-in_err-count-clause-crash : goal.returns-in_err-count-clause-crash
returns-in_err-count-clause-crash g c = λ t.
    crash_says_failed g.P.Station.tells _ _ _ c.args.bytes.now c.loop-rest.rest.now c.loop-rest.invariant.front (c.in_err-count.ensures.unsaid t) t (c.loop-rest.invariant.crash t)

pub returns-then-count-eq0-clause-crash : goal.returns-then-count-eq0-clause-crash
returns-then-count-eq0-clause-crash g c = λ t.
    crash_says_more g.P.Station.tells _ _ _ c.args.bytes.now c.loop-rest.rest.now c.in_ok-count.count c.loop-rest.invariant.front c.in_ok-count.ensures.within (c.in_ok-count.ensures.said t) t (c.loop-rest.invariant.crash t)
