use Rattle.std.proofs.Common.{◌≡◌, Option, sym, ap, ◌∙◌, subst}
use Rattle.std.specs.Option.{IfSome}
use Rattle.wm_base.specs.Period.{Span}
use Rattle.wm_net.specs.Conflicts.{same_stamps}
use Rattle.wm_pending.proofs.Walking.{contested_moment, next_is, on_moment, reaches_first, reaches_more}
use Rattle.wm_pending.specs.Sides.{stamps_at, stamps_in}
use Rattle.wm_pending.specs.Walks.{left_in, stretch_in}
use Rattle.wm_pending.proofs.walk.Walk.next_contest.Goals as goal

pub steady_till-requires-clause-moment : goal.steady_till-requires-clause-moment
steady_till-requires-clause-moment c = contested_moment c.in-Some.start c.in-Some.ensures.some.goes.ready c.in-Some.ensures.some.contested

pub loop-end-init : goal.loop-end-init
loop-end-init c =
    reaches_first c.in-Some.start c.moved-end.result c.steady_till.result c.moved-end.ensures c.steady_till.ensures.later c.steady_till.ensures.bound c.steady_till.ensures.steady

pub steady_till-requires-in-loop-end-clause-moment : goal.steady_till-requires-in-loop-end-clause-moment
steady_till-requires-in-loop-end-clause-moment c =
    let w = c.loop-end.end in
    on_moment w (same_stamps (stamps_in c.stamps-stamps.result) (stamps_at (left_in w) w.at)) c.loop-end.invariant.goes.ready (sym c.goes_on.ensures ∙ c.loop-end-test.true)

pub loop-end-preserved : goal.loop-end-preserved
loop-end-preserved c =
    reaches_more c.in-Some.start c.loop-end.end c.moved-end-in-loop-end.result c.steady_till-in-loop-end.result (stamps_in c.stamps-stamps.result) c.loop-end.invariant c.stamps-stamps.ensures c.in-Some.ensures.some.contested
    (sym c.goes_on.ensures ∙ c.loop-end-test.true) c.moved-end-in-loop-end.ensures c.steady_till-in-loop-end.ensures.later c.steady_till-in-loop-end.ensures.bound c.steady_till-in-loop-end.ensures.steady

pub returns-clause-some : goal.returns-clause-some
returns-clause-some c =
    let start = c.in-Some.start in
    let end = c.loop-end.end in
    let is : c.unwrap-period.result ≡ record { from = start.at; till = end.at } =
    subst (λ (o : Option Span). IfSome o (λ p. p ≡ record { from = start.at; till = end.at })) c.unwrap-period.ensures c.new.ensures.value in
    next_is c.args.self.now start end (stretch_in record { period = c.unwrap-period.result; stamps = c.stamps-stamps.result }) c.in-Some.ensures.some c.loop-end.invariant
    (ap (λ (p : Span). p.from) is) (ap (λ (p : Span). p.till) is) c.stamps-stamps.ensures (sym c.goes_on.ensures ∙ c.loop-end-test.false)
