use Rattle.std.proofs.Common.{refl, ap}
use Rattle.wm_pending.proofs.Conflicting.{pair_made, walked_all, walked_more, walked_none}
use Rattle.wm_pending.specs.Lookups.{group_own}
use Rattle.wm_pending.specs.Sides.{contest_at}
use Rattle.wm_pending.specs.Walks.{stretch_in}
use Rattle.wm_pending.specs.declared.clash.Conflict.{Conflict}
use Rattle.wm_pending.specs.declared.sides.Sides.{Sides}
use Rattle.wm_pending.proofs.clash.push_stretches.Goals as goal

pub loop-contest-init : goal.loop-contest-init
loop-contest-init c =
    walked_none (contest_at c.args.sides.now) (group_own c.args.own.now) c.args.own.now.table c.args.found.now.items c.over-walk.result c.over-walk.ensures.ready c.over-walk.ensures.begins
    (λ t. ap (λ (s : Sides). contest_at s t) c.over-walk.ensures.all)

pub loop-contest-preserved : goal.loop-contest-preserved
loop-contest-preserved c =
    let conflict : Conflict = record { key = c.in_ok-copy.field-0; period = c.in-Some.contest.period; stamps = c.in-Some.contest.stamps } in
    walked_more (contest_at c.args.sides.now) (group_own c.args.own.now) c.args.own.now.table c.args.found.now.items c.loop-contest.found.items c.push.new.self.items c.loop-contest.walk c.in-Some.rest
    conflict (stretch_in c.in-Some.contest) c.loop-contest.invariant c.in-Some.ensures.some (pair_made c.args.own.now c.args.own.now.table conflict refl c.in_ok-copy.ensures) c.in_ok-push.ensures.items

pub returns : goal.returns
returns c =
    walked_all (contest_at c.args.sides.now) (group_own c.args.own.now) c.args.own.now.table c.args.found.now.items c.loop-contest.found.items c.loop-contest.walk c.loop-contest.invariant
    c.in_default.ensures.none
