use Rattle.std.proofs.Common.{ap}
use Rattle.wm_graph.specs.Parts.{parts_of}
use Rattle.wm_pending.specs.Sides.{contest_at}
use Rattle.wm_pending.specs.Walks.{stretch_in}
use Rattle.wm_pending.specs.declared.sides.Sides.{Sides}
use Rattle.wm_differences.proofs.Comparing.{walked_all, walked_more, walked_none}
use Rattle.wm_differences.proofs.shown.push_stretches.Goals as goal

pub loop-contest-init : goal.loop-contest-init
loop-contest-init c =
    walked_none (parts_of c.args.image.now) c.args.asked.first.now c.args.asked.second.now c.args.asked.table.now c.args.key.now (contest_at c.args.sides.now) c.args.rows.now c.over-walk.result c.over-walk.ensures.ready
    c.over-walk.ensures.begins (λ t. ap (λ (s : Sides). contest_at s t) c.over-walk.ensures.all)

pub loop-contest-preserved : goal.loop-contest-preserved
loop-contest-preserved c =
    walked_more (parts_of c.args.image.now) c.args.asked.first.now c.args.asked.second.now c.args.asked.table.now c.args.key.now (contest_at c.args.sides.now) c.args.rows.now c.loop-contest.rows c.push_contest.new.rows
    c.loop-contest.walk c.in-Some.rest (stretch_in c.in-Some.contest) c.loop-contest.invariant c.in-Some.ensures.some c.in_ok-push_contest.ensures

pub returns : goal.returns
returns c =
    walked_all (parts_of c.args.image.now) c.args.asked.first.now c.args.asked.second.now c.args.asked.table.now c.args.key.now (contest_at c.args.sides.now) c.args.rows.now c.loop-contest.rows c.loop-contest.walk
    c.loop-contest.invariant c.in_default.ensures.none
