use Rattle.std.proofs.Common.{IfOk, subst, ap, ◌∙◌}
use Rattle.wm_model.specs.Step.{run_line, timed_line}
use Rattle.wm_syntax.specs.Trees.{Line}
use Rattle.wm_syntax.specs.Views.{line_view}
use Rattle.wm_engine.proofs.Lasting.{now_is, timed_performs}
use Rattle.wm_engine.proofs.Timely.{timely_timed}
use Rattle.wm_engine.specs.ForkLines.{is_fork_line}
use Rattle.wm_engine.specs.NetLines.{nets_of_line}
use Rattle.wm_engine.specs.Performing.{PerformsAt}
use Rattle.wm_engine.proofs.plan.line.plan_read.Goals as goal

pub plan_line-requires : goal.plan_line-requires
plan_line-requires c = record { timely = rw c.set_moment_in.ensures (timely_timed c.unwrap-now.result (line_view c.args.line.now) c.requires.timely) }

pub returns : goal.returns
returns c =
    let g = c.args.ground in
    let line = line_view c.args.line.now in
    let now = now_is c.new.result c.unwrap-now.result g.moment c.unwrap-now.ensures c.new.ensures.value in
    timed_performs g line c.plan_line.result
    (subst (λ (l : Line). IfOk c.plan_line.result (PerformsAt g (run_line l) (is_fork_line l) (nets_of_line l))) (c.set_moment_in.ensures ∙ ap (λ n. timed_line n line) now) c.plan_line.ensures)
