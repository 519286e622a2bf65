use Rattle.std.proofs.Common.{◌-◌, length, arith, ◌∙◌}
use Rattle.wm_host.proofs.Held.{without_cr-ends, without_cr-other, without_cr-empty}
use Rattle.wm_host.proofs.line.without_final_cr.Goals.{else-count-gt0-via-then-count-gt0+else-line-count-eq13, else-count-gt0-via-else-count-gt0}
use Rattle.wm_host.proofs.line.without_final_cr.Goals as goal

pub returns-then-line-count-eq13 : goal.returns-then-line-count-eq13
returns-then-line-count-eq13 c =
    c.split_at.ensures.front ∙ without_cr-ends c.args.line.now (length c.args.line.now - 1) (omega arith) c.if-line-count-eq13.true

pub returns-else-count-gt0 : goal.returns-else-count-gt0
returns-else-count-gt0 c = elim c.else-count-gt0.branch [
  | else-count-gt0-via-then-count-gt0+else-line-count-eq13 w ↦ without_cr-other c.args.line.now (length c.args.line.now - 1) (omega arith) w.if-line-count-eq13.false
  | else-count-gt0-via-else-count-gt0 w ↦ without_cr-empty c.args.line.now (omega arith)
]
