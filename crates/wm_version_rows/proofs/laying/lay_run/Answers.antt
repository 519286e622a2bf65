use Rattle.std.proofs.Common.{arith}
use Rattle.std.specs.Option.{option_copied}
use Rattle.wm_version_rows.proofs.Along.{held-more}
use Rattle.wm_period.specs.Pieces.{held_at}
use Rattle.wm_version_rows.proofs.laying.lay_run.Goals as goal

pub loop-place-preserved : goal.loop-place-preserved
loop-place-preserved c = record {
  held = λ t less.
      held-more c.args.image.now c.args.ids.now c.loop-place.place c.args.version t (held_at c.loop-place.run t) (held_at c.lay_behind.new.run t) (option_copied c.record.result) c.loop-place-test.true c.record.ensures
      (c.loop-place.invariant.held t less) (c.in_ok-lay_behind.ensures.laid c.if-not-branch.false t less);
  first = λ none. absurd (omega arith);
}
