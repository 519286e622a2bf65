use Rattle.wm_rules.proofs.Having.{spaces_more}
use Rattle.wm_rules.proofs.versions.spaces_of.Goals as goal

pub loop-version-preserved : goal.loop-version-preserved
loop-version-preserved c =
    spaces_more c.args.versions.now c.loop-version.version-index _ c.loop-version.spaces c.insert.new.self c.loop-version-test.true c.loop-version.invariant c.in_ok-insert.ensures.updates.0
