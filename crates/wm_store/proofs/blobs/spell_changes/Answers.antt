use Rattle.wm_store.proofs.Slotwise.{spell_fits, spell_more}
use Rattle.wm_store.proofs.blobs.spell_changes.Goals as goal

pub spell_change-requires : goal.spell_change-requires
spell_change-requires c = spell_fits c.args.changes.now c.loop-change.change-index c.change-item.result c.loop-change-test.true c.change-item.is c.loop-change.invariant.fit

pub loop-change-preserved : goal.loop-change-preserved
loop-change-preserved c =
    spell_more c.loop-change.blobs c.push.new.self c.args.changes.now c.loop-change.change-index c.change-item.result c.in_ok-spell_change.field-0 c.loop-change-test.true c.change-item.is c.loop-change.invariant
    c.in_ok-spell_change.ensures.blob c.in_ok-push.ensures.ok c.in_ok-spell_change.ensures.spelled
