use Rattle.std.proofs.Common.{refl}
use Rattle.wm_change.proofs.ChangesWritten.{entries_more, one_more}
use Rattle.wm_change.proofs.write_changes.entries_of.Goals as goal

pub loop-change-preserved : goal.loop-change-preserved
loop-change-preserved c = record {
  entries = entries_more c.args.stamp c.loop-change.stamp c.args.moment c.args.user.now c.args.table.now c.loop-change.yielded c.in-Some.change c.loop-change.entries.items c.push.new.self.items c.in_ok-entry_of.field-0 c.loop-change.invariant.entries
      c.loop-change.invariant.stamp (c.in_ok-entry_of.ensures c.args.table.now refl) c.in_ok-push.ensures.items;
  stamp = one_more c.args.stamp c.loop-change.stamp c.loop-change.yielded c.in-Some.change c.loop-change.invariant.stamp;
}
