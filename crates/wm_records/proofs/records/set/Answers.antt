use Rattle.std.proofs.Common.{Some, None}
use Rattle.wm_records.proofs.Listed.{listed-set}
use Rattle.wm_records.proofs.records.set.Goals as goal

pub returns-in_ok-before-in-Some-clause-listed : goal.returns-in_ok-before-in-Some-clause-listed
returns-in_ok-before-in-Some-clause-listed c =
    rw c.in-Some.is
    (listed-set c.args.kept.now.entries c.insert.new.self.entries c.args.id (Some c.in-Some.new) c.requires c.insert.ensures.ordered c.in_ok-before-in-Some.ensures.sets)

pub returns-in-None-clause-listed : goal.returns-in-None-clause-listed
returns-in-None-clause-listed c =
    rw c.in-None.is (listed-set c.args.kept.now.entries c.remove.new.self.entries c.args.id None c.requires c.remove.ensures.ordered c.remove.ensures.sets)
