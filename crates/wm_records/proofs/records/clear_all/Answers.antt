use Rattle.wm_records.proofs.Cataloguing.{no_catalog}
use Rattle.wm_records.proofs.Hopping.{no_hops}
use Rattle.wm_records.proofs.Pieced.{none_indexed}
use Rattle.wm_records.proofs.records.clear_all.Goals as goal

pub returns-clause-indexed : goal.returns-clause-indexed
returns-clause-indexed c =
    rw (c.replace.ensures.after, c.replace-2.ensures.after)
    (none_indexed c.new.result c.new-2.result c.new.ensures.ordered c.new.ensures.empty c.new-2.ensures.ids c.new-2.ensures.pieces)

pub returns-clause-hops : goal.returns-clause-hops
returns-clause-hops c = rw (c.replace.ensures.after, c.replace-3.ensures.after) (no_hops c.new.result.entries c.new-3.result c.new.ensures.empty c.new-3.ensures)

pub returns-clause-tables : goal.returns-clause-tables
returns-clause-tables c = rw (c.replace.ensures.after, c.replace-4.ensures.after) (no_catalog c.new.result.entries c.new-4.result c.new.ensures.empty c.new-4.ensures)
