use Rattle.wm_records.proofs.Cataloguing.{catalog_still}
use Rattle.wm_index.specs.Indexed.{listed}
use Rattle.wm_records.proofs.records.apply_all.Goals as goal

pub returns-else-touched-clause-tables : goal.returns-else-touched-clause-tables
returns-else-touched-clause-tables c =
    catalog_still (listed c.args.kept.now.entries) (listed c.change_all.new.kept.entries) c.args.catalog.now (c.in_ok-touched.ensures.tables c.if-touched.false) c.requires.tables
