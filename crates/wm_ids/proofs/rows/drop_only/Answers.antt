use Rattle.wm_ids.proofs.RowLists.{only_told}
use Rattle.wm_ids.specs.declared.rows.RowIds.{RowIds}
use Rattle.wm_ids.proofs.rows.drop_only.Goals as goal

pub returns : goal.returns
returns c =
    let new : RowIds = record { one = c.remove.new.self; several = c.remove-2.new.self } in
    only_told c.args.id c.args.stamp c.args.rows.now new c.requires c.remove.ensures.sets c.remove-2.ensures.updates.0
