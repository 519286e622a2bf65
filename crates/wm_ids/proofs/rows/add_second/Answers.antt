use Rattle.std.proofs.Common.{sym, ap, subst, ◌∙◌}
use Rattle.std.specs.List.Sorted.{IsStrictlySortedBy}
use Rattle.std.specs.Ordering.{nat_cmp}
use Rattle.wm_ids.proofs.IdLists.{one_ascends}
use Rattle.wm_ids.proofs.RowLists.{second_told}
use Rattle.wm_ids.specs.Ids.{placed}
use Rattle.wm_ids.specs.declared.rows.RowIds.{RowIds}
use Rattle.wm_ids.proofs.rows.add_second.Goals as goal

pub add-requires : goal.add-requires
add-requires c = subst (IsStrictlySortedBy nat_cmp) (sym c.one-ids.ensures) (one_ascends c.args.other)

pub returns : goal.returns
returns c =
    let new : RowIds = record { one = c.remove.new.self; several = c.insert.new.self } in
    second_told c.args.id c.args.other c.args.stamp c.args.rows.now new c.add.new.self c.requires (c.in_ok-add.ensures ∙ ap (placed c.args.id) c.one-ids.ensures) c.remove.ensures.sets c.in_ok-insert.ensures.updates.0
