use Rattle.std.proofs.Common.{◌∷◌, List, subst, ◌∙◌}
use Rattle.wm_base.specs.declared.row.Row.{Row}
use Rattle.wm_select.specs.Groups.{AreGrouped}
use Rattle.wm_select.proofs.GroupLemmas.{grouped_again, groups_are}
use Rattle.wm_select.proofs.group.by_columns.Goals as goal

pub returns : goal.returns
returns c =
    c.in_ok-all.ensures
    ∙ groups_are c.args.first.now c.args.others.now c.args.columns.now c.args.rows c.sort_groups.new.groups.entries c.in_ok-sort_groups.ensures.ordered
    (grouped_again (c.args.first.now ∷ c.args.others.now) c.args.columns.now c.args.rows c.put_rows.new.groups.entries c.sort_groups.new.groups.entries
    (subst (λ (rows : List Row). AreGrouped (c.args.first.now ∷ c.args.others.now) c.args.columns.now rows c.put_rows.new.groups.entries) c.into_vec.ensures c.in_ok-put_rows.ensures)
    c.in_ok-sort_groups.ensures.same)
