use Rattle.std.proofs.Common.{◌∷◌, List, ap, ◌∙◌, map}
use Rattle.wm_listing.specs.declared.columns.Column.{Column}
use Rattle.wm_select.specs.Groups.{value_in}
use Rattle.wm_select.specs.Query.{group_values}
use Rattle.wm_select.proofs.GroupLemmas.{grouped_more, grouped_none, values_found}
use Rattle.wm_select.proofs.group.put_rows.Goals as goal

pub loop-row-init : goal.loop-row-init
loop-row-init c = grouped_none (c.args.first.now ∷ c.args.others.now) c.args.columns.now c.args.groups.now.entries c.requires

pub loop-row-preserved : goal.loop-row-preserved
loop-row-preserved c =
    grouped_more (c.args.first.now ∷ c.args.others.now) c.args.columns.now c.loop-row.yielded c.in-Some.row c.in_ok-key.key c.loop-row.groups.entries c.put_row.new.groups.entries c.loop-row.invariant
    (c.in_ok-key.ensures
    ∙ ap (λ found. map (value_in c.in-Some.row) found) c.in_ok-found.ensures
    ∙ values_found (c.args.first.now ∷ c.args.others.now) c.as_slice.result.now c.in-Some.row
    ∙ ap (λ (columns : List Column). group_values (c.args.first.now ∷ c.args.others.now) columns c.in-Some.row) c.as_slice.ensures)
    c.in_ok-put_row.ensures
