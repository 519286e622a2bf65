use Rattle.wm_syntax.specs.Views.{filter_view}
use Rattle.wm_chosen.proofs.ChosenRows.{are_read}
use Rattle.wm_chosen.proofs.choosing.chosen_rows.Goals as goal

pub returns : goal.returns
returns c =
    are_read c.chosen_of.result c.args.image.now c.args.version c.args.table.now c.args.within.now (filter_view c.args.filter.now) c.in_ok-columns.columns c.into_vec.result.items c.in_ok-rows.rows c.in_ok-columns.ensures
    c.into_vec.ensures (c.in_ok-rows.ensures.chosen (filter_view c.args.filter.now) c.in_ok-key.ensures) c.chosen_of.ensures
