use Rattle.std.proofs.Common.{ap, sym, ◌∙◌}
use Rattle.wm_making.specs.Creating.{bad_column}
use Rattle.wm_making.proofs.shape.bad_column.Goals as goal

pub returns-in-Column : goal.returns-in-Column
returns-in-Column c = c.declared_again.ensures ∙ sym (ap (λ item. bad_column c.args.table.now c.args.before.now item) c.in-Column.is)
