use Rattle.std.proofs.Common.{List, ap, ◌∙◌}
use Rattle.wm_syntax.specs.declared.column.Col.{Col}
use Rattle.wm_select.specs.Query.{in_groups}
use Rattle.wm_select.proofs.GroupLemmas.{front_is}
use Rattle.wm_select.proofs.group.in_groups.Goals as goal

pub returns-in_ok-all-in-len1-up : goal.returns-in_ok-all-in-len1-up
returns-in_ok-all-in-len1-up c =
    c.in_ok-all-in-len1-up.ensures ∙ ap (λ (cols : List Col). in_groups cols c.args.columns.now c.args.rows) (front_is c.args.cols.now c.first-item.result c.in-len1-up.len_at_least c.first-item.is)
