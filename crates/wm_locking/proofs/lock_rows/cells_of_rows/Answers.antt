use Rattle.std.proofs.Common.{map, ap, ◌∙◌}
use Rattle.std.proofs.lemmas.Result.{IfOk-weaker}
use Rattle.wm_dml.specs.Changing.{gone}
use Rattle.wm_ordering.proofs.KeyLemmas.{map_map}
use Rattle.wm_locking.specs.Rows.{cells_changed}
use Rattle.wm_locking.proofs.lock_rows.cells_of_rows.Goals as goal

pub returns-clause-exact : goal.returns-clause-exact
returns-clause-exact c =
    IfOk-weaker c.cells_changed.result _ _
    (λ cells exact. exact ∙ ap (map (cells_changed c.args.table.now.number)) c.in_ok-changes.ensures.exact ∙ map_map (gone c.args.table.now c.args.within.now) (cells_changed c.args.table.now.number) c.args.rows.now) c.cells_changed.ensures.exact
