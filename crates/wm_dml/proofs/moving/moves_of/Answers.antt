use Rattle.std.proofs.Common.{ap, ◌∙◌}
use Rattle.std.specs.List.{list_all}
use Rattle.wm_syntax.specs.Views.{sets_view}
use Rattle.wm_dml.specs.Moving.{moved_row}
use Rattle.wm_dml.specs.Standing.{is_change}
use Rattle.wm_dml.specs.declared.moving.Move.{Move}
use Rattle.wm_dml.proofs.Moves.{moved_fit}
use Rattle.wm_dml.proofs.moving.moves_of.Goals as goal

pub returns-clause-fit : goal.returns-clause-fit
returns-clause-fit c = λ stand.
    ap (list_all (λ (m : Move). is_change c.args.table.now (moved_row m))) c.in_ok-moves.ensures
    ∙ moved_fit c.args.table.now (sets_view c.args.sets.now) c.args.olds.now c.args.rows.items stand
