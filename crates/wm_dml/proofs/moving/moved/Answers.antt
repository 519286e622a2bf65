use Rattle.std.proofs.Common.{◌≡◌, ap, ◌∙◌, rules}
use Rattle.std.specs.List.{list_all}
use Rattle.wm_dml.specs.Moving.{goes_before, moving}
use Rattle.wm_dml.specs.Standing.{change_lasts}
use Rattle.wm_dml.proofs.Moves.{all-sorted, written_pass}
use Rattle.wm_dml.proofs.moving.moved.Goals as goal

pub returns-clause-lasting : goal.returns-clause-lasting
returns-clause-lasting c =
    ap (list_all change_lasts) c.in_ok-sort_changes.ensures ∙ all-sorted change_lasts goes_before c.push_moved.new.changes.items ∙ c.in_ok-push_moved.ensures.lasting

pub returns-clause-all : goal.returns-clause-all
returns-clause-all c = λ holds rows each.
    let written : c.sort_changes.new.changes.items ≡ moving c.args.moves.items = search rules in
    ap (list_all holds) written ∙ written_pass holds c.args.moves.items rows each
