use Rattle.std.proofs.Common.{◌≡◌, List, Some, sym, ap, ◌∙◌}
use Rattle.std.proofs.lemmas.Map.Steps.{set_value_same}
use Rattle.std.specs.BTreeMap.{is_at}
use Rattle.std.specs.Option.{option_copied_mut}
use Rattle.wm_period.specs.declared.piece.Piece.{Piece}
use Rattle.wm_rows.proofs.Writing.{on_err}
use Rattle.wm_rows.specs.Rows.{row_order, group_in}
use Rattle.wm_rows.proofs.layer.put_piece.Goals as goal

pub returns-in-Some-clause-err : goal.returns-in-Some-clause-err
returns-in-Some-clause-err c =
    let there : group_in c.args.layer.now.entries c.args.row ≡ Some c.in-Some.pieces.now = sym c.get_mut.ensures.value ∙ ap option_copied_mut c.in-Some.is in
    on_err c.put.result
    (λ (same : c.put.new.self ≡ c.in-Some.pieces.now).
    (c.get_mut.follows.holds c.put.new.self).0
    ∙ set_value_same (is_at (row_order c.args.row)) c.args.layer.now.entries c.put.new.self (there ∙ ap (λ (l : List Piece). Some l) (sym same)))
    c.put.ensures.err
