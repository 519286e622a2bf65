use Rattle.std.proofs.Common.{◌+◌, cond, List, [], ◌∷◌, ◌++◌, drop, sym, ap, ◌∙◌}
use Rattle.std.proofs.lemmas.List.{at_drop_more}
use Rattle.std.specs.Ordering.{is_eq}
use Rattle.wm_base.specs.Key.{key_order}
use Rattle.wm_base.specs.declared.value.Value.{Value}
use Rattle.wm_dml.specs.Moving.{shifts_of, shifts_under}
use Rattle.wm_dml.specs.declared.moving.Move.{Move}
use Rattle.wm_dml.proofs.Kept.{one_kept}
use Rattle.wm_dml.proofs.shifts.Shifts.of_moves.Goals as goal

pub loop-one-preserved : goal.loop-one-preserved
loop-one-preserved c = λ key.
    let kept = shifts_under c.loop-one.shifts in
    let rest = drop (c.loop-one.one-index + 1) c.args.moves.now in
    c.loop-one.invariant key
    ∙ ap (λ ss. kept key ++ ss) (at_drop_more (shifts_of key) c.args.moves.now c.loop-one.one-index c.one-item.result c.loop-one-test.true ∙ ap (λ (m : Move). shifts_of key (m ∷ rest)) (sym c.one-item.is))
    ∙ one_kept c.loop-one.shifts c.push.new.self c.one-item.result rest key
    (c.in_ok-push.ensures key ∙ ap (λ (k : List Value). cond (is_eq (key_order k key)) (kept k ++ c.one-item.result.shift ∷ []) (kept key)) c.in_ok-copy.ensures)
