use Rattle.std.proofs.Common.{refl, sym, ◌∙◌}
use Rattle.std.proofs.lemmas.Bool.{eqb-true}
use Rattle.wm_history.proofs.Halving.{last_both, last_whole}
use Rattle.wm_history.proofs.layers.+lay_written.Goals as goal

pub returns-then-is_empty : goal.returns-then-is_empty
returns-then-is_empty n c = λ t.
    last_whole c.in_ok-run.count c.args.written.now c.split_at.result.1.now c.in_ok-run.run' t c.split_at.ensures.back (eqb-true _ 0 (sym c.is_empty.ensures ∙ c.if-is_empty.true)) (c.in_ok-run.ensures.held t)

pub returns : goal.returns
returns n c = λ t.
    last_both c.in_ok-run.count c.args.written.now _ c.split_at.result.1.now c.in_ok-run.run' c.in_ok-over.over c.in_ok-laid.laid t refl c.split_at.ensures.back (c.in_ok-run.ensures.held t)
    (last_both _ c.split_at.result.1.now c.split_at-2.result.0.now c.split_at-2.result.1.now c.in_ok-lower.lower c.in_ok-upper.upper c.in_ok-over.over t c.split_at-2.ensures.front c.split_at-2.ensures.back
    (c.in_ok-lower.ensures t) (c.in_ok-upper.ensures t) (c.in_ok-over.ensures.cells t))
    (c.in_ok-laid.ensures.cells t)
