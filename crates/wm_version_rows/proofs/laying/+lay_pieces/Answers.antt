use Rattle.std.proofs.Common.{refl, sym, ◌∙◌}
use Rattle.std.proofs.lemmas.Bool.{eqb-true}
use Rattle.wm_version_rows.proofs.Along.{held-both, held-whole}
use Rattle.wm_period.specs.Pieces.{held_at}
use Rattle.wm_version_rows.proofs.laying.+lay_pieces.Goals as goal

pub returns-then-is_empty : goal.returns-then-is_empty
returns-then-is_empty n c = λ t less.
    held-whole c.args.image.now c.in_ok-run.count c.args.ids.now c.split_at.result.1.now c.args.version t (held_at c.in_ok-run.run' t) c.split_at.ensures.back
    (eqb-true _ 0 (sym c.is_empty.ensures ∙ c.if-is_empty.true)) (c.in_ok-run.ensures.held t less)

pub returns : goal.returns
returns n c = λ t less.
    held-both c.args.image.now c.in_ok-run.count c.args.ids.now _ c.split_at.result.1.now c.args.version t (held_at c.in_ok-run.run' t) (held_at c.in_ok-under.under t) (held_at c.in_ok-own.own t)
    refl c.split_at.ensures.back (c.in_ok-run.ensures.held t less)
    (held-both c.args.image.now _ c.split_at.result.1.now c.split_at-2.result.0.now c.split_at-2.result.1.now c.args.version t (held_at c.in_ok-upper.upper t) (held_at c.in_ok-lower.lower t)
    (held_at c.in_ok-under.under t) c.split_at-2.ensures.front c.split_at-2.ensures.back (c.in_ok-upper.ensures t less) (c.in_ok-lower.ensures t less) (c.in_ok-under.ensures.cells t))
    (c.in_ok-own.ensures.cells t)
