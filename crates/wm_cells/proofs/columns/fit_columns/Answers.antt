use Rattle.std.proofs.Common.{sym, ◌∙◌, arith, inl, inr}
use Rattle.wm_cells.proofs.Pairing.{not_as_many, pairing_fails, pairing_more, pairing_all, pairs_fit}
use Rattle.wm_graph.specs.Rules.{fits_column}
use Rattle.wm_cells.proofs.columns.fit_columns.Goals as goal

pub returns-then-columns-values : goal.returns-then-columns-values
returns-then-columns-values c = not_as_many fits_column _ _ c.if-columns-values.true ∙ pairs_fit c.args.columns.now c.args.values.now

pub returns-then-not-fits_column : goal.returns-then-not-fits_column
returns-then-not-fits_column c = pairing_fails c.loop-column.invariant c.in-Some.ensures.steps.0 c.in-Some.ensures.steps.1 (sym c.fits_column.ensures ∙ c.if-not-fits_column.true) ∙ pairs_fit c.args.columns.now c.args.values.now

pub loop-column-preserved : goal.loop-column-preserved
loop-column-preserved c = pairing_more c.loop-column.invariant c.in-Some.ensures.steps.0 c.in-Some.ensures.steps.1 (sym c.fits_column.ensures ∙ c.if-not-fits_column.false)

pub returns : goal.returns
returns c =
    elim c.in-None.ensures.steps [
      | inl s ↦ pairing_all c.loop-column.invariant s.1.0 ∙ pairs_fit c.args.columns.now c.args.values.now
      | inr s ↦ pairing_all c.loop-column.invariant (omega (arith, c.loop-column.invariant.as_many, s.1.0)) ∙ pairs_fit c.args.columns.now c.args.values.now
    ]
