use Rattle.std.proofs.Common.{sym, ◌∙◌, arith, inl, inr}
use Rattle.wm_cells.proofs.Pairing.{not_as_many, pairing_fails, pairing_more, pairing_all, pairs_typed}
use Rattle.wm_graph.specs.Rules.{is_typed}
use Rattle.wm_cells.proofs.cells.are_typed.Goals as goal

pub returns-then-places-values : goal.returns-then-places-values
returns-then-places-values c = not_as_many (is_typed c.args.columns.now) _ _ c.if-places-values.true ∙ pairs_typed c.args.columns.now c.args.places.now c.args.values.now

pub returns-then-not-is_typed : goal.returns-then-not-is_typed
returns-then-not-is_typed c = pairing_fails c.loop-place.invariant c.in-Some.ensures.steps.0 c.in-Some.ensures.steps.1 (sym c.is_typed.ensures ∙ c.if-not-is_typed.true) ∙ pairs_typed c.args.columns.now c.args.places.now c.args.values.now

pub loop-place-preserved : goal.loop-place-preserved
loop-place-preserved c = pairing_more c.loop-place.invariant c.in-Some.ensures.steps.0 c.in-Some.ensures.steps.1 (sym c.is_typed.ensures ∙ c.if-not-is_typed.false)

pub returns : goal.returns
returns c =
    elim c.in-None.ensures.steps [
      | inl s ↦ pairing_all c.loop-place.invariant s.1.0 ∙ pairs_typed c.args.columns.now c.args.places.now c.args.values.now
      | inr s ↦ pairing_all c.loop-place.invariant (omega (arith, c.loop-place.invariant.as_many, s.1.0)) ∙ pairs_typed c.args.columns.now c.args.places.now c.args.values.now
    ]
