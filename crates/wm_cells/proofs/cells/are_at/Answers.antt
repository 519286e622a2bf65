use Rattle.std.proofs.Common.{sym, ◌∙◌, arith, inl, inr}
use Rattle.wm_cells.proofs.Pairing.{not_as_many, pairing_fails, pairing_more, pairing_all, pairs_at}
use Rattle.wm_cells.specs.Pairs.{is_at}
use Rattle.wm_cells.proofs.cells.are_at.Goals as goal

pub returns-then-places-key : goal.returns-then-places-key
returns-then-places-key c = not_as_many (is_at c.args.values.now) _ _ c.if-places-key.true ∙ pairs_at c.args.values.now c.args.places.now c.args.key.now

pub returns-then-not-is_at : goal.returns-then-not-is_at
returns-then-not-is_at c = pairing_fails c.loop-place.invariant c.in-Some.ensures.steps.0 c.in-Some.ensures.steps.1 (sym c.is_at.ensures ∙ c.if-not-is_at.true) ∙ pairs_at c.args.values.now c.args.places.now c.args.key.now

pub loop-place-preserved : goal.loop-place-preserved
loop-place-preserved c = pairing_more c.loop-place.invariant c.in-Some.ensures.steps.0 c.in-Some.ensures.steps.1 (sym c.is_at.ensures ∙ c.if-not-is_at.false)

pub returns : goal.returns
returns c =
    elim c.in-None.ensures.steps [
      | inl s ↦ pairing_all c.loop-place.invariant s.1.0 ∙ pairs_at c.args.values.now c.args.places.now c.args.key.now
      | inr s ↦ pairing_all c.loop-place.invariant (omega (arith, c.loop-place.invariant.as_many, s.1.0)) ∙ pairs_at c.args.values.now c.args.places.now c.args.key.now
    ]
