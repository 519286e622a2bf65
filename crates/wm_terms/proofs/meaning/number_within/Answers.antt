use Rattle.std.proofs.Common.{◌∙◌}
use Rattle.wm_terms.proofs.Numbers.{too_large}
use Rattle.wm_terms.proofs.meaning.number_within.Goals as goal

pub returns-then-number-digit-clause-value : goal.returns-then-number-digit-clause-value
returns-then-number-digit-clause-value c =
    too_large c.args.digits.now c.loop-b.number c.loop-b.b-index c.from-digit.result c.loop-b.invariant.same c.loop-b-test.true (c.from-digit.ensures ∙ c.saturating_sub.ensures) c.if-number-digit.true
