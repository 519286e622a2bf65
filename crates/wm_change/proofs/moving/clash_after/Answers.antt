use Rattle.std.proofs.Common.{List, Some, sym, ap, ◌∙◌}
use Rattle.std.specs.Option.{option_copied}
use Rattle.wm_base.specs.declared.value.Value.{Value}
use Rattle.wm_change.proofs.moving.clash_after.Goals as goal

pub returns-then-equals : goal.returns-then-equals
returns-then-equals c = λ moves m of none same. none m (ap option_copied c.in-Some.is ∙ ap (λ (k : List Value). Some k) (c.equals.ensures.0 c.if-equals.true ∙ sym same))

pub returns : goal.returns
returns c = λ moves m of none same. c.in_ok-found.ensures moves m of same
