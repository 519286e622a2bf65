use Rattle.std.proofs.Common.{refl, sym, ◌∙◌}
use Rattle.wm_image.proofs.Soonest.{sooner_first, sooner_second}
use Rattle.wm_image.proofs.savepoints.sooner.Goals as goal

pub returns-in-None-default : goal.returns-in-None-default
returns-in-None-default c = rw c.in-None-default.is-0 refl

pub returns-in-Some-None : goal.returns-in-Some-None
returns-in-Some-None c = rw (c.in-Some-None.is-0, c.in-Some-None.is-1) refl

pub returns-then-is_sooner : goal.returns-then-is_sooner
returns-then-is_sooner c = rw (c.in-Some-Some.is-0, c.in-Some-Some.is-1) (sooner_second c.in-Some-Some.first.now c.in-Some-Some.second.now (sym c.is_sooner.ensures ∙ c.if-is_sooner.true))

pub returns-else-is_sooner : goal.returns-else-is_sooner
returns-else-is_sooner c = rw (c.in-Some-Some.is-0, c.in-Some-Some.is-1) (sooner_first c.in-Some-Some.first.now c.in-Some-Some.second.now (sym c.is_sooner.ensures ∙ c.if-is_sooner.false))
