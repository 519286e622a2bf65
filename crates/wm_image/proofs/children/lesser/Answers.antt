use Rattle.std.proofs.Common.{refl}
use Rattle.wm_image.proofs.Least.{lesser_first, lesser_second}
use Rattle.wm_image.proofs.children.lesser.Goals as goal

pub returns-in-None-default : goal.returns-in-None-default
returns-in-None-default c = rw c.in-None-default.is-0 refl

pub returns-in-Some-None : goal.returns-in-Some-None
returns-in-Some-None c = rw (c.in-Some-None.is-0, c.in-Some-None.is-1) refl

pub returns-then-first-second : goal.returns-then-first-second
returns-then-first-second c = rw (c.in-Some-Some.is-0, c.in-Some-Some.is-1) (lesser_first c.in-Some-Some.first.now c.in-Some-Some.second.now c.if-first-second.true)

pub returns-else-first-second : goal.returns-else-first-second
returns-else-first-second c = rw (c.in-Some-Some.is-0, c.in-Some-Some.is-1) (lesser_second c.in-Some-Some.first.now c.in-Some-Some.second.now c.if-first-second.false)
