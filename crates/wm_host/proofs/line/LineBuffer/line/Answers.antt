use Rattle.wm_host.proofs.Held.{cap-over}
use Rattle.wm_host.proofs.line.LineBuffer.line.Goals as goal

pub returns-then-self : goal.returns-then-self
returns-then-self c =
    rw c.as_slice.ensures.value
    (cap-over c.self.inside.bytes.items c.args.self.now c.self.inside.over c.if-self.true c.self.view_is c.self.invariant.1)
