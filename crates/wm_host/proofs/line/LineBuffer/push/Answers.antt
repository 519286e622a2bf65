use Rattle.std.proofs.Common.{arith}
use Rattle.wm_host.proofs.Held.{held_more-full}
use Rattle.wm_host.proofs.line.LineBuffer.push.Goals as goal

pub returns-else-len-lt-HELD_BYTES-clause-ok : goal.returns-else-len-lt-HELD_BYTES-clause-ok
returns-else-len-lt-HELD_BYTES-clause-ok c =
    held_more-full c.self.inside.bytes.items c.args.self.now c.self.inside.over c.args.byte (omega arith) c.self.view_is
