use Rattle.std.proofs.Common.{arith}
use Rattle.wm_store.proofs.Slotwise.{decoded}
use Rattle.wm_store.proofs.records.record_in.Goals as goal

pub returns : goal.returns
returns c = decoded c.in_ok-found.found c.args.bytes.now (λ i. omega (arith, c.type_inv.bytes i)) c.in_ok-found.ensures
