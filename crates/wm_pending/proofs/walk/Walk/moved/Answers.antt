use Rattle.std.proofs.Common.{refl}
use Rattle.wm_pending.proofs.Walking.{goes_to}
use Rattle.wm_pending.specs.declared.walk.Walk.{Walk}
use Rattle.wm_pending.proofs.walk.Walk.moved.Goals as goal

pub returns : goal.returns
returns c =
    let w : Walk = record { at = c.args.at; contested = c.left_at.result; base = c.left_at-2.result; parent = c.left_at-3.result; child = c.left_at-4.result } in
    goes_to c.args.self.now w c.args.at refl c.left_at.ensures c.left_at-2.ensures c.left_at-3.ensures c.left_at-4.ensures
