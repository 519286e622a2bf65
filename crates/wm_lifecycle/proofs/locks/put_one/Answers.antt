use Rattle.std.proofs.Common.{ℕ, List, ap, ◌∙◌}
use Rattle.wm_lifecycle.proofs.Unlocked.{more-told}
use Rattle.wm_state.specs.Batches.{is_dropped}
use Rattle.wm_lifecycle.proofs.locks.put_one.Goals as goal

pub returns : goal.returns
returns c = λ k. ap (λ (ids : List ℕ). is_dropped ids k) c.in_ok-insert.ensures.keys ∙ more-told c.args.id c.args.set.now.keys k
