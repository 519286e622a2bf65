use Rattle.wm_heap.proofs.Pending.{length-root_of}
use Rattle.std.proofs.Common.{ap, length, ◌∙◌}
use Rattle.wm_heap.proofs.draft.root_pages.Goals as goal

pub invariant_of-push : goal.invariant_of-push
invariant_of-push c = record { whole = ap length c.in_ok-bytes.ensures.page ∙ length-root_of c.args.count }
