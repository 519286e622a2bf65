use Rattle.std.proofs.Common.{append_assoc}
use Rattle.wm_print.proofs.cells.push_locked.Goals as goal

pub returns : goal.returns
returns c = simp (c.in_ok-push_text.ensures, c.in_ok-push_holder.ensures, append_assoc) at c.push_keyed.ensures
