use Rattle.std.proofs.Common.{map}
use Rattle.wm_decided.proofs.Netting.{Nets}
use Rattle.wm_decided.proofs.netted.net_decisions.Given as goal

abbrev pub invariant-loop-key : goal.invariant-loop-key
invariant-loop-key l = Nets l.decisions l.moment l.user (map (λ e. e.0) l.yielded) l.marks.items l.entries.items
