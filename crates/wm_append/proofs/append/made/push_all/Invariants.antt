-- those that were taken are behind the others
use Rattle.std.proofs.Common.{◌≡◌, ◌++◌}
use Rattle.wm_append.proofs.append.made.push_all.Given as goal

abbrev pub invariant-loop-one : goal.invariant-loop-one
invariant-loop-one l = l.news.items ≡ l.initial.news.items ++ l.yielded
