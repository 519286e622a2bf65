use Rattle.std.proofs.Common.{◌≡◌, take}
use Rattle.wm_dml.specs.Moving.{news_of}
use Rattle.wm_dml.proofs.moving.new_periods.Given as goal

abbrev pub invariant-loop-shift : goal.invariant-loop-shift
invariant-loop-shift l = l.news.items ≡ news_of (take l.shift-index l.shifts)
