use Rattle.std.proofs.Common.{◌≡◌, ◌++◌, take}
use Rattle.wm_views.proofs.sources.push_columns.Given as goal

abbrev pub invariant-loop-column : goal.invariant-loop-column
invariant-loop-column l = l.columns.items ≡ l.initial.columns.items ++ take l.column-index l.more
