use Rattle.std.proofs.Common.{take}
use Rattle.wm_codec.specs.Spelling.{column}
use Rattle.wm_codec.specs.Writing.{AppendsEach}
use Rattle.wm_codec.proofs.write.put_each_column.Given as goal

abbrev pub invariant-loop-column : goal.invariant-loop-column
invariant-loop-column l = AppendsEach column l.fn.into l.into (take l.column-index l.columns)
