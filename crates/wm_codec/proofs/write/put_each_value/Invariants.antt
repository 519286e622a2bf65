use Rattle.std.proofs.Common.{take}
use Rattle.wm_codec.specs.Fields.{value}
use Rattle.wm_codec.specs.Writing.{AppendsEach}
use Rattle.wm_codec.proofs.write.put_each_value.Given as goal

abbrev pub invariant-loop-value : goal.invariant-loop-value
invariant-loop-value l = AppendsEach value l.fn.into l.into (take l.value-index l.values)
