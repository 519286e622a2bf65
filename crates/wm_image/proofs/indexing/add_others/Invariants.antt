use Rattle.std.proofs.Common.{take}
use Rattle.wm_image.specs.Indexing.{IsIndexOf, others}
use Rattle.wm_image.proofs.indexing.add_others.Given as goal

abbrev pub invariant-loop-one : goal.invariant-loop-one
invariant-loop-one l = IsIndexOf l.records (others (take l.one-index l.records)) l.index
