use Rattle.std.proofs.Common.{◌≡◌, ◌++◌, List}
use Rattle.wm_chunks.specs.Numbers.{AreOrdered}
use Rattle.wm_graph.specs.Parts.{parts_of}
use Rattle.wm_records.specs.Hops.{AreHops}
use Rattle.wm_index.specs.Indexed.{listed}
use Rattle.wm_spec.specs.declared.record.stored.Stored.{Stored}
use Rattle.wm_state.specs.ById.{Ascend}
use Rattle.wm_image.proofs.load.put_all.Given as goal

abbrev pub invariant-loop-one : goal.invariant-loop-one
invariant-loop-one l = record {
  ordered : AreOrdered l.kept.entries;
  are : (rest : List Stored) → Ascend (l.yielded ++ rest) → listed l.kept.entries ≡ l.yielded;
  hops : (rest : List Stored) → Ascend (l.yielded ++ rest) → AreHops (parts_of (listed l.kept.entries)).versions l.hops;
}
