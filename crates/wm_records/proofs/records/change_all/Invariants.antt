use Rattle.std.proofs.Common.{◌≡◌, false}
use Rattle.wm_graph.specs.Parts.{parts_of}
use Rattle.wm_records.specs.Hops.{AreHops}
use Rattle.wm_index.specs.Indexed.{IsIndexed, listed}
use Rattle.wm_state.specs.ById.{applied}
use Rattle.wm_records.proofs.records.change_all.Given as goal

abbrev pub invariant-loop-one : goal.invariant-loop-one
invariant-loop-one l = record {
  indexed : IsIndexed l.kept l.index;
  are : listed l.kept.entries ≡ applied l.yielded (listed l.fn.kept.entries);
  hops : AreHops (parts_of (listed l.kept.entries)).versions l.hops;
  tables : l.touched ≡ false → (parts_of (listed l.kept.entries)).tables ≡ (parts_of (listed l.fn.kept.entries)).tables;
}
