-- the records of those that were taken are there, and the next position is the one behind theirs
use Rattle.std.proofs.Common.{◌≡◌, ◌+◌, ◌-◌, length, map}
use Rattle.wm_graph.specs.Parts.{parts_of}
use Rattle.wm_spec.specs.declared.record.Record.TheVariants as records
use Rattle.wm_state.specs.Editing.{entry_of}
use Rattle.wm_state.specs.Entries.{hists_kept, pieces_of}
use Rattle.wm_state.specs.Touching.{marks_of}
use Rattle.wm_replay.proofs.entered.enter.Given as goal

abbrev pub invariant-loop-entry : goal.invariant-loop-entry
invariant-loop-entry l = record {
  pieces : l.entered.pieces.items ≡ pieces_of l.fn.version (map entry_of l.yielded);
  marks : l.entered.marks.items ≡ marks_of (l.fn.space.next_place - 1) l.fn.space.log_length (map entry_of l.yielded);
  hists : l.entered.hists.items ≡ map records.Hist (hists_kept (parts_of l.fn.image).tables l.fn.space.number l.fn.space.log_length (map entry_of l.yielded));
  position : l.position ≡ l.fn.space.log_length + length l.yielded;
}
