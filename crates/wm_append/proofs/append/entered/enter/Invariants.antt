-- the records of those that were taken are there, and the next position is the one behind theirs
use Rattle.std.proofs.Common.{◌≡◌, ◌+◌, length, map}
use Rattle.wm_spec.specs.declared.record.Record.TheVariants as records
use Rattle.wm_state.specs.Editing.{entry_of}
use Rattle.wm_state.specs.Entries.{pieces_of, rows_in}
use Rattle.wm_state.specs.Touching.{marks_of}
use Rattle.wm_append.specs.Appending.{hists_if}
use Rattle.wm_append.proofs.append.entered.enter.Given as goal

abbrev pub invariant-loop-entry : goal.invariant-loop-entry
invariant-loop-entry l = record {
  rows : l.entered.rows.items ≡ map records.Row (rows_in (map entry_of l.yielded));
  pieces : l.entered.pieces.items ≡ pieces_of l.target.version (map entry_of l.yielded);
  marks : l.entered.marks.items ≡ marks_of l.target.place l.fn.position (map entry_of l.yielded);
  hists : l.entered.hists.items ≡ map records.Hist (hists_if l.target.history l.target.space l.fn.position (map entry_of l.yielded));
  position : l.position ≡ l.fn.position + length l.yielded;
}
