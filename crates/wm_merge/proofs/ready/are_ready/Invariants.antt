use Rattle.std.proofs.Common.{◌≡◌, drop, map}
use Rattle.std.specs.List.{list_all}
use Rattle.wm_graph.specs.Parts.{parts_of}
use Rattle.wm_model.specs.Merged.{is_ready_entry}
use Rattle.wm_state.specs.Editing.{entry_of}
use Rattle.wm_merge.proofs.ready.are_ready.Given as goal

abbrev pub invariant-loop-entry : goal.invariant-loop-entry
invariant-loop-entry l = list_all (is_ready_entry (parts_of l.image)) (map entry_of (drop l.entry-index l.entries)) ≡ list_all (is_ready_entry (parts_of l.image)) (map entry_of l.entries)
