use Rattle.std.proofs.Common.{◌≡◌, ◌++◌, map, drop}
use Rattle.wm_graph.specs.Parts.{parts_of}
use Rattle.wm_model.specs.Step.{cells_of, lock_parts}
use Rattle.wm_state.specs.Drafts.{cells_locked}
use Rattle.wm_state.specs.Editing.{entry_of}
use Rattle.wm_barred.specs.Alone.{outline_alone}
use Rattle.wm_barred.specs.Views.{holder_view}
use Rattle.wm_barred.proofs.parts.cell_parts.Given as goal

abbrev pub invariant-loop-lock : goal.invariant-loop-lock
invariant-loop-lock l = l.parts.items ++ lock_parts (outline_alone (parts_of l.image)) (holder_view l.holder) (map cells_locked (drop l.lock-index l.cells)) ≡ lock_parts (outline_alone (parts_of l.image)) (holder_view l.holder) (map cells_locked l.cells)
