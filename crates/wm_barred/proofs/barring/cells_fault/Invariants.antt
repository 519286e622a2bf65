use Rattle.std.proofs.Common.{◌≡◌, map, drop}
use Rattle.wm_graph.specs.Parts.{parts_of}
use Rattle.wm_model.specs.Step.{cells_of, lock_fault}
use Rattle.wm_state.specs.Drafts.{cells_locked}
use Rattle.wm_state.specs.Editing.{entry_of}
use Rattle.wm_barred.specs.Alone.{outline_alone}
use Rattle.wm_barred.specs.Views.{claim_view}
use Rattle.wm_barred.proofs.barring.cells_fault.Given as goal

abbrev pub invariant-loop-lock : goal.invariant-loop-lock
invariant-loop-lock l = lock_fault (outline_alone (parts_of l.image)) (claim_view l.claim) (map cells_locked (drop l.lock-index l.cells)) ≡ lock_fault (outline_alone (parts_of l.image)) (claim_view l.claim) (map cells_locked l.cells)
