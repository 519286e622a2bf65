use Rattle.std.proofs.Common.{◌≡◌, drop}
use Rattle.std.specs.List.{list_all}
use Rattle.wm_state.specs.Drafts.{can_keep}
use Rattle.wm_state.specs.declared.edit.NewLock.{NewLock}
use Rattle.wm_locking.proofs.lock_rows.are_kept_cells.Given as goal

abbrev pub invariant-loop-lock : goal.invariant-loop-lock
invariant-loop-lock l = list_all (λ (x : NewLock). list_all can_keep x.key) (drop l.lock-index l.cells) ≡ list_all (λ (x : NewLock). list_all can_keep x.key) l.cells
