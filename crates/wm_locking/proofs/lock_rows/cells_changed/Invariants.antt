use Rattle.std.proofs.Common.{◌≡◌, true, map}
use Rattle.std.specs.List.{list_all}
use Rattle.wm_state.specs.Drafts.{cells_locked}
use Rattle.wm_locking.specs.Rows.{cells_changed, is_lasting_lock}
use Rattle.wm_locking.proofs.lock_rows.cells_changed.Given as goal

abbrev pub invariant-loop-change : goal.invariant-loop-change
invariant-loop-change l = record {
  exact : map cells_locked l.cells.items ≡ map (cells_changed l.table.number) l.yielded;
  lasting : list_all is_lasting_lock l.cells.items ≡ true;
}
