-- The point that is meant by a savepoint of a workspace.
use Rattle.std.proofs.Common.{◌≡◌, ℕ, List, Some, refl}
use Rattle.std.specs.List.{find}
use Rattle.std.specs.Str.{bytes_eq}
use Rattle.wm_graph.specs.Parts.{Parts}
use Rattle.wm_points.specs.Recorded.{point_by, saved_by}
use Rattle.wm_spec.specs.declared.record.savepoint.Savepoint.{Savepoint}
use Rattle.wm_spec.specs.declared.record.space.Space.{Space}
use Rattle.wm_state.specs.Standing.{saved_in}
use Rattle.wm_state.specs.State.{Viewpoint}

pub saved_meant : (p : Parts) (v : Viewpoint) (name : List ℕ) (r : Space) (x : Savepoint) → Some r ≡ find (λ (s : Space). bytes_eq v.workspace s.name) p.spaces → v.savepoint ≡ Some name
    → Some x ≡ find (λ (k : Savepoint). bytes_eq name k.name) (saved_in p r.number) → Some (saved_by x) ≡ point_by p v
saved_meant p v name r x space saved found = rw (← space, saved, ← found) refl
