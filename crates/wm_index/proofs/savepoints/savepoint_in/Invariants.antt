use Rattle.std.proofs.Common.{◌≡◌, ◌==◌, drop}
use Rattle.std.specs.List.{find}
use Rattle.wm_graph.specs.Parts.{as_savepoint}
use Rattle.wm_index.specs.Indexed.{listed}
use Rattle.wm_index.specs.Kinds.{kind_at}
use Rattle.wm_spec.specs.declared.record.savepoint.Savepoint.{Savepoint}
use Rattle.wm_index.proofs.savepoints.savepoint_in.Given as goal

abbrev pub invariant-loop-id : goal.invariant-loop-id
invariant-loop-id l =
    find (λ (r : Savepoint). r.space == l.space) (kind_at as_savepoint (listed l.kept.entries) (drop l.id-index l.ids)) ≡ find (λ (r : Savepoint). r.space == l.space) (kind_at as_savepoint (listed l.kept.entries) l.ids)
