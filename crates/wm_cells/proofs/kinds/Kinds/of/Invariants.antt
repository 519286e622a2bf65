use Rattle.std.proofs.Common.{◌≡◌, map, take}
use Rattle.wm_cells.specs.Lookups.{collected}
use Rattle.wm_graph.specs.Parts.{parts_in}
use Rattle.wm_spec.specs.declared.record.stored.Stored.{Stored}
use Rattle.wm_cells.proofs.kinds.Kinds.of.Given as goal

abbrev pub invariant-loop-stored : goal.invariant-loop-stored
invariant-loop-stored l = collected l.kinds ≡ parts_in (map (λ (s : Stored). s.record) (take l.stored-index l.records))
