use Rattle.wm_rows.proofs.Dropping.{Dropping}
use Rattle.wm_rows.specs.Maps.{maps_of}
use Rattle.wm_rows.proofs.counted.drop_all_counted.Given as goal

abbrev pub invariant-loop-version : goal.invariant-loop-version
invariant-loop-version l = Dropping (maps_of l.initial.layers.entries) l.versions l.version-index (maps_of l.layers.entries) (maps_of l.counts.entries)
