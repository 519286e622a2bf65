use Rattle.std.proofs.Common.{◌≡◌, ◌++◌}
use Rattle.wm_ids.proofs.Since.{ids_ahead}
use Rattle.wm_ids.specs.Ids.{ids_since}
use Rattle.wm_ids.proofs.keyed.ids_since.Given as goal

abbrev pub invariant-loop-place : goal.invariant-loop-place
invariant-loop-place l = l.ids.items ++ ids_ahead l.space l.place-iterator ≡ ids_since l.places.keys l.space l.from
