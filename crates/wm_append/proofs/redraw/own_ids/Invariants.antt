use Rattle.std.proofs.Common.{◌≡◌, take}
use Rattle.std.specs.List.{filter}
use Rattle.wm_append.specs.Layers.{view_of}
use Rattle.wm_append.specs.Views.{has_version}
use Rattle.wm_spec.specs.Records.{record_at}
use Rattle.wm_append.proofs.redraw.own_ids.Given as goal

abbrev pub invariant-loop-id : goal.invariant-loop-id
invariant-loop-id l = l.own.items ≡ filter (λ id. has_version (view_of l.layer) l.version (record_at l.image id)) (take l.id-index l.ids)
