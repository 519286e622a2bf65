use Rattle.std.proofs.Common.{◌≡◌, drop}
use Rattle.std.specs.List.{find}
use Rattle.std.specs.Str.{bytes_eq}
use Rattle.wm_graph.specs.Parts.{as_space}
use Rattle.wm_index.specs.Indexed.{listed}
use Rattle.wm_index.specs.Kinds.{kind_at}
use Rattle.wm_spec.specs.declared.record.space.Space.{Space}
use Rattle.wm_index.proofs.spaces.space_of_name.Given as goal

abbrev pub invariant-loop-id : goal.invariant-loop-id
invariant-loop-id l =
    find (λ (r : Space). bytes_eq l.name r.name) (kind_at as_space (listed l.kept.entries) (drop l.id-index l.ids)) ≡ find (λ (r : Space). bytes_eq l.name r.name) (kind_at as_space (listed l.kept.entries) l.ids)
