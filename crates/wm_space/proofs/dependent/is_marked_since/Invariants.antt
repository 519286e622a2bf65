use Rattle.std.proofs.Common.{◌≡◌, nat_le, nat_lt, drop}
use Rattle.std.specs.List.{list_any}
use Rattle.wm_graph.specs.Parts.{as_mark, parts_of}
use Rattle.wm_index.specs.Kinds.{kind_at}
use Rattle.wm_outline.specs.Outline.{outline_by}
use Rattle.wm_spec.specs.declared.record.trace.Trace.{Trace}
use Rattle.wm_space.proofs.dependent.is_marked_since.Given as goal

abbrev pub invariant-loop-id : goal.invariant-loop-id
invariant-loop-id l =
    list_any (λ (m : Trace). nat_le l.place m.place) (kind_at as_mark l.image (drop l.id-index l.id-items)) ≡ nat_lt l.place (outline_by (parts_of l.image) l.space).marks_since
