use Rattle.std.proofs.Common.{◌≡◌, drop}
use Rattle.std.specs.Option.{option_copied}
use Rattle.wm_graph.specs.Parts.{as_space}
use Rattle.wm_index.specs.Indexed.{listed}
use Rattle.wm_index.specs.Kinds.{kind_at}
use Rattle.wm_image.specs.Shown.{is_child_from, least, lesser}
use Rattle.wm_image.proofs.children.least_child.Given as goal

abbrev pub invariant-loop-id : goal.invariant-loop-id
invariant-loop-id l =
    lesser (option_copied l.least) (least (is_child_from l.behind.space l.behind.place l.behind.log_length) (kind_at as_space (listed l.kept.entries) (drop l.id-index l.ids)))
    ≡ least (is_child_from l.behind.space l.behind.place l.behind.log_length) (kind_at as_space (listed l.kept.entries) l.ids)
