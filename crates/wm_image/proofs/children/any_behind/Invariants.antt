use Rattle.std.proofs.Common.{◌≡◌, drop}
use Rattle.std.specs.List.{list_any}
use Rattle.wm_graph.specs.Parts.{as_savepoint}
use Rattle.wm_index.specs.Indexed.{listed}
use Rattle.wm_index.specs.Kinds.{kind_at}
use Rattle.wm_image.specs.Shown.{is_saved_behind}
use Rattle.wm_image.proofs.children.any_behind.Given as goal

abbrev pub invariant-loop-id : goal.invariant-loop-id
invariant-loop-id l =
    list_any (is_saved_behind l.behind.space l.behind.place l.behind.log_length) (kind_at as_savepoint (listed l.kept.entries) (drop l.id-index l.ids))
    ≡ list_any (is_saved_behind l.behind.space l.behind.place l.behind.log_length) (kind_at as_savepoint (listed l.kept.entries) l.ids)
