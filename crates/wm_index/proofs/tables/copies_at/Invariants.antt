use Rattle.std.proofs.Common.{◌≡◌, ◌++◌, drop}
use Rattle.wm_graph.specs.Parts.{as_table}
use Rattle.wm_index.specs.Indexed.{listed}
use Rattle.wm_index.specs.Kinds.{kind_at}
use Rattle.wm_index.proofs.tables.copies_at.Given as goal

abbrev pub invariant-loop-id : goal.invariant-loop-id
invariant-loop-id l = l.tables.items ++ kind_at as_table (listed l.kept.entries) (drop l.id-index l.ids) ≡ kind_at as_table (listed l.kept.entries) l.ids
