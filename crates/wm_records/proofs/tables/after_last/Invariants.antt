use Rattle.std.proofs.Common.{◌≡◌, max, drop}
use Rattle.wm_graph.specs.Parts.{as_table}
use Rattle.wm_index.specs.Indexed.{listed}
use Rattle.wm_index.specs.Kinds.{kind_at}
use Rattle.wm_state.specs.State.{next_table}
use Rattle.wm_records.proofs.tables.after_last.Given as goal

abbrev pub invariant-loop-id : goal.invariant-loop-id
invariant-loop-id l = max l.next (next_table (kind_at as_table (listed l.kept.entries) (drop l.id-index l.ids))) ≡ next_table (kind_at as_table (listed l.kept.entries) l.ids)
