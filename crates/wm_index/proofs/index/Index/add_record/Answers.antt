use Rattle.wm_index.specs.Sought.{TheCounters, Tables, RowAt}
use Rattle.wm_index.proofs.index.Index.add_record.Goals as goal

pub add_id-requires : goal.add_id-requires
add_id-requires c = c.requires.ascend TheCounters

pub add_id-requires-in-Table : goal.add_id-requires-in-Table
add_id-requires-in-Table c = c.requires.ascend Tables

pub add_row-requires : goal.add_row-requires
add_row-requires c = c.requires.ascend (RowAt c.in-Row.row.stamp)
