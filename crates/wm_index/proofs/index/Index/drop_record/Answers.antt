use Rattle.wm_index.specs.Sought.{TheCounters, Tables, RowAt}
use Rattle.wm_index.proofs.index.Index.drop_record.Goals as goal

pub drop_id-requires : goal.drop_id-requires
drop_id-requires c = c.requires.ascend TheCounters

pub drop_id-requires-in-Table : goal.drop_id-requires-in-Table
drop_id-requires-in-Table c = c.requires.ascend Tables

pub drop_row-requires : goal.drop_row-requires
drop_row-requires c = c.requires.ascend (RowAt c.in-Row.row.stamp)
