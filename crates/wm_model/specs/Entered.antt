-- What a workspace gains when rows of a table change.
use Rattle.std.specs.Prelude.{ℕ, ◌+◌, List, [], ◌∷◌}
use Rattle.std.specs.Option.{option_map}
use Rattle.wm_dml.specs.declared.change.RowChange.{RowChange}
use Rattle.wm_spec.specs.Lists.{Entry}
use Rattle.wm_spec.specs.declared.record.table.Table.{Table}
use Rattle.wm_state.specs.Editing.{row_value}
use Rattle.wm_state.specs.State.{State}

-- what is written for a change
abbrev pub change_entry : ℕ → ℕ → List ℕ → Table → RowChange → Entry
change_entry stamp moment user t x = record {
  table = t.number;
  key = x.key;
  from = x.period.from;
  till = x.period.till;
  row = option_map row_value x.row;
  stamp = stamp;
  kind = x.kind;
  moment = moment;
  user = user;
}

-- and for all of them, with stamps that follow one another from this one on
abbrev pub entries_from : ℕ → ℕ → List ℕ → Table → List RowChange → List Entry
entries_from stamp moment user t [] = []
entries_from stamp moment user t (x ∷ xs) = change_entry stamp moment user t x ∷ entries_from (stamp + 1) moment user t xs

abbrev pub entries_of : State → List ℕ → Table → List RowChange → List Entry
entries_of s user t changes = entries_from s.durable.next_stamp s.moment user t changes
