-- Whether decisions can be committed, by tests of the records.
use Rattle.std.specs.Prelude.{ℕ, ◌&&◌, ◌==◌, nat_le, nat_lt, Bool, true, false, List}
use Rattle.std.specs.List.{list_all}
use Rattle.std.specs.Option.{option_map_or}
use Rattle.std.specs.Ordering.{is_eq}
use Rattle.wm_base.specs.Key.{key_order}
use Rattle.wm_base.specs.declared.instant.TheConstants.{END}
use Rattle.wm_base.specs.declared.row.Row.{Row}
use Rattle.wm_base.specs.declared.value.Value.{Value}
use Rattle.wm_graph.specs.Parts.{Parts, row_of, table_of}
use Rattle.wm_graph.specs.Rules.{is_key, is_key_of, is_row_of, key_of}
use Rattle.wm_net.specs.Listed.{Stretch}
use Rattle.wm_spec.specs.Lists.{Told}
use Rattle.wm_spec.specs.declared.record.row.RowRecord.{RowRecord}
use Rattle.wm_spec.specs.declared.record.table.Table.{Table}
use Rattle.wm_state.specs.Drafts.{can_keep}
use Rattle.wm_state.specs.State.{Decision}

-- the row of a stamp is there, of a table and with these values
abbrev pub has_row : Parts → ℕ → ℕ → List Value → Bool
has_row p table stamp values = option_map_or (λ (r : RowRecord). (r.table == table) && is_eq (key_order r.values values)) (row_of p.rows stamp) false

-- a row fits a table and has the key, and a record can keep it
abbrev pub fits_key : Table → List Value → List Value → Bool
fits_key t key values = (is_row_of values t && is_key key (key_of t values)) && list_all can_keep values

-- what a decision copies to a key can be written again
abbrev pub is_restored : Parts → ℕ → Table → ℕ → List Value → Stretch Told → Bool
is_restored p next t table key s =
    (t.versioned && nat_lt s.value.stamp next) && option_map_or (λ (row : Row). fits_key t key row.values && has_row p table s.value.stamp row.values) s.value.row true

-- the cells of a decision can be marked, and what it copies can be written again, where this stamp is the next
abbrev pub is_staged : Parts → ℕ → Decision → Bool
is_staged p next d =
    (nat_lt d.from d.till && nat_le d.till END)
    && option_map_or (λ (t : Table). (is_key_of d.key t && list_all can_keep d.key) && list_all (is_restored p next t d.table d.key) d.copied) (table_of p.tables d.table) false
