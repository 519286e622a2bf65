-- The locks of records that keep the rules are over periods.
use Rattle.std.proofs.Common.{◌≡◌, ℕ, ◌<◌, ◌≤◌, ◌&&◌, nat_lt, nat_le, Bool, true, List, ap, ◌∙◌}
use Rattle.std.proofs.lemmas.Bool.{and_parts, leb-true, ltb-true}
use Rattle.std.specs.List.{filter, list_all}
use Rattle.std.specs.Option.{option_map_or}
use Rattle.wm_base.specs.declared.instant.TheConstants.{END}
use Rattle.wm_base.specs.declared.value.Value.{Value}
use Rattle.wm_graph.specs.Parts.{Parts, table_of}
use Rattle.wm_graph.specs.Rules.{are_cells, is_key_of, keep_rules}
use Rattle.wm_guard.proofs.Alike.{locks_at-listed, makings_differ}
use Rattle.wm_guard.specs.Barring.{comes_before, is_on, locks_at}
use Rattle.wm_spec.specs.declared.record.lock.Lock.{Lock}
use Rattle.wm_state.proofs.Apart.{ruled}
use Rattle.wm_state.proofs.Tests.{all_filter, all_if}
use Rattle.wm_state.specs.Standing.{locks_by_making}
use Rattle.wm_view_rows.proofs.Locked.{all_sorted, each_ruled}
use Rattle.wm_barred.specs.Alone.{is_timed}

each_timed : (p : Parts) → keep_rules p ≡ true → list_all is_timed p.locks ≡ true
each_timed p rules =
    all_if (λ (x : Lock). are_cells (table_of p.tables) x.cells) is_timed
    (λ x is. (and_parts (nat_lt x.cells.from x.cells.till && nat_le x.cells.till END) (option_map_or (is_key_of x.cells.key) (table_of p.tables x.cells.table) _) is).0) p.locks (each_ruled p rules)

-- so are those on a key
pub timed_at : (p : Parts) → keep_rules p ≡ true → (table : ℕ) (key : List Value) → list_all is_timed (locks_at table key (locks_by_making p.locks)) ≡ true
timed_at p rules table key =
    let r = ruled p rules in
    ap (list_all is_timed) (locks_at-listed table key p.locks (makings_differ p r.counters.work r.locks))
    ∙ all_sorted comes_before is_timed (filter (is_on table key) p.locks) (all_filter is_timed (is_on table key) p.locks (each_timed p rules))

-- and one that is
pub begins : (x : Lock) → is_timed x ≡ true → x.cells.from < x.cells.till
begins x is = ltb-true x.cells.from x.cells.till (and_parts (nat_lt x.cells.from x.cells.till) (nat_le x.cells.till END) is).0

pub ends : (x : Lock) → is_timed x ≡ true → x.cells.till ≤ END
ends x is = leb-true x.cells.till END (and_parts (nat_lt x.cells.from x.cells.till) (nat_le x.cells.till END) is).1
