-- What is known of the row that INSERT adds.
use Rattle.std.proofs.Common.{◌≡◌, ℕ, ◌<◌, ◌≤◌, true, List, ◌∷◌, [], Option, Some, None, unwrap_or, refl, ap, ◌∙◌}
use Rattle.std.proofs.lemmas.Bool.{and_from, and_parts, le-leb, lt-ltb}
use Rattle.std.specs.List.{list_all}
use Rattle.wm_base.specs.Period.{Span}
use Rattle.wm_syntax.specs.Trees.{Expr}
use Rattle.wm_syntax.specs.Views.{exprs_view}
use Rattle.wm_base.specs.declared.value.Value.{Value}
use Rattle.wm_dml.proofs.Changed.{same_key}
use Rattle.wm_dml.specs.Changing.{added, row_key}
use Rattle.wm_base.specs.declared.instant.TheConstants.{END}
use Rattle.wm_dml.specs.Standing.{change_lasts, is_change}
use Rattle.wm_graph.specs.Parts.{parts_of}
use Rattle.wm_graph.specs.Rules.{has_key, keep_rules, is_key, is_row_of, is_key_of, is_table, key_of}
use Rattle.wm_making.specs.Inserting.{insert_fault}
use Rattle.wm_making.specs.Rows.{row_of, MayStand}
use Rattle.wm_model.proofs.Named.{named_is, ready_keyed}
use Rattle.wm_model.proofs.Newest.{IsGood}
use Rattle.wm_spec.specs.declared.record.stored.Stored.{Stored}
use Rattle.wm_spec.specs.declared.record.table.Table.{Table}
use Rattle.wm_change.proofs.Rowing.{insert_faults}
use Rattle.wm_chosen.specs.Chosen.{is_keyed_row}
use Rattle.wm_change.specs.Inserting.{IsFine}
use Rattle.wm_change.specs.declared.insert.Insertion.{Insertion}

-- the statement is in order
pub is_good : (rs : List Stored) (i : Insertion) → keep_rules (parts_of rs) ≡ true → IsFine rs i → IsGood rs i.name.now (insert_faults i.names.now (exprs_view i.values.now)) i.table.now
is_good rs i rules fine = record { ready = record { rules = rules; some = fine.there; on = fine.on }; good = fine.good }

-- a row that may stand in the table has its key
stands_keyed : (t : Table) (row : List Value) → MayStand t row → is_keyed_row t row ≡ true
stands_keyed t row may = and_from (is_row_of row t) (is_key_of (row_key t row) t) may.fits (ap (λ (o : Option (List Value)). is_key_of (unwrap_or o []) t) may.key ∙ may.key_fits)

-- the row that the statement gives has its key, where it may stand in a table that is in order and has a key
pub row_keyed : (rs : List Stored) (i : Insertion) (row : List Value) → keep_rules (parts_of rs) ≡ true → IsFine rs i → row_of i.table.now i.names.now (exprs_view i.values.now) ≡ Some row
    → ((names : Option (List (List ℕ))) (xs : List Expr) → insert_fault i.table.now names xs ≡ None → row_of i.table.now names xs ≡ Some row → is_table i.table.now ≡ true → has_key i.table.now ≡ true → MayStand i.table.now row)
    → is_keyed_row i.table.now row ≡ true
row_keyed rs i row rules fine is may =
    let well : is_table i.table.now ≡ true = (named_is rs i.name.now i.table.now rules fine.there).well in
    stands_keyed i.table.now row (may i.names.now (exprs_view i.values.now) fine.good is well (ready_keyed i.table.now well fine.on))

-- a row with its key is a change of the table
pub added_fits : (t : Table) (period : Span) (row : List Value) → is_keyed_row t row ≡ true → list_all (is_change t) (added t period row ∷ []) ≡ true
added_fits t period row keyed =
    let h = and_parts (is_row_of row t) (is_key_of (row_key t row) t) keyed in
    and_from (is_change t (added t period row)) true
    (and_from (is_key_of (row_key t row) t) _ h.1 (and_from (is_row_of row t) (is_key (row_key t row) (key_of t row)) h.0 (same_key t row h.1))) refl

-- and lasts where its period does
pub added_lasts : (t : Table) (period : Span) (row : List Value) → period.from < period.till → period.till ≤ END → list_all change_lasts (added t period row ∷ []) ≡ true
added_lasts t period row order bound = rw (lt-ltb period.from period.till order, le-leb period.till END bound) refl
