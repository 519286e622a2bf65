-- The rows that a condition chooses of a table.
use Rattle.std.proofs.Common.{◌≡◌, ℕ, Bool, true, false, List, [], ◌∷◌, Option, Some, Result, Ok, Err, IfOk, Vec, Global, sym, ap, ◌∙◌, None, refl}
use Rattle.std.specs.Prelude.{IfSome}
use Rattle.std.specs.List.{filter, list_all}
use Rattle.wm_base.specs.Period.{Span, always, overlaps}
use Rattle.wm_listing.specs.declared.columns.Column.{Column}
use Rattle.wm_base.specs.declared.memory.Memory.{Memory}
use Rattle.wm_base.specs.declared.row.Row.{Row}
use Rattle.wm_base.specs.declared.value.Value.{Value}
use Rattle.wm_syntax.specs.Trees.{Cond}
use Rattle.wm_dml.specs.Changing.{all_overlap, chosen, meets, own_columns, row_period}
use Rattle.wm_graph.specs.Parts.{parts_of, table_of}
use Rattle.wm_graph.specs.Rules.{keep_rules}
use Rattle.wm_joining.specs.Kept.{where_of}
use Rattle.wm_spec.specs.Conditions.{fits, typed}
use Rattle.wm_spec.specs.declared.record.stored.Stored.{Stored}
use Rattle.wm_spec.specs.declared.record.table.Table.{Table}
use Rattle.wm_state.specs.Listing.{IsShowing}
use Rattle.wm_state.proofs.Tests.{all_filter}
use Rattle.wm_chosen.proofs.Seen.{shown_fits, shown_keyed, shown_overlaps}
use Rattle.wm_chosen.proofs.Stood.{showing_all}
use Rattle.wm_chosen.specs.Chosen.{AreChosen, are_keyed, is_keyed_shown}
use Rattle.wm_chosen.specs.Keyed.{FixesKey}
use Rattle.wm_typing.specs.Types.{is_filter_typed}

-- those on which the condition is true that stands for WHERE are those that WHERE chooses
pub kept_so : (r : Result (Vec Row Global) Memory) (columns : List Column) (cond : Cond) (condition : Option Cond) (rows : List Row) → cond ≡ where_of condition
    → IfOk r (λ kept. (t : Table) (asked : Option Cond) → columns ≡ own_columns t → cond ≡ where_of asked → kept.items ≡ chosen t asked rows) → IfOk r (λ kept. (t : Table) → columns ≡ own_columns t → kept.items ≡ chosen t condition rows)
kept_so (Ok kept) columns cond condition rows is so = λ t own. so t condition own is
kept_so (Err e) columns cond condition rows is so = tt

-- where there is no condition, all are chosen
pub all_chosen : (t : Table) (columns : List Column) (rows : List Row) → filter (meets None columns) rows ≡ rows
all_chosen t columns [] = refl
all_chosen t columns (row ∷ rows) = ap (λ rest. row ∷ rest) (all_chosen t columns rows)

pub kept_all : (t : Table) (condition : Option Cond) (rows : List Row) → condition ≡ None → rows ≡ chosen t condition rows
kept_all t condition rows none = sym (ap (λ c. chosen t c rows) none ∙ all_chosen t (own_columns t) rows)

-- rows that are shown fit the columns of their table
pub all_fit : (r : Result (List Row) Memory) (rs : List Stored) (version : ℕ) (t : Table) (within : Span) → keep_rules (parts_of rs) ≡ true → table_of (parts_of rs).tables t.number ≡ Some t
    → IfOk r (λ rows. IsShowing (parts_of rs) version t.number t.valid within rows) → IfOk r (λ rows. list_all (fits (own_columns t)) rows ≡ true)
all_fit (Ok rows) rs version t within rules there is = showing_all (fits (own_columns t)) (parts_of rs) version t within rows rules there is (λ key row is. shown_fits t.name t within key row is)
all_fit (Err e) rs version t within rules there is = tt

-- a condition chooses of them
pub all_are : (r : Result (List Row) Memory) (rs : List Stored) (version : ℕ) (t : Table) (within : Span) (key : Option (List Value)) → IfOk r (λ rows. IsShowing (parts_of rs) version t.number t.valid within rows)
    → IfOk r (λ rows. (condition : Option Cond) → IfSome key (FixesKey t condition) → AreChosen rs version t within condition (chosen t condition rows))
all_are (Ok rows) rs version t within key is = λ condition fixed. record { all = rows; listed = is; are = refl }
all_are (Err e) rs version t within key is = tt

-- what is chosen of rows that are read is what is chosen
pub are_read : (r : Result (Vec Row Global) Memory) (rs : List Stored) (version : ℕ) (t : Table) (within : Span) (condition : Option Cond) (columns : List Column) (rows shown : List Row) → columns ≡ own_columns t → rows ≡ shown
    → AreChosen rs version t within condition (chosen t condition shown) → IfOk r (λ kept. (t : Table) → columns ≡ own_columns t → kept.items ≡ chosen t condition rows)
    → IfOk r (λ kept. AreChosen rs version t within condition kept.items)
are_read (Ok kept) rs version t within condition columns rows shown own same is so = record { all = is.all; listed = is.listed; are = so t own ∙ ap (chosen t condition) same ∙ is.are }
are_read (Err e) rs version t within condition columns rows shown own same is so = tt

-- are rows of the table, each under a key of it, with its period where the table has valid time
pub chosen_keyed : (rs : List Stored) (version : ℕ) (t : Table) (within : Span) (condition : Option Cond) (rows : List Row) → keep_rules (parts_of rs) ≡ true → table_of (parts_of rs).tables t.number ≡ Some t
    → AreChosen rs version t within condition rows → are_keyed t rows ≡ true
chosen_keyed rs version t within condition rows rules there are =
    ap (list_all (is_keyed_shown t)) are.are
    ∙ all_filter (is_keyed_shown t) (meets condition (own_columns t)) are.all
    (showing_all (is_keyed_shown t) (parts_of rs) version t within are.all rules there are.listed (λ key row is. shown_keyed t within key row is))

-- each of them holds somewhere in the period, which is all of time where the table has no valid time
pub chosen_overlap : (rs : List Stored) (version : ℕ) (t : Table) (within : Span) (condition : Option Cond) (rows : List Row) → keep_rules (parts_of rs) ≡ true → table_of (parts_of rs).tables t.number ≡ Some t
    → (t.valid ≡ false → within ≡ always) → AreChosen rs version t within condition rows → all_overlap t within rows ≡ true
chosen_overlap rs version t within condition rows rules there plain are =
    ap (all_overlap t within) are.are
    ∙ all_filter overlapping (meets condition (own_columns t)) are.all
    (showing_all overlapping (parts_of rs) version t within are.all rules there are.listed (λ key row is. shown_overlaps t within key row plain is))
  where
    overlapping : Row → Bool
    overlapping r = overlaps (row_period t r) within

-- the condition of a query that is typed, which is 1 = 1 where it has none
pub where_typed : (filter : Option Cond) (columns : List Column) → is_filter_typed columns filter ≡ true → typed (where_of filter) columns ≡ true
unfolding typed
where_typed None columns is = refl
where_typed (Some condition) columns is = is
