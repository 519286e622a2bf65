-- The rows that are shown of the sources of a query fit their columns.
use Rattle.std.proofs.Common.{◌≡◌, ℕ, true, List, [], ◌∷◌, Option, Some, None, ap, ◌∙◌}
use Rattle.std.specs.List.{list_all}
use Rattle.wm_syntax.specs.Trees.{Src}
use Rattle.wm_listing.specs.declared.columns.Column.{Column}
use Rattle.wm_listing.specs.declared.listing.Listing.{Listing as Source}
use Rattle.wm_base.specs.declared.row.Row.{Row}
use Rattle.wm_graph.specs.Parts.{parts_of, table_of}
use Rattle.wm_graph.specs.Rules.{keep_rules}
use Rattle.wm_joining.specs.Kept.{rows_fit}
use Rattle.wm_spec.specs.Conditions.{fits}
use Rattle.wm_spec.specs.declared.record.space.Space.{Space}
use Rattle.wm_spec.specs.declared.record.stored.Stored.{Stored}
use Rattle.wm_spec.specs.declared.record.table.Table.{Table}
use Rattle.wm_typing.specs.Columns.{columns_of_table}
use Rattle.wm_model.proofs.Named.{named_is}
use Rattle.wm_model.specs.Planning.{tables_in}
use Rattle.wm_model.specs.Sources.{AreCompared, AreConflicts, AreDifferent, AreListed, IsRead, IsSeen, Look, Reading, Version, Day, recorded_name, versions_of}
use Rattle.wm_model.specs.Step.{source_name, viewpoint_name}
use Rattle.wm_chosen.proofs.Seen.{shown_fits}
use Rattle.wm_chosen.proofs.Stood.{showing_all}
use Rattle.wm_state.specs.State.{Difference}
use Rattle.wm_view_rows.proofs.Differing.{differences_fit}
use Rattle.wm_view_rows.proofs.Fits.{conflicts_fit, history_fits, locks_fit}
use Rattle.wm_view_rows.specs.Columns.{columns_of_view}
use Rattle.wm_view_rows.specs.Differences.{Versions}
use Rattle.wm_view_rows.specs.Views.{table_sought, view_named}
use Rattle.wm_view_rows.specs.declared.view.View.{View}
use Rattle.wm_view_rows.specs.declared.view.View.TheVariants.{Rows, Conflicts, Differences, History, Locks}
use Rattle.wm_views.proofs.Dated.{dated_fits}

-- what is seen of a table fits the columns of what is shown of it
pub seen_fits : (rs : List Stored) (look : Look) (view : View) (t : Table) (source : List ℕ) (rows : List Row) → keep_rules (parts_of rs) ≡ true → table_of (parts_of rs).tables t.number ≡ Some t → IsSeen (parts_of rs) look view t rows
    → list_all (fits (columns_of_view view source t)) rows ≡ true
seen_fits rs look Rows t source rows rules there are = by_reading (look.reading t) are
  where
    by_reading : (x : Reading) → IsRead (parts_of rs) look.home x t (look.period t) rows → list_all (fits (columns_of_table source t)) rows ≡ true
    by_reading (Version version) is = showing_all (fits (columns_of_table source t)) (parts_of rs) version t (look.period t) rows rules there is (λ key row shown. shown_fits source t (look.period t) key row shown)
    by_reading (Day date) is = dated_fits (parts_of rs) look.home date t (look.period t) source rows rules there is
seen_fits rs look Conflicts t source rows rules there are = by_family look.family are
  where
    by_family : (o : Option (Space × Space)) → AreConflicts (parts_of rs) o t rows → list_all (fits (columns_of_view Conflicts source t)) rows ≡ true
    by_family None none = ap (list_all (fits (columns_of_view Conflicts source t))) none
    by_family (Some x) is = conflicts_fit (parts_of rs) x.0 x.1 t source rows rules there is
seen_fits rs look Differences t source rows rules there are = by_points look.difference are
  where
    by_versions : (d : Difference) (o : Option Versions) → AreCompared (parts_of rs) d o t rows → list_all (fits (columns_of_view Differences source t)) rows ≡ true
    by_versions d None none = ap (list_all (fits (columns_of_view Differences source t))) none
    by_versions d (Some v) is = differences_fit (parts_of rs) v (viewpoint_name d.first) (viewpoint_name d.second) t source rows rules there is

    by_points : (o : Option Difference) → AreDifferent (parts_of rs) o t rows → list_all (fits (columns_of_view Differences source t)) rows ≡ true
    by_points None none = ap (list_all (fits (columns_of_view Differences source t))) none
    by_points (Some d) is = by_versions d (versions_of (parts_of rs) d) is
seen_fits rs look History t source rows rules there are = history_fits (parts_of rs) look.home t source rows rules there are
seen_fits rs look Locks t source rows rules there are = locks_fit (parts_of rs) (recorded_name (parts_of rs)) t source rows rules there are

pub rows_listed : (rs : List Stored) (look : Look) (sources : List Src) (ls : List Source) → keep_rules (parts_of rs) ≡ true → AreListed (parts_of rs) look (tables_in rs) sources ls → rows_fit ls ≡ true
rows_listed rs look [] ls rules are = ap rows_fit are
rows_listed rs look (x ∷ xs) [] rules are = absurd are
rows_listed rs look (x ∷ xs) (l ∷ ls) rules are =
    let is = are.0 in
    rw (listed_fits is.table (named_is rs (table_sought x.table) is.table rules is.named).there is.columns is.rows) (rows_listed rs look xs ls rules are.1)
  where
    listed_fits : (t : Table) → table_of (parts_of rs).tables t.number ≡ Some t → l.columns ≡ columns_of_view (view_named x.table) (source_name x) t → IsSeen (parts_of rs) look (view_named x.table) t l.rows
        → list_all (λ row. fits l.columns row) l.rows ≡ true
    listed_fits t there columns rows =
        ap (λ (cs : List Column). list_all (λ row. fits cs row) l.rows) columns
        ∙ seen_fits rs look (view_named x.table) t (source_name x) l.rows rules there rows
