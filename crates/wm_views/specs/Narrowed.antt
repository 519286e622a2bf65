-- What is listed of the sources of a query whose conditions fix the key of some of them.
use Rattle.std.specs.Prelude.{ℕ, ◌≡◌, ◌+◌, ◌||◌, Bool, true, false, List, [], ◌∷◌, length, Option, Some, None, is_none, IfSome}
use Rattle.wm_listing.specs.declared.listing.Listing.{Listing as Source}
use Rattle.wm_base.specs.Period.{Span}
use Rattle.wm_base.specs.declared.row.Row.{Row}
use Rattle.wm_base.specs.declared.value.Value.{Value}
use Rattle.wm_syntax.specs.Trees.{Src}
use Rattle.wm_graph.specs.Parts.{Parts}
use Rattle.wm_version_rows.specs.Listing.{IsKeyShowing}
use Rattle.wm_model.specs.Sources.{IsSeen, Look, Reading, Version, Day}
use Rattle.wm_model.specs.Step.{source_name, table_asked}
use Rattle.wm_spec.specs.declared.record.table.Table.{Table}
use Rattle.wm_state.specs.Listing.{IsShowing}
use Rattle.wm_view_rows.specs.Columns.{columns_of_view}
use Rattle.wm_view_rows.specs.Views.{view_named}
use Rattle.wm_view_rows.specs.declared.view.View.{View}
use Rattle.wm_view_rows.specs.declared.view.View.TheVariants.{Rows, Conflicts, Differences, History, Locks}
use Rattle.wm_chosen.specs.Keyed.{FixesKeyAt}

-- ---- what is listed

abbrev pub is_version : Reading → Bool
is_version (Version number) = true
is_version (Day date) = false

-- the rows of a table may be listed by one key where a version is read; a view is listed whole
abbrev pub may_narrow : View → Reading → Option (List Value) → Bool
may_narrow Rows reading key = is_version reading || is_none key
may_narrow Conflicts reading key = is_none key
may_narrow Differences reading key = is_none key
may_narrow History reading key = is_none key
may_narrow Locks reading key = is_none key

-- what a version shows of a table in a period, or of one key of it
abbrev pub AreHeld : Parts → ℕ → Table → Span → Option (List Value) → List Row → Type 0
AreHeld p version t period None rows = IsShowing p version t.number t.valid period rows
AreHeld p version t period (Some key) rows = IsKeyShowing p version t.number t.valid period key rows

-- what is read by one key
abbrev pub IsKeyRead : Parts → Reading → Table → Span → List Value → List Row → Type 0
IsKeyRead p (Version version) t period key rows = IsKeyShowing p version t.number t.valid period key rows
IsKeyRead p (Day date) t period key rows = ⊥

-- what is seen of a table, or the rows of one key
abbrev pub AreShown : Parts → Look → View → Table → Option (List Value) → List Row → Type 0
AreShown p look Rows t (Some key) rows = IsKeyRead p (look.reading t) t (look.period t) key rows
AreShown p look Conflicts t (Some key) rows = ⊥
AreShown p look Differences t (Some key) rows = ⊥
AreShown p look History t (Some key) rows = ⊥
AreShown p look Locks t (Some key) rows = ⊥
AreShown p look view t None rows = IsSeen p look view t rows

-- a source behind so many columns has the columns of what it shows of its table and the rows; those of one key only where each tuple that is kept
-- has this key there
pub record IsListedFor (p : Parts) (look : Look) (tables : List Table) (keeps : Row → Bool) (before : ℕ) (x : Src) (l : Source) : Type 0 where
  pub table : Table
  pub named : table_asked tables x ≡ Some table
  pub columns : l.columns ≡ columns_of_view (view_named x.table) (source_name x) table
  pub key : Option (List Value)
  pub fixed : IfSome key (FixesKeyAt table keeps before)
  pub rows : AreShown p look (view_named x.table) table key l.rows

-- so each of them
abbrev pub AreListedFor : Parts → Look → List Table → (Row → Bool) → ℕ → List Src → List Source → Type 0
AreListedFor p look tables keeps before (x ∷ xs) (l ∷ ls) =
    IsListedFor p look tables keeps before x l × AreListedFor p look tables keeps (before + length l.columns) xs ls
AreListedFor p look tables keeps before (x ∷ xs) [] = ⊥
AreListedFor p look tables keeps before [] ls = ls ≡ []
