-- What is shown of the differences of two points of a table: by what stands at the points, and by versions.
use Rattle.std.specs.Prelude.{ℕ, ◌≡◌, ◌&&◌, ◌==◌, Bool, not, List, ◌++◌, Option}
use Rattle.std.specs.Bool.{then_some}
use Rattle.std.specs.List.{filter, flat_map}
use Rattle.std.specs.Option.{option_and_then}
use Rattle.wm_base.specs.declared.row.Row.{Row}
use Rattle.wm_graph.specs.Parts.{Parts}
use Rattle.wm_net.specs.Conflicts.{Stamps, grouped, in_table, same_stamp, same_stamps, stamps}
use Rattle.wm_net.specs.Groups.{Group}
use Rattle.wm_net.specs.Listed.{IsListing, Stretch, listing}
use Rattle.wm_spec.specs.Lists.{Cell, Entry, told}
use Rattle.wm_spec.specs.declared.record.table.Table.{Table}
use Rattle.wm_state.specs.Listing.{standing}
use Rattle.wm_state.specs.Standing.{seen}
use Rattle.wm_view_rows.specs.Conflicts.{rows_with, values_on}
use Rattle.wm_view_rows.specs.Rows.{SideRows, difference_rows}

-- one of two points differs from the common one
abbrev pub differs : Stamps → Bool
differs x = not (same_stamp x.base x.parent && same_stamp x.base x.child)

-- ---- by what stands there

-- the common point, the first and the second: what stands at each
pub record Sheets : Type 0 where
  pub base : List Entry
  pub first : List Entry
  pub second : List Entry

-- the stamps of the rows at a cell, where one of the two differs from the common point
abbrev pub difference_at : Sheets → Cell → Option Stamps
difference_at x c = let found = stamps (told x.base c) (told x.first c) (told x.second c) in then_some (differs found) found

-- the longest periods of one key on which each point holds one row or none and one of the two differs from the common point, by key and from
abbrev pub differences_in : ℕ → Sheets → List (Group × Stretch Stamps)
differences_in table x =
    filter (λ (y : Group × Stretch Stamps). y.0.table == table) (listing same_stamps grouped (x.base ++ (x.first ++ x.second)) (difference_at x))

abbrev pub sheet_rows : Sheets → Group × Stretch Stamps → SideRows
sheet_rows x y = record { base = values_on x.base y.0 y.1; parent = values_on x.first y.0 y.1; child = values_on x.second y.0 y.1 }

-- three rows for each of them, under the names of the two points
abbrev pub difference_view : List ℕ → List ℕ → Sheets → Table → List Row
difference_view first second x t =
    flat_map (λ (y : Group × Stretch Stamps). difference_rows t y.0.key (record { from = y.1.from; till = y.1.till }) first second y.1.value (sheet_rows x y))
    (differences_in t.number x)

-- ---- by versions

-- the versions of the common point, the first and the second
pub record Versions : Type 0 where
  pub base : ℕ
  pub first : ℕ
  pub second : ℕ

-- the stamps of the rows that they hold at a cell
abbrev pub stamps_held : Parts → Versions → Cell → Stamps
stamps_held p v c = record {
  base = option_and_then standing (seen p v.base c);
  parent = option_and_then standing (seen p v.first c);
  child = option_and_then standing (seen p v.second c);
}

abbrev pub difference_held : Parts → Versions → Cell → Option Stamps
difference_held p v c = let found = stamps_held p v c in then_some (differs found) found

abbrev pub version_rows : Parts → List ℕ → List ℕ → Table → Group × Stretch Stamps → List Row
version_rows p first second t y = difference_rows t y.0.key (record { from = y.1.from; till = y.1.till }) first second y.1.value (rows_with p y.1.value)

-- the stretches of a table on which they differ, by key and from, each as long as can be
abbrev pub AreDifferences : Parts → Versions → ℕ → List (Group × Stretch Stamps) → Type 0
AreDifferences p v table xs = IsListing same_stamps grouped (in_table table (difference_held p v)) xs

-- three rows for each of them
pub record IsDifferenceView (p : Parts) (v : Versions) (first second : List ℕ) (t : Table) (rows : List Row) : Type 0 where
  pub found : List (Group × Stretch Stamps)
  pub listed : AreDifferences p v t.number found
  pub are : rows ≡ flat_map (version_rows p first second t) found
