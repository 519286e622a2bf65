-- What is listed of the rows of a key.
use Rattle.std.specs.Prelude.{ℕ, ◌≡◌, Bool, List, ◌++◌, map, Option}
use Rattle.std.specs.List.{filter_map}
use Rattle.std.specs.Option.{option_map}
use Rattle.wm_base.specs.Period.{Span}
use Rattle.wm_base.specs.declared.row.Row.{Row}
use Rattle.wm_base.specs.declared.value.Value.{Value}
use Rattle.wm_graph.specs.Parts.{Parts, row_of}
use Rattle.wm_period.specs.Pieces.{Held}
use Rattle.wm_spec.specs.Lists.{Cell}
use Rattle.wm_spec.specs.Stretches.{Stretch}
use Rattle.wm_spec.specs.declared.record.row.RowRecord.{RowRecord}
use Rattle.wm_state.specs.Listing.{AreRowsBy, AreRowsOf, first_shared, row_shown_with, seen_row, span_on}
use Rattle.wm_state.specs.Standing.{seen}

-- the row of a stamp, without the stamp
abbrev pub row_under : Parts → ℕ → Option Row
row_under p stamp = option_map (λ (r : RowRecord). let row : Row = record { values = r.values } in row) (row_of p.rows stamp)

-- what is shown of the rows on stretches
abbrev pub shown_on : Parts → Bool → Span → List Stretch → List Row
shown_on p valid within ss = filter_map (λ (s : Stretch). seen_row valid within s (row_under p s.stamp)) ss

-- what is shown of the rows of a key that a function of the cell holds was put behind others
pub record AddsRowsBy (p : Parts) (f : Cell → Option Held) (table : ℕ) (valid : Bool) (within : Span) (key : List Value) (old new : List Row) : Type 0 where
  pub stretches : List Stretch
  pub are : AreRowsBy f table key stretches
  pub added : new ≡ old ++ filter_map (row_shown_with p valid within) (map (λ s. (key, s)) stretches)

-- so for what a version holds
abbrev pub AddsRows : Parts → ℕ → ℕ → Bool → Span → List Value → List Row → List Row → Type 0
AddsRows p version = AddsRowsBy p (seen p version)

-- what is shown of the rows of one key that a version holds, by from
pub record IsKeyShowing (p : Parts) (version table : ℕ) (valid : Bool) (within : Span) (key : List Value) (rows : List Row) : Type 0 where
  pub stretches : List Stretch
  pub are : AreRowsOf p version table key stretches
  pub shown : rows ≡ filter_map (row_shown_with p valid within) (map (λ s. (key, s)) stretches)

-- what a period shares with the first row of a key that it overlaps, of those that a version holds
pub record IsFirstShared (p : Parts) (version table : ℕ) (key : List Value) (period : Span) (found : Option Span) : Type 0 where
  pub stretches : List Stretch
  pub are : AreRowsOf p version table key stretches
  pub first : found ≡ first_shared period stretches

-- the periods over which the rows of a key stand, of those that a version holds, by from
pub record AreSpans (p : Parts) (version table : ℕ) (key : List Value) (spans : List Span) : Type 0 where
  pub stretches : List Stretch
  pub are : AreRowsOf p version table key stretches
  pub same : spans ≡ map span_on stretches
