-- Entries of a log, by their positions.
use Rattle.std.specs.Prelude.{ℕ, ◌≡◌, ◌&&◌, ◌==◌, Bool, false, List, map, Option}
use Rattle.std.specs.BTreeMap.{is_at}
use Rattle.std.specs.List.{filter, find}
use Rattle.std.specs.List.Sorted.{IsStrictlySortedBy}
use Rattle.std.specs.Map.{lookup}
use Rattle.std.specs.Option.{option_and_then, option_map_or}
use Rattle.std.specs.Ordering.{nat_cmp}
use Rattle.wm_graph.specs.Parts.{as_hist}
use Rattle.wm_spec.specs.Records.{record_at}
use Rattle.wm_spec.specs.declared.record.hist.Hist.{Hist}
use Rattle.wm_spec.specs.declared.record.stored.Stored.{Stored}

-- the entry stands at a position of its log
abbrev pub stands_at : ℕ → Hist → Bool
stands_at position x = x.position == position

-- those of the log of a workspace that are on a table
abbrev pub logged_on : ℕ → ℕ → List Hist → List Hist
logged_on space table xs = filter (λ (x : Hist). (x.space == space) && (x.cells.table == table)) xs

-- they stand one behind another, and at each position the first that stands there among others
pub record AreByPosition (xs all : List Hist) : Type 0 where
  pub ascend : IsStrictlySortedBy nat_cmp (map (λ (x : Hist). x.position) xs)
  pub same : (position : ℕ) → find (stands_at position) xs ≡ find (stands_at position) all

-- an entry that was found stands at a position
abbrev pub is_found_at : ℕ → Option Hist → Bool
is_found_at position found = option_map_or (stands_at position) found false

-- the first id whose entry stands at a position
abbrev pub first_at : List Stored → ℕ → List ℕ → Option ℕ
first_at ss position ids = find (λ id. is_found_at position (option_and_then as_hist (record_at ss id))) ids

-- the id that is kept for a position
abbrev pub placed_at : List (ℕ × ℕ) → ℕ → Option ℕ
placed_at entries position = lookup (is_at (nat_cmp position)) entries
