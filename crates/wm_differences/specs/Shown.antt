-- The rows of the stretches on which versions differ.
use Rattle.std.specs.Prelude.{ℕ, ◌≡◌, false, if◌then◌else◌, List, [], ◌∷◌, ◌++◌, map, Option}
use Rattle.std.specs.Bool.{then_some}
use Rattle.std.specs.List.{flat_map}
use Rattle.std.specs.Option.{option_and_then}
use Rattle.wm_base.specs.Period.{always}
use Rattle.wm_base.specs.declared.kind.Kind.TheVariants.{Insert}
use Rattle.wm_base.specs.declared.row.Row.{Row}
use Rattle.wm_base.specs.declared.value.Value.{Value}
use Rattle.wm_graph.specs.Parts.{Parts}
use Rattle.wm_net.specs.Conflicts.{Stamps, grouped, same_stamps}
use Rattle.wm_net.specs.Groups.{Group}
use Rattle.wm_net.specs.Listed.{IsBlock, Stretch}
use Rattle.wm_period.specs.declared.piece.Piece.{Piece}
use Rattle.wm_spec.specs.Lists.{Cell}
use Rattle.wm_spec.specs.declared.record.table.Table.{Table}
use Rattle.wm_view_rows.specs.Differences.{Versions, differs, version_rows}
use Rattle.wm_differences.specs.declared.shown.Versions.{Versions as Given}

-- the versions as the code has them
abbrev pub versions_of : Given → Versions
versions_of v = record { base = v.base; first = v.first; second = v.second }

-- one piece over all of time
abbrev pub all_time : List Piece
all_time = record { period = always; stamp = record { number = 0 }; kind = Insert; gone = false } ∷ []

-- a key of a table
abbrev pub group_in : Table → List Value → Group
group_in t key = record { table = t.number; key = key }

-- the stamps that stand, where they differ
abbrev pub differing : Option Stamps → Option Stamps
differing found = option_and_then (λ (x : Stamps). then_some (differs x) x) found

-- three rows of a stretch of a key, where the stamps differ
abbrev pub rows_shown : Parts → List ℕ → List ℕ → Table → List Value → Stretch Stamps → List Row
rows_shown p first second t key x = if differs x.value then version_rows p first second t (group_in t key, x) else []

-- rows come behind others: those of all stretches of a key that a function of the moment gives, each as long as can be
pub record GainsRows (p : Parts) (first second : List ℕ) (t : Table) (key : List Value) (f : ℕ → Option Stamps) (old new : List Row) : Type 0 where
  pub stretches : List (Stretch Stamps)
  pub block : IsBlock same_stamps (λ (c : Cell). f c.time) (record { group = group_in t key; stretches = stretches })
  pub is : new ≡ old ++ flat_map (version_rows p first second t) (map (grouped (group_in t key)) stretches)
