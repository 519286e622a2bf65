-- Touches of a workspace since a position of its log, as the code asks for them.
use Rattle.std.specs.Prelude.{ℕ, Bool, false, ◌&&◌, ◌==◌, nat_le, nat_lt, List, Option, Some, None}
use Rattle.std.specs.List.{list_any}
use Rattle.std.specs.Option.{option_map_or}
use Rattle.std.specs.Ordering.{is_eq}
use Rattle.wm_spec.specs.Lists.{Cell}
use Rattle.wm_spec.specs.Records.{record_at}
use Rattle.wm_spec.specs.declared.record.Record.{Record}
use Rattle.wm_spec.specs.declared.record.Record.TheVariants as records
use Rattle.wm_spec.specs.declared.record.space.Space.{Space}
use Rattle.wm_spec.specs.declared.record.stored.Stored.{Stored}
use Rattle.wm_spec.specs.declared.record.trace.Trace.{Trace}
use Rattle.wm_state.specs.Standing.{in_cells}
use Rattle.wm_pending.specs.Keys.{Place, place_order}
use Rattle.wm_pending.specs.declared.touched.Since.{Since}

-- those of the parent of a workspace since the workspace took its log
abbrev pub since_of : Space → Space → Since
since_of a b = record { space = b.number; below = b.next_place; from = a.from }

-- the same since another position
abbrev pub since_position : Since → ℕ → Since
since_position s from = record { space = s.space; below = s.below; from = from }

-- the marks of a workspace
abbrev pub marks_since : Space → Since
marks_since a = record { space = a.number; below = a.next_place; from = 0 }

-- the touch or mark is of the workspace, was made below the place, and stands at the position or behind it
abbrev pub is_since : Since → Trace → Bool
is_since s x = (x.space == s.space) && (nat_lt x.place s.below && nat_le s.from x.position)

-- the record is such a touch
abbrev pub is_meant : Since → Record → Bool
is_meant s (records.Touch x) = is_since s x
is_meant s _ = false

-- the record of an id passes a test
abbrev pub passes_at : (Record → Bool) → List Stored → ℕ → Bool
passes_at p ss id = option_map_or p (record_at ss id) false

-- the touch is of the table and the key
abbrev pub is_touch_of : Place → Trace → Bool
is_touch_of q x = is_eq (place_order (x.cells.table, x.cells.key) q)

-- so is one of them
abbrev pub has_touch_of : Place → List Trace → Bool
has_touch_of q xs = list_any (is_touch_of q) xs

-- so is one that is meant
abbrev pub has_touched : List Trace → Since → Place → Bool
has_touched xs s q = list_any (λ (x : Trace). is_since s x && is_touch_of q x) xs

-- such a touch covers the cell
abbrev pub is_touched : List Trace → Since → Cell → Bool
is_touched xs s c = list_any (λ (x : Trace). is_since s x && in_cells x.cells c) xs

-- where there is such a touch, it covers the moment
abbrev pub covers_since : Since → Option Trace → ℕ → Bool
covers_since s None t = false
covers_since s (Some x) t = is_since s x && (nat_le x.cells.from t && nat_lt t x.cells.till)
