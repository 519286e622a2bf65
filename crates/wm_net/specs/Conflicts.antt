-- Cells in conflict, and the stretches of them.
use Rattle.std.specs.Prelude.{ℕ, ◌+◌, max, ◌&&◌, ◌==◌, Bool, true, false, nat_le, nat_lt, if◌then◌else◌, List, [], ◌∷◌, ◌++◌, map, Option, None, Some}
use Rattle.std.specs.Bool.{then_some}
use Rattle.std.specs.List.{filter}
use Rattle.std.specs.Option.{option_and_then}
use Rattle.wm_base.specs.declared.kind.Kind.TheVariants.{Insert}
use Rattle.wm_base.specs.declared.value.Value.{Value}
use Rattle.wm_spec.specs.Lists.{Entry, Cell, Told, covers, told, touched, standing_stamp, reach}
use Rattle.wm_net.specs.Groups.{Group}
use Rattle.wm_net.specs.Listed.{Stretch, listing}

-- the stamps of the rows that three lists hold at a cell, or none where a list holds no row there
pub record Stamps : Type 0 where
  pub base : Option ℕ
  pub parent : Option ℕ
  pub child : Option ℕ

abbrev pub same_stamp : Option ℕ → Option ℕ → Bool
same_stamp None None = true
same_stamp (Some a) (Some b) = a == b
same_stamp None (Some b) = false
same_stamp (Some a) None = false

abbrev pub same_stamps : Stamps → Stamps → Bool
same_stamps x y = same_stamp x.base y.base && (same_stamp x.parent y.parent && same_stamp x.child y.child)

-- cells that a resolve has settled: changes of the parent below the position are in conflict there no more; place: the greatest place
-- that was given in the workspace when it was made
pub record Settled : Type 0 where
  pub table : ℕ
  pub key : List Value
  pub from : ℕ
  pub till : ℕ
  pub position : ℕ
  pub place : ℕ

-- an entry with the cells of a mark, and its position for a stamp
abbrev pub as_entry : Settled → Entry
as_entry m = record { table = m.table; key = m.key; from = m.from; till = m.till; row = None; stamp = m.position; kind = Insert; moment = 0; user = [] }

-- a workspace beside its parent: its copy of the parent's content, what the parent holds now, its own changes, the parent's log, the position from which on
-- the copy has not the log, and its marks
pub record Sides : Type 0 where
  pub base : List Entry
  pub parent : List Entry
  pub own : List Entry
  pub log : List Entry
  pub from : ℕ
  pub settled : List Settled

-- one more than the greatest position of the marks that cover a cell; 0 where there is none
abbrev pub settled_at : List Settled → Cell → ℕ
settled_at [] c = 0
settled_at (m ∷ ms) c = max (if covers (as_entry m) c then m.position + 1 else 0) (settled_at ms c)

abbrev pub marks : Sides → List Entry
marks s = map as_entry s.settled

-- own changes cover the cell, and the parent's log does at a position that is at least `from` and at least the greatest of the marks that cover it
abbrev pub in_conflict : Sides → Cell → Bool
in_conflict s c = touched s.own c && (nat_lt s.from (reach s.log c) && nat_le (settled_at s.settled c) (reach s.log c))

abbrev pub stamps : Option Told → Option Told → Option Told → Stamps
stamps b p w = record { base = option_and_then standing_stamp b; parent = option_and_then standing_stamp p; child = option_and_then standing_stamp w }

-- the stamps on the three sides of a cell in conflict
abbrev pub conflict_at : Sides → Cell → Option Stamps
conflict_at s c = then_some (in_conflict s c) (stamps (told s.base c) (told s.parent c) (told (s.base ++ s.own) c))

-- all entries that end where a conflict may
abbrev pub all_sides : Sides → List Entry
all_sides s = s.base ++ (s.parent ++ (s.own ++ (s.log ++ marks s)))

abbrev pub grouped : {A : Type 0} → Group → Stretch A → Group × Stretch A
grouped g s = (g, s)

-- the maximal periods of one key of cells in conflict on which each side holds one stamp or no row, by table, key and from
abbrev pub conflicts : Sides → List (Group × Stretch Stamps)
conflicts s = listing same_stamps grouped (all_sides s) (conflict_at s)

-- those of a table
abbrev pub conflicts_in : ℕ → Sides → List (Group × Stretch Stamps)
conflicts_in table s = filter (λ (x : Group × Stretch Stamps). x.0.table == table) (conflicts s)

-- what a function of the cell gives in a table, and nothing in others
abbrev pub in_table : {A : Type 0} → ℕ → (Cell → Option A) → Cell → Option A
in_table table f c = if c.table == table then f c else None
