-- What decisions come to, of which a later one takes the place of an earlier one on its cells: marks, and entries that are copied.
use Rattle.std.specs.Prelude.{ℕ, ◌&&◌, ◌==◌, Bool, List, [], ◌∷◌, map, slice_get, Option, None}
use Rattle.std.specs.List.{flat_map}
use Rattle.std.specs.Option.{option_and_then, option_map}
use Rattle.wm_base.specs.declared.kind.Kind.TheVariants.{Insert}
use Rattle.wm_net.specs.Conflicts.{Settled}
use Rattle.wm_net.specs.Groups.{Group}
use Rattle.wm_net.specs.Listed.{Stretch, listing, value_at}
use Rattle.wm_net.specs.Nets.{one_stamp, replayed}
use Rattle.wm_net.specs.Places.{last_position}
use Rattle.wm_spec.specs.Lists.{Cell, Entry, Told}
use Rattle.wm_state.specs.State.{Decision}

-- ---- which decision counts

-- the cells of a decision, as an entry has them
abbrev pub cells_decided : Decision → Entry
cells_decided d = record { table = d.table; key = d.key; from = d.from; till = d.till; row = None; stamp = d.position; kind = Insert; moment = 0; user = [] }

-- the last decision that covers a cell, and its place among them
abbrev pub chosen_at : List Decision → Cell → Option (ℕ × Decision)
chosen_at ds c = option_and_then (λ (place : ℕ). option_map (λ (d : Decision). (place, d)) (slice_get ds place)) (last_position (map cells_decided ds) c)

abbrev pub same_choice : ℕ × Decision → ℕ × Decision → Bool
same_choice x y = x.0 == y.0

-- ---- marks

-- a mark where a decision counts, made at a place of a workspace
abbrev pub mark_for : ℕ → Group → Stretch (ℕ × Decision) → Settled
mark_for place g s = record { table = g.table; key = g.key; from = s.from; till = s.till; position = s.value.1.position; place = place }

-- by table, key and from: one for each period over which one decision counts
abbrev pub marks_of : ℕ → List Decision → List Settled
marks_of place ds = listing same_choice (mark_for place) (map cells_decided ds) (chosen_at ds)

-- ---- copies

-- what a decision copies to a cell, and its place among all
pub record Copy : Type 0 where
  pub place : ℕ
  pub told : Told

-- what the decision that counts copies there
abbrev pub copied_at : List Decision → Cell → Option Copy
copied_at ds c = option_and_then (λ (x : ℕ × Decision). option_map (λ (t : Told). let made : Copy = record { place = x.0; told = t } in made) (value_at x.1.copied c.time)) (chosen_at ds c)

-- what is joined where it meets: what one decision copies with one stamp
abbrev pub same_copy : Copy → Copy → Bool
same_copy x y = (x.place == y.place) && one_stamp x.told y.told

-- a copy as an entry of the line that writes it
abbrev pub entry_copied : ℕ → List ℕ → Group → Stretch Copy → Entry
entry_copied moment user g s = replayed moment user g (record { from = s.from; till = s.till; value = s.value.told })

-- all that a decision may end at
abbrev pub ends_decided : Decision → List Entry
ends_decided d = cells_decided d ∷ map (λ (s : Stretch Told). replayed 0 [] (record { table = d.table; key = d.key }) s) d.copied

-- by table, key and from
abbrev pub entries_decided : ℕ → List ℕ → List Decision → List Entry
entries_decided moment user ds = listing same_copy (entry_copied moment user) (flat_map ends_decided ds) (copied_at ds)
