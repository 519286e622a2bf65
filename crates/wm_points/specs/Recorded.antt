-- Points of workspaces by their records: what stands there is what a version holds.
use Rattle.std.specs.Prelude.{ℕ, ◌≡◌, List, Option, None, Some}
use Rattle.std.specs.List.{find}
use Rattle.std.specs.Option.{option_and_then, option_map}
use Rattle.std.specs.Str.{bytes_eq}
use Rattle.wm_graph.specs.Parts.{Parts, space_of}
use Rattle.wm_spec.specs.Lists.{Cell, Entry, told}
use Rattle.wm_spec.specs.declared.record.savepoint.Savepoint.{Savepoint}
use Rattle.wm_spec.specs.declared.record.space.Space.{Space}
use Rattle.wm_spec.specs.declared.record.turn.Turn.{Turn}
use Rattle.wm_state.specs.Standing.{Climbs, HasRows, first_in, held_of, latest, newest_first, saved_in as records_of, seen, turn_at}
use Rattle.wm_state.specs.State.{Viewpoint, Workspace}
use Rattle.wm_points.specs.Points.{Point}

-- the point of the parent that a workspace took; its version is the first one of the parent on the path
abbrev pub taken_by : Space → Turn → ℕ → Point ℕ
taken_by r t version = record { space = r.parent; log_length = t.log_length; rebases = t.rebases; what = version }

-- the point to which one climbs
abbrev pub climb_by : Parts → Point ℕ → Option (Point ℕ)
climb_by p x = option_and_then above (space_of p.spaces x.space)
  where
    above : Space → Option (Point ℕ)
    above r = option_and_then (λ (t : Turn). option_map (taken_by r t) (first_in (newest_first p.versions) r.parent x.what)) (turn_at p.turns x.space x.rebases)

-- what is newest in a workspace, and a savepoint of it, as points
abbrev pub newest_by : Parts → Space → Point ℕ
newest_by p r = record { space = r.number; log_length = r.log_length; rebases = r.rebases; what = latest p r.number }

abbrev pub saved_by : Savepoint → Point ℕ
saved_by x = record { space = x.space; log_length = x.log_length; rebases = x.rebases; what = x.version }

-- the point that is meant, where it is there
abbrev pub point_by : Parts → Viewpoint → Option (Point ℕ)
point_by p v = option_and_then (meant v.savepoint) (find (λ (r : Space). bytes_eq v.workspace r.name) p.spaces)
  where
    meant : Option (List ℕ) → Space → Option (Point ℕ)
    meant None r = Some (newest_by p r)
    meant (Some name) r = option_map saved_by (find (λ (x : Savepoint). bytes_eq name x.name) (records_of p r.number))

-- a point by the records is one of a state: its version holds what stands there and its path leads up, and the rows are there
pub record IsPoint (p : Parts) (spaces : List Workspace) (x : Point ℕ) (y : Point (List Entry)) : Type 0 where
  pub space : x.space ≡ y.space
  pub log_length : x.log_length ≡ y.log_length
  pub rebases : x.rebases ≡ y.rebases
  pub holds : (c : Cell) → seen p x.what c ≡ option_map held_of (told y.what c)
  pub climbs : Climbs p spaces x.what x.space x.rebases
  pub rows : HasRows p y.what
