-- Points of workspaces, and what two of them have in common.
use Rattle.std.specs.Prelude.{ℕ, zero, suc, ◌+◌, ◌&&◌, ◌||◌, ◌==◌, Bool, nat_lt, if◌then◌else◌, List, [], ◌∷◌, length, Option, None, Some, unwrap_or}
use Rattle.std.specs.List.{find}
use Rattle.std.specs.Option.{option_and_then, option_map, option_map_or, option_or}
use Rattle.wm_spec.specs.Lists.{Entry}
use Rattle.wm_state.specs.State.{Savepoint, Turn, Viewpoint, Workspace, content, kept, savepoint_named, turn_of, workspace_named, workspace_of}

-- a point of a workspace: how long its log was and how often it had been rebased there, with what stood there
pub record Point (A : Type 0) : Type 0 where
  pub space : ℕ
  pub log_length : ℕ
  pub rebases : ℕ
  pub what : A

-- ---- what two points have in common

-- a point with those to which it climbs, one after another, so many at most
abbrev pub path : {A : Type 0} → (Point A → Option (Point A)) → ℕ → Point A → List (Point A)
path climb zero x = x ∷ []
path climb (suc n) x = x ∷ option_map_or (path climb n) (climb x) []

-- of two points of one workspace one comes before the other: its log is shorter, or is as long and it was rebased less often
abbrev pub is_earlier : {A : Type 0} → Point A → Point A → Bool
is_earlier x y = nat_lt x.log_length y.log_length || ((x.log_length == y.log_length) && nat_lt x.rebases y.rebases)

abbrev pub earlier : {A : Type 0} → Point A → Point A → Point A
earlier x y = if is_earlier y x then y else x

-- the first workspace on a path that is on another one too, at the earlier of their two points there
abbrev pub meeting : {A : Type 0} → List (Point A) → List (Point A) → Option (Point A)
meeting [] ys = None
meeting (x ∷ xs) ys = option_or (option_map (earlier x) (find (λ y. y.space == x.space) ys)) (meeting xs ys)

-- the common point of two: their paths meet in each state that lines lead to, since a parent has a lesser number than its child
abbrev pub common : {A : Type 0} → (Point A → Option (Point A)) → Point A → Point A → Point A
common climb x y = unwrap_or (meeting (path climb x.space x) (path climb y.space y)) x

-- ---- in a state

-- the point of the parent that a workspace took when it was born, or at the last of so many rebases
abbrev pub taken_of : Workspace → Turn → Point (List Entry)
taken_of w t = record { space = w.parent; log_length = t.log_length; rebases = t.rebases; what = t.content }

-- the point to which one climbs; LIVE took none
abbrev pub climb_in : List Workspace → Point (List Entry) → Option (Point (List Entry))
climb_in spaces x = option_and_then (λ (w : Workspace). option_map (taken_of w) (turn_of w x.rebases)) (workspace_of spaces x.space)

-- what is newest in a workspace, and a savepoint of it, as points
abbrev pub newest_in : Workspace → Point (List Entry)
newest_in w = record { space = w.number; log_length = length w.lists.log; rebases = w.rebases; what = content w }

abbrev pub saved_in : Workspace → Savepoint → Point (List Entry)
saved_in w k = record { space = w.number; log_length = k.log_length; rebases = k.rebases; what = kept k }

-- the point that is meant, where it is there
abbrev pub point_in : List Workspace → Viewpoint → Option (Point (List Entry))
point_in spaces v = option_and_then (meant v.savepoint) (workspace_named v.workspace spaces)
  where
    meant : Option (List ℕ) → Workspace → Option (Point (List Entry))
    meant None w = Some (newest_in w)
    meant (Some name) w = option_map (saved_in w) (savepoint_named name w.savepoints)
