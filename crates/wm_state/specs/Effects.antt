-- What becomes of the records, told by what is looked up in them.
use Rattle.std.specs.Prelude.{ℕ, ◌≡◌, ◌+◌, ◌<◌, Bool, true, false, ◌==◌, nat_lt, if◌then◌else◌, List, [], ◌∷◌, ◌++◌, length, Some, None, is_some}
use Rattle.std.specs.List.{list_all, list_any}
use Rattle.std.specs.Option.{option_map}
use Rattle.wm_graph.specs.Parts.{Parts, space_of, version_of}
use Rattle.wm_spec.specs.Lists.{Cell}
use Rattle.wm_spec.specs.declared.record.space.Space.{Space}
use Rattle.wm_spec.specs.declared.record.trace.Trace.{Trace}
use Rattle.wm_spec.specs.declared.record.turn.Turn.{Turn}
use Rattle.wm_tree.specs.Versions.{AllBelow}
use Rattle.wm_tree.specs.declared.version.Version.{Version as Node}
use Rattle.wm_spec.specs.declared.record.savepoint.Savepoint.{Savepoint}
use Rattle.wm_state.specs.Standing.{stored_at, newest_first, latest, saved_as}

-- no version stands under this one
abbrev pub IsLeaf : ℕ → List Node → Type 0
IsLeaf version [] = Unit {0}
IsLeaf version (x ∷ older) = ((x.parent == version) ≡ false) × IsLeaf version older

-- the version is one of these
abbrev pub is_there : ℕ → List Node → Bool
is_there version [] = false
is_there version (x ∷ older) = if x.number == version then true else is_there version older

-- the newest version of a workspace is there, is no other workspace's newest one, and is not what it sees under its own
pub record IsApart (p : Parts) (n : ℕ) : Type 0 where
  pub there : is_there (latest p n) (newest_first p.versions) ≡ true
  pub others : (m : ℕ) → (m == n) ≡ false → is_some (space_of p.spaces m) ≡ true → (latest p m == latest p n) ≡ false
  pub above : (r : Space) → space_of p.spaces n ≡ Some r → (latest p n == r.base_version) ≡ false

-- no savepoint keeps the version, and no workspace with a parent was born from it or sees it under its own, nor does a savepoint of
-- such a workspace
pub record IsFree (p : Parts) (version : ℕ) : Type 0 where
  pub kept : (n making : ℕ) (x : Savepoint) → saved_as p n making ≡ Some x → (x.version == version) ≡ false
  pub kept_bases : (n making : ℕ) (x : Savepoint) → 0 < n → saved_as p n making ≡ Some x → (x.base_version == version) ≡ false
  pub births : (n : ℕ) (r : Space) → 0 < n → space_of p.spaces n ≡ Some r → (r.birth_version == version) ≡ false
  pub bases : (n : ℕ) (r : Space) → 0 < n → space_of p.spaces n ≡ Some r → (r.base_version == version) ≡ false

-- the version that comes next in a workspace
abbrev pub node_under : Parts → ℕ → ℕ → Node
node_under p n number = record { number = number; space = n; parent = latest p n }

-- a workspace has a version more, with nothing in it, under its newest one; but for counters all else is as it was
pub record Forked (p q : Parts) (n number : ℕ) : Type 0 where
  pub some : 0 < number
  pub below : AllBelow number (newest_first p.versions)
  pub versions : newest_first q.versions ≡ node_under p n number ∷ newest_first p.versions
  pub above : (r : Space) → space_of p.spaces n ≡ Some r → (number == r.base_version) ≡ false
  pub empty : (c : Cell) → stored_at p.pieces number c ≡ None
  pub rest : record q { counters = p.counters; versions = p.versions } ≡ p

-- the workspace's record, the next place and the next number of an implicit savepoint being these
abbrev pub marked : ℕ → ℕ → Space → Space
marked place implicit s = record s { next_place = place; next_implicit = implicit }

-- a workspace has a savepoint more, which was made after all others; but for counters all else is as it was
pub record Saved (p q : Parts) (n place implicit : ℕ) (x : Savepoint) : Type 0 where
  pub space : x.space ≡ n
  pub after : list_all (λ (y : Savepoint). nat_lt y.making x.making) p.savepoints ≡ true
  pub savepoints : q.savepoints ≡ p.savepoints ++ x ∷ []
  pub count : length q.spaces ≡ length p.spaces
  pub here : space_of q.spaces n ≡ option_map (marked place implicit) (space_of p.spaces n)
  pub elsewhere : (m : ℕ) → (m == n) ≡ false → space_of q.spaces m ≡ space_of p.spaces m
  pub rest : record q { counters = p.counters; spaces = p.spaces; savepoints = p.savepoints } ≡ p

-- a workspace is born, with a version of this number of its own under the one that it is born from, and with this turn; but for counters
-- all else is as it was
pub record Born (p q : Parts) (r : Space) (number : ℕ) (turn : Turn) : Type 0 where
  pub child : 0 < r.number
  pub none : space_of p.spaces r.number ≡ None
  pub unsaved : list_any (λ (x : Savepoint). x.space == r.number) p.savepoints ≡ false
  pub from : r.birth_version ≡ r.base_version
  pub there : is_some (version_of p.versions r.base_version) ≡ true
  pub below : AllBelow number (newest_first p.versions)
  pub versions : newest_first q.versions ≡ record { number = number; space = r.number; parent = r.base_version } ∷ newest_first p.versions
  pub empty : (c : Cell) → stored_at p.pieces number c ≡ None
  pub count : length q.spaces ≡ length p.spaces + 1
  pub spaces : (m : ℕ) → space_of q.spaces m ≡ (if m == r.number then Some r else space_of p.spaces m)
  pub rebases : r.rebases ≡ 0
  pub unturned : list_any (λ (x : Turn). x.space == r.number) p.turns ≡ false
  pub untouched : list_any (λ (x : Trace). x.space == r.number) p.touches ≡ false
  pub unmarked : list_any (λ (x : Trace). x.space == r.number) p.marks ≡ false
  pub turns : q.turns ≡ p.turns ++ turn ∷ []
  pub turn_space : turn.space ≡ r.number
  pub turn_number : turn.rebase ≡ 0
  pub turn_from : turn.log_length ≡ r.from
  pub rest : record q { counters = p.counters; spaces = p.spaces; versions = p.versions; turns = p.turns } ≡ p
