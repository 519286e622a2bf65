-- The counters once a line has changed something, the version that comes next, and the records of a savepoint and of a workspace that
-- are made where one stands.
use Rattle.std.specs.Prelude.{ℕ, ◌≡◌, ◌+◌, ◌==◌, nat_le, Bool, true, false, List, [], ◌++◌, Option, None, Some}
use Rattle.std.specs.Fmt.{decimal}
use Rattle.std.specs.List.{find, count_by}
use Rattle.std.specs.Option.{option_map}
use Rattle.std.specs.Str.{bytes_eq}
use Rattle.wm_graph.specs.Parts.{Parts}
use Rattle.wm_spec.specs.declared.record.counters.Counters.{Counters}
use Rattle.wm_spec.specs.declared.record.savepoint.Savepoint.{Savepoint}
use Rattle.wm_spec.specs.declared.record.space.FreezeMode.TheVariants.{Free}
use Rattle.wm_spec.specs.declared.record.space.Space.{Space}
use Rattle.wm_spec.specs.declared.record.turn.Turn.{Turn}
use Rattle.wm_spec.specs.declared.record.version.Version.{Version}
use Rattle.wm_state.specs.Editing.{implicit_front}
use Rattle.wm_state.specs.State.{Stand, Latest, At, Dated}
use Rattle.wm_state.specs.Standing.{latest, saved_in, saved_as, space_after, making_behind}

-- ---- counters

-- the counters once something has changed at a moment, with so much work
abbrev pub moved : Counters → ℕ → ℕ → Counters
moved c m work = record c { last_moment = m; work = c.work + work }

-- once a version was made
abbrev pub versioned : Counters → ℕ → ℕ → Counters
versioned c m work = record (moved c m work) { next_version = c.next_version + 1 }

-- once so many stamps were given
abbrev pub stepped_by : Counters → ℕ → ℕ → ℕ → Counters
stepped_by c m work k = record (moved c m work) { next_stamp = c.next_stamp + k }

-- and a version was made first
abbrev pub stepped_new_by : Counters → ℕ → ℕ → ℕ → Counters
stepped_new_by c m work k = record (stepped_by c m work k) { next_version = c.next_version + 1 }

-- the version that comes next in a workspace
abbrev pub next_version : Parts → ℕ → Counters → Version
next_version p n c = record { number = c.next_version; space = n; parent = latest p n }

-- ---- where one stands

-- what a savepoint that is made there has of it
pub record Point : Type 0 where
  pub version : ℕ
  pub base_version : ℕ
  pub place : ℕ
  pub moment : ℕ
  pub from : ℕ
  pub log_length : ℕ
  pub rebases : ℕ

-- at what is newest in a workspace, at a moment
abbrev pub newest_point : Parts → Space → ℕ → Point
newest_point p a m = record {
  version = latest p a.number;
  base_version = a.base_version;
  place = a.next_place;
  moment = m;
  from = a.from;
  log_length = a.log_length;
  rebases = a.rebases;
}

-- at a savepoint
abbrev pub saved_point : Savepoint → Point
saved_point y = record {
  version = y.version;
  base_version = y.base_version;
  place = y.place;
  moment = y.moment;
  from = y.from;
  log_length = y.log_length;
  rebases = y.rebases;
}

-- where one stands in a workspace; none if its savepoint is not there, or on a date
abbrev pub point_at : Parts → Space → ℕ → Stand → Option Point
point_at p a m Latest = Some (newest_point p a m)
point_at p a m (At making) = option_map saved_point (saved_as p a.number making)
point_at p a m (Dated date) = None

-- the workspace's next place once a savepoint was made there
abbrev pub next_place_at : Space → Stand → ℕ
next_place_at a Latest = a.next_place + 1
next_place_at a (At making) = a.next_place
next_place_at a (Dated date) = a.next_place

-- ---- what is written

-- a savepoint that is made at a point of a workspace
abbrev pub made_at : Parts → Space → List ℕ → Bool → Point → Savepoint
made_at p a name implicit pt = record {
  space = a.number;
  name = name;
  implicit = implicit;
  place = pt.place;
  making = making_behind p.savepoints;
  moment = pt.moment;
  version = pt.version;
  base_version = pt.base_version;
  from = pt.from;
  log_length = pt.log_length;
  rebases = pt.rebases;
}

-- the savepoint of a name that keeps what is newest in a workspace
abbrev pub saved_record : Parts → Space → ℕ → List ℕ → Savepoint
saved_record p a m name = made_at p a name false (newest_point p a m)

-- the name of the implicit savepoint that comes next in a workspace
abbrev pub implicit_of : Space → List ℕ
implicit_of a = implicit_front ++ decimal a.next_implicit

-- the savepoint that is made for a workspace born at a point
abbrev pub birth_record : Parts → Space → Point → Savepoint
birth_record p a pt = made_at p a (implicit_of a) true pt

-- the workspace that is born there
abbrev pub child_record : Parts → Space → ℕ → List ℕ → Point → Space
child_record p a m name pt = record {
  number = space_after p.spaces;
  name = name;
  parent = a.number;
  born = m;
  birth_version = pt.version;
  birth_place = pt.place;
  base_version = pt.version;
  from = pt.log_length;
  log_length = 0;
  rebases = 0;
  next_place = 1;
  next_implicit = 1;
  freeze = Free;
  writer = [];
}

-- and its version
abbrev pub child_version : Parts → Counters → Point → Version
child_version p c pt = record { number = c.next_version; space = space_after p.spaces; parent = pt.version }

-- and the turn of its birth
abbrev pub child_turn : Parts → Point → Turn
child_turn p pt = record { space = space_after p.spaces; rebase = 0; log_length = pt.log_length; rebases = pt.rebases }

-- ---- what is asked

-- the name is new in a workspace, which may have a savepoint more
pub record HasRoom (p : Parts) (a : Space) (name : List ℕ) : Type 0 where
  pub new : find (λ (x : Savepoint). bytes_eq name x.name) (saved_in p a.number) ≡ None
  pub few : nat_le 4096 (count_by (λ (x : Savepoint). x.space == a.number) p.savepoints) ≡ false
