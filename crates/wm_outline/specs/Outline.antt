-- A state without the rows that stand in its workspaces: what a plan looks at before it asks for rows or changes. It is told of a
-- state, and of the records that stand for one.
use Rattle.std.specs.Prelude.{ℕ, zero, suc, ◌+◌, ◌==◌, List, [], ◌∷◌, ◌++◌, length, map, max, slice_get, Option, None, Some}
use Rattle.std.specs.List.{filter}
use Rattle.std.specs.Option.{option_map, option_map_or}
use Rattle.wm_graph.specs.Parts.{Parts, space_of}
use Rattle.wm_net.specs.Conflicts.{Settled}
use Rattle.wm_spec.specs.declared.record.counters.Counters.{Counters}
use Rattle.wm_spec.specs.declared.record.lock.Lock.{Lock}
use Rattle.wm_spec.specs.declared.record.space.Space.{Space}
use Rattle.wm_spec.specs.declared.record.table.Table.{Table}
use Rattle.wm_spec.specs.declared.record.trace.Trace.{Trace}
use Rattle.wm_state.specs.Standing.{SavepointFields, SpaceFields, by_number, fields_in, fields_of, fields_saved, locks_by_making, saved_fields, saved_in, space_after}
use Rattle.wm_state.specs.State.{Durable, Session, State, Workspace, next_space, workspace_of}

-- a workspace: its number, its fields, and those of its savepoints, by making; of its marks one more than the greatest position, and
-- one more than the greatest place at which one was made, each 0 where there is none
pub record SpaceOutline : Type 0 where
  pub number : ℕ
  pub fields : SpaceFields
  pub savepoints : List SavepointFields
  pub marks_reach : ℕ
  pub marks_since : ℕ

-- tables in the order of their making; workspaces by number, and how many there are; locks in the order of their making; sessions in
-- the order of CONNECT
pub record Outline : Type 0 where
  pub tables : List Table
  pub spaces : List SpaceOutline
  pub space_count : ℕ
  pub locks : List Lock
  pub next_space : ℕ
  pub next_stamp : ℕ
  pub last_moment : ℕ
  pub limit : ℕ
  pub work : ℕ
  pub sessions : List Session
  pub moment : ℕ

-- what there is for the numbers below a bound, by number
abbrev pub with_last : {A : Type 0} → List A → Option A → List A
with_last xs None = xs
with_last xs (Some x) = xs ++ x ∷ []

unfoldable pub below : {A : Type 0} → ℕ → (ℕ → Option A) → List A
below zero what = []
below (suc n) what = with_last (below n what) (what n)

-- one more than the greatest of what is told of each, 0 where there is none
abbrev pub top : {A : Type 0} → (A → ℕ) → List A → ℕ
top what [] = 0
top what (x ∷ xs) = max (what x + 1) (top what xs)

-- ---- of a state

abbrev pub outline_in : Workspace → SpaceOutline
outline_in w = record {
  number = w.number;
  fields = fields_in w;
  savepoints = map fields_saved w.savepoints;
  marks_reach = top (λ (m : Settled). m.position) w.settled;
  marks_since = top (λ (m : Settled). m.place) w.settled;
}

abbrev pub space_in : Durable → ℕ → Option SpaceOutline
space_in d n = option_map outline_in (workspace_of d.spaces n)

abbrev pub outline : State → Outline
outline s = record {
  tables = s.durable.tables;
  spaces = below (next_space s.durable.spaces) (space_in s.durable);
  space_count = length s.durable.spaces;
  locks = s.durable.locks;
  next_space = next_space s.durable.spaces;
  next_stamp = s.durable.next_stamp;
  last_moment = s.durable.last_moment;
  limit = s.durable.limit;
  work = s.durable.work;
  sessions = s.sessions;
  moment = s.moment;
}

-- ---- of records, sessions and a moment

-- the marks of the workspace of a number
abbrev pub marks_in : Parts → ℕ → List Trace
marks_in p n = filter (λ (x : Trace). x.space == n) p.marks

abbrev pub outline_by : Parts → Space → SpaceOutline
outline_by p r = record {
  number = r.number;
  fields = fields_of r;
  savepoints = map saved_fields (saved_in p r.number);
  marks_reach = top (λ (x : Trace). x.position) (marks_in p r.number);
  marks_since = top (λ (x : Trace). x.place) (marks_in p r.number);
}

abbrev pub space_by : Parts → ℕ → Option SpaceOutline
space_by p n = option_map (outline_by p) (space_of p.spaces n)

-- what the one record of counters says
abbrev pub counted : Parts → (Counters → ℕ) → ℕ
counted p what = option_map_or what (slice_get p.counters 0) 0

abbrev pub outline_of : Parts → List Session → ℕ → Outline
outline_of p sessions moment = record {
  tables = by_number p.tables;
  spaces = below (space_after p.spaces) (space_by p);
  space_count = length p.spaces;
  locks = locks_by_making p.locks;
  next_space = space_after p.spaces;
  next_stamp = counted p (λ c. c.next_stamp);
  last_moment = counted p (λ c. c.last_moment);
  limit = counted p (λ c. c.limit);
  work = counted p (λ c. c.work);
  sessions = sessions;
  moment = moment;
}
