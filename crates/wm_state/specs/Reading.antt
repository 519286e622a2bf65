-- What a session reads of a table that stands in a workspace: at what is newest, at a savepoint, or on a date.
use Rattle.std.specs.Prelude.{ℕ, nat_le, nat_lt, if◌then◌else◌, List, [], ◌∷◌, ◌++◌, Bool, map, Option, Some, None}
use Rattle.std.specs.List.{filter}
use Rattle.std.specs.Option.{option_map, option_map_or}
use Rattle.wm_spec.specs.Lists.{Entry}
use Rattle.wm_spec.specs.declared.record.table.Table.{Table}
use Rattle.wm_state.specs.State.{Stand, Latest, At, Dated, Workspace, content, kept, savepoint_made}
use Rattle.wm_state.specs.Standing.{SavepointFields, fields_saved}

-- what stands in a workspace at what is newest, or what stood there at the savepoint of a making
abbrev pub read_at : Workspace → Option ℕ → List Entry
read_at w None = content w
read_at w (Some making) = option_map_or kept (savepoint_made making w.savepoints) []

-- ---- on a date

abbrev pub is_early : ℕ → Entry → Bool
is_early date e = nat_le e.moment date

-- what stood in a workspace on a date: what it was born with, and what was written up to then
abbrev pub stood_on : ℕ → Workspace → List Entry
stood_on date w = w.lists.at_birth ++ filter (is_early date) w.lists.log

-- the first of savepoints, by making, whose place was made on a date or later: the one at the least place, and of these the one made first
abbrev pub sooner_saved : SavepointFields → Option SavepointFields → Option SavepointFields
sooner_saved k None = Some k
sooner_saved k (Some l) = if nat_lt l.place k.place then Some l else Some k

abbrev pub first_from : ℕ → List SavepointFields → Option SavepointFields
first_from date [] = None
first_from date (k ∷ ks) = if nat_le date k.moment then sooner_saved k (first_from date ks) else first_from date ks

-- its making
abbrev pub making_from : ℕ → List SavepointFields → Option ℕ
making_from date ks = option_map (λ (k : SavepointFields). k.making) (first_from date ks)

-- ---- where one stands

-- what a session reads of a table: on a date a table with history as it stood there, and another as it was at the first savepoint whose
-- place was made then or later, or is at what is newest where there is none
abbrev pub seen_from : Workspace → Stand → Table → List Entry
seen_from w Latest t = read_at w None
seen_from w (At making) t = read_at w (Some making)
seen_from w (Dated date) t = if t.history then stood_on date w else read_at w (making_from date (map fields_saved w.savepoints))
