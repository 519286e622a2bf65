-- What is set of sessions, and the moment.
use Rattle.std.specs.Prelude.{ℕ, List, [], ◌∷◌, ◌++◌, not, nat_lt, if◌then◌else◌, map, Option, None, Some}
use Rattle.std.specs.List.{filter}
use Rattle.std.specs.Option.{option_map}
use Rattle.std.specs.Str.{bytes_eq}
use Rattle.wm_base.specs.Period.{Span}
use Rattle.wm_spec.specs.declared.record.lock.LockMode.{LockMode}
use Rattle.wm_state.specs.State as state
use Rattle.wm_state.specs.State.{State, Session, Resolve, Decision, Difference}
use Rattle.wm_print.specs.Texts.{Answer, Fine}
use Rattle.wm_model.specs.Step.Refusing.{moment_back}

-- ---- sessions

-- a session of this name is open no more
abbrev pub closed : List ℕ → List Session → List Session
closed name sessions = filter (λ (x : Session). not (bytes_eq name x.name)) sessions

-- what is set of a session: where it stands; the period in which it sees and changes rows, which is what is left of time where there is none;
-- the workspace whose conflicts it looks at, by name; a resolve of a workspace that it opens, decisions that come behind those of the one that it
-- has open, and that it closes the one; a workspace that it freezes for itself; the mode in which its changes lock what they change, or that they
-- do not; the points that it compares
pub data Setting : Type 0 where
  Stand : (space : ℕ) (stand : state.Stand) → Setting
  Period : (period : Option Span) → Setting
  Conflict : (workspace : List ℕ) → Setting
  Begin : (space : ℕ) → Setting
  Decide : (decisions : List Decision) → Setting
  End : Setting
  Freeze : (space : ℕ) → Setting
  Lock : (mode : Option LockMode) → Setting
  Compare : (difference : Difference) → Setting

-- a resolve with decisions more
abbrev pub with_decisions : List Decision → Resolve → Resolve
with_decisions ds r = record r { decisions = r.decisions ++ ds }

abbrev pub with_setting : Setting → Session → Session
with_setting (Stand space stand) x = record x { space = space; stand = stand }
with_setting (Period period) x = record x { period = period }
with_setting (Conflict workspace) x = record x { conflict = Some workspace }
with_setting (Begin space) x = record x { resolve = Some (record { space = space; decisions = [] }) }
with_setting (Decide ds) x = record x { resolve = option_map (with_decisions ds) x.resolve }
with_setting End x = record x { resolve = None }
with_setting (Freeze space) x = record x { freezes = space ∷ x.freezes }
with_setting (Lock mode) x = record x { locking = mode }
with_setting (Compare d) x = record x { difference = Some d }

-- it is set of a session of this name
abbrev pub altered : List ℕ → Setting → List Session → List Session
altered name setting sessions = map (λ (x : Session). if bytes_eq name x.name then with_setting setting x else x) sessions

-- ---- the moment

-- AT sets it, and never back; nothing durable changes
abbrev pub set_moment : ℕ → State → State × Answer
set_moment instant s = if nat_lt instant s.moment then (s, moment_back s.moment) else (record s { moment = instant }, Fine)
