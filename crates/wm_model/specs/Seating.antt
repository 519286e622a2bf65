-- What becomes of the sessions, and the state behind edits.
use Rattle.std.specs.Prelude.{ℕ, List, [], ◌∷◌, ◌++◌, map}
use Rattle.std.specs.List.{filter}
use Rattle.wm_state.specs.Editing.{drafted, is_other}
use Rattle.wm_state.specs.State.{State, Session}
use Rattle.wm_state.specs.declared.edit.Edit.{Edit}
use Rattle.wm_model.specs.Step.Sessions.{Setting, altered, closed}

-- what becomes of the sessions: nothing, one is opened, those of a name are closed, something is set of them, or none holds the workspace of a
-- number any more
pub data Seating : Type 0 where
  Stay : Seating
  Open : (session : Session) → Seating
  Close : (name : List ℕ) → Seating
  Set : (name : List ℕ) (setting : Setting) → Seating
  Thaw : (space : ℕ) → Seating

-- a session that does not hold the workspace of a number any more
abbrev pub thawed : ℕ → Session → Session
thawed n x = record x { freezes = filter (is_other n) x.freezes }

abbrev pub seated : List Session → Seating → List Session
seated sessions Stay = sessions
seated sessions (Open x) = sessions ++ x ∷ []
seated sessions (Close name) = closed name sessions
seated sessions (Set name setting) = altered name setting sessions
seated sessions (Thaw space) = map (thawed space) sessions

-- the state with what a plan makes of it at a moment: its edits, what becomes of the sessions, and the moment behind it
abbrev pub planned : ℕ → ℕ → List Edit → Seating → State → State
planned m after edits seating s = record { durable = drafted m edits s.durable; sessions = seated s.sessions seating; moment = after }
