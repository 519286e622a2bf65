-- CONNECT and DISCONNECT.
use Rattle.std.specs.Prelude.{ℕ, List, [], ◌∷◌, not, ◌&&◌, nat_le, length, is_some, None}
use Rattle.wm_outline.specs.Outline.{Outline}
use Rattle.wm_print.specs.Texts.{Fine}
use Rattle.wm_state.specs.State.{Latest, Session}
use Rattle.wm_model.specs.Seating.{Close, Open}
use Rattle.wm_model.specs.Step.Naming.{is_name, session_of}
use Rattle.wm_model.specs.Step.Plans.{Plan}
use Rattle.wm_model.specs.Step.Refusing.{bad_name, most_sessions, no_session, refused_if, session_there}

-- a session that is opened stands in LIVE at what is newest; neither a period nor a workspace of conflicts is set for it, and it has no
-- resolve open, froze no workspace, locks nothing that it changes and compares no points
abbrev pub session_opened : (name user : List ℕ) → Session
session_opened name user = record {
  name = name;
  user = user;
  space = 0;
  stand = Latest;
  period = None;
  conflict = None;
  resolve = None;
  freezes = [];
  locking = None;
  difference = None;
}

-- CONNECT opens a session
abbrev pub connect_plan : (name user : List ℕ) → Outline → Plan
connect_plan name user o = record {
  faults =
      refused_if (is_some (session_of name o.sessions)) (session_there name)
      ∷ refused_if (not (is_name name && is_name user)) bad_name
      ∷ refused_if (nat_le 256 (length o.sessions)) most_sessions
      ∷ [];
  edits = [];
  seating = Open (session_opened name user);
  answer = Fine;
}

-- DISCONNECT ends one
abbrev pub disconnect_plan : List ℕ → Outline → Plan
disconnect_plan name o = record {
  faults = refused_if (not (is_some (session_of name o.sessions))) (no_session name) ∷ [];
  edits = [];
  seating = Close name;
  answer = Fine;
}
