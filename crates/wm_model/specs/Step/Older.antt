-- What merges and resolves look up in the lists of a state.
use Rattle.std.specs.Prelude.{ℕ, Bool, not, ◌&&◌, ◌==◌, List, Option, option_map}
use Rattle.wm_base.specs.declared.refusal.Refusal.{Refusal}
use Rattle.wm_state.specs.Firsts.{first_space}
use Rattle.wm_state.specs.State.{Session, State, Workspace}
use Rattle.wm_model.specs.Step.Refusing.{refused_for, resolve_open}
use Rattle.wm_model.specs.Step.Undoing.{first_session, resolves}

-- the workspace of the least number that passes a test: its name
abbrev pub first_name : (Workspace → Bool) → State → Option (List ℕ)
first_name test s = option_map (λ (c : Workspace). c.name) (first_space test s.durable.spaces)

-- a workspace is another one's child
abbrev pub is_child : Workspace → Workspace → Bool
is_child w c = (c.parent == w.number) && not (c.number == w.number)

-- what a call is refused for that changes a workspace while a resolve of it is open
abbrev pub resolving_fault : State → Workspace → Option Refusal
resolving_fault s w = refused_for (resolve_open w.name) (first_session (resolves w.number) s.sessions)

-- a session stands in the workspace
abbrev pub is_inside : Workspace → Session → Bool
is_inside w x = x.space == w.number
