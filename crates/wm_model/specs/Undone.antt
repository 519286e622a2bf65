-- What is looked up in the records where a workspace is to go.
use Rattle.std.specs.Prelude.{ℕ, ◌≡◌, true, ◌==◌, List, [], ◌∷◌, Option, Some, option_map}
use Rattle.std.specs.List.{find}
use Rattle.std.specs.Str.{bytes_eq}
use Rattle.wm_base.specs.declared.refusal.Refusal.{Refusal}
use Rattle.wm_graph.specs.Parts.{Parts, parts_of}
use Rattle.wm_graph.specs.Rules.{keep_rules}
use Rattle.wm_spec.specs.declared.record.space.Space.{Space}
use Rattle.wm_spec.specs.declared.record.stored.Stored.{Stored}
use Rattle.wm_state.specs.Firsts.{first_recorded, is_child_from}
use Rattle.wm_state.specs.State.{Session}
use Rattle.wm_model.specs.Step.{first_fault, first_session, has_child, refused_for, resolve_open, resolves, session_inside}

-- the name of the first child, by number, that is one
abbrev pub first_child : Parts → ℕ → ℕ → ℕ → Option (List ℕ)
first_child p parent place log_length = option_map (λ (r : Space). r.name) (first_recorded (is_child_from parent place log_length) p.spaces)

-- a session has a resolve of the workspace open
abbrev pub resolving_refusal : List Session → Space → Option Refusal
resolving_refusal sessions a = refused_for (resolve_open a.name) (first_session (resolves a.number) sessions)

-- the workspace of a name is there
pub record NamesSpace (rs : List Stored) (workspace : List ℕ) (a : Space) : Type 0 where
  pub rules : keep_rules (parts_of rs) ≡ true
  pub found : find (λ (r : Space). bytes_eq workspace r.name) (parts_of rs).spaces ≡ Some a

-- what a workspace is refused for that would go: a session stands in it, or another workspace on it
abbrev pub going_refusal : Parts → List Session → Space → Option Refusal
going_refusal p sessions a =
    first_fault
    (refused_for (session_inside a.name) (first_session (λ (x : Session). x.space == a.number) sessions)
    ∷ refused_for (has_child a.name) (first_child p a.number 0 0)
    ∷ [])
