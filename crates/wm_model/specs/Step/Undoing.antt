-- RollbackToSP and RemoveWorkspace.
use Rattle.std.specs.Prelude.{ℕ, List, [], ◌∷◌, ◌++◌, Bool, false, not, ◌&&◌, ◌||◌, ◌==◌, ◌+◌, nat_le, nat_lt, if◌then◌else◌, Option, None, option_map}
use Rattle.std.specs.List.{find, list_all, list_any}
use Rattle.std.specs.Option.{option_map_or}
use Rattle.std.specs.Str.{bytes_eq}
use Rattle.wm_base.specs.declared.refusal.Refusal.{Refusal}
use Rattle.wm_calls.specs.Arguments.{text_given}
use Rattle.wm_calls.specs.Faults.{argument_fault}
use Rattle.wm_grammar.specs.declared.procedure.Procedure.TheVariants as procedures
use Rattle.wm_grammar.specs.declared.procedure.Parameter.TheVariants as parameters
use Rattle.wm_outline.specs.Outline.{Outline, SpaceOutline}
use Rattle.wm_print.specs.Texts.{Fine}
use Rattle.wm_state.specs.Editing.{stays_held}
use Rattle.wm_state.specs.Standing.{SavepointFields}
use Rattle.wm_state.specs.State.{At, Dated, Decision, Latest, Resolve, Session, Stand}
use Rattle.wm_state.specs.declared.edit.Edit.TheVariants as edits
use Rattle.wm_syntax.specs.declared.statement.Arg.{Arg}
use Rattle.wm_model.specs.Seating.{Thaw}
use Rattle.wm_model.specs.Step.Given.{misfit, workspace_given}
use Rattle.wm_model.specs.Step.Locks.{is_child_of}
use Rattle.wm_model.specs.Step.Naming.{latest}
use Rattle.wm_model.specs.Step.Plans.{Plan, also, doing, for_named, for_savepoint, for_text, savepoint_at, savepoint_called, space_named, spent}
use Rattle.wm_model.specs.Step.Refusing.{dependent_child, has_child, no_parent, no_savepoint, no_workspace, rebased_since, refused_for, refused_if, reserved_name, resolve_open, session_inside}

-- the first session that passes a test, in the order of CONNECT: its name
abbrev pub first_session : (Session → Bool) → List Session → Option (List ℕ)
first_session test sessions = option_map (λ (x : Session). x.name) (find test sessions)

-- the workspace of the least number that passes a test: its name
abbrev pub first_named : (SpaceOutline → Bool) → Outline → Option (List ℕ)
first_named test o = option_map (λ (x : SpaceOutline). x.fields.name) (find test o.spaces)

-- ---- resolves that are open

-- the session has a resolve of the workspace of a number open
abbrev pub resolves : ℕ → Session → Bool
resolves n session = option_map_or (λ (r : Resolve). r.space == n) session.resolve false

-- what a call is refused for that changes a workspace while a resolve of it is open
abbrev pub resolve_fault : Outline → SpaceOutline → Option Refusal
resolve_fault o x = refused_for (resolve_open x.fields.name) (first_session (resolves x.number) o.sessions)

-- ---- back to a savepoint

-- a savepoint that stays where its workspace goes back to another
abbrev pub stays_behind : SavepointFields → SavepointFields → Bool
stays_behind k j = nat_le j.place k.place && nat_le j.log_length k.log_length

-- one stands where a rollback to a savepoint would leave nothing
abbrev pub would_go : SpaceOutline → SavepointFields → Stand → Bool
would_go x k Latest = false
would_go x k (At making) = option_map_or (λ (j : SavepointFields). not (stays_behind k j)) (savepoint_at making x) false
would_go x k (Dated date) = false

-- a session stands so in the workspace
abbrev pub stands_behind : SpaceOutline → SavepointFields → Session → Bool
stands_behind x k session = (session.space == x.number) && would_go x k session.stand

-- a position of a decision that a session has staged for the workspace of a number is beyond a length of its parent's log
abbrev pub decides_beyond : ℕ → ℕ → Session → Bool
decides_beyond limit n session =
    option_map_or (λ (r : Resolve). (r.space == n) && list_any (λ (d : Decision). nat_lt limit d.position) r.decisions) session.resolve false

-- a child took of the workspace what came behind the savepoint, or a mark or a decision of a resolve of it did
abbrev pub depends : List Session → SpaceOutline → SavepointFields → SpaceOutline → Bool
depends sessions x k c =
    is_child_of x.number c
    && ((nat_lt k.place c.fields.birth_place || nat_lt k.log_length c.fields.from)
    || (nat_lt (k.log_length + 1) c.marks_reach || list_any (decides_beyond k.log_length c.number) sessions))

-- nothing came behind the savepoint: no change, no savepoint, no mark and no lock
abbrev pub is_still : Outline → SpaceOutline → SavepointFields → Bool
is_still o x k =
    ((nat_le x.fields.log_length k.log_length && list_all (stays_behind k) x.savepoints) && nat_le x.marks_since k.place)
    && list_all (stays_held x.number k.place) o.locks

-- what RollbackToSP is refused for in the workspace
abbrev pub rolling_faults : Outline → SpaceOutline → SavepointFields → List (Option Refusal)
rolling_faults o x k =
    refused_for (session_inside x.fields.name) (first_session (stands_behind x k) o.sessions)
    ∷ refused_for dependent_child (first_named (depends o.sessions x k) o)
    ∷ refused_if (not (k.rebases == x.fields.rebases)) (rebased_since k.name)
    ∷ resolve_fault o x
    ∷ (if is_still o x k then None else spent o)
    ∷ []

-- the workspace is as it was at the savepoint
abbrev pub rolling : Outline → SpaceOutline → SavepointFields → Plan
rolling o x k = doing (rolling_faults o x k) (if is_still o x k then [] else edits.Restore x.number k.making ∷ [])

-- RollbackToSP takes a workspace back to one of its savepoints
abbrev pub rollback_plan : List Arg → Outline → Plan
rollback_plan args o =
    let workspace = workspace_given procedures.RollbackToSp args in
    for_text (text_given procedures.RollbackToSp args parameters.SavepointName) (argument_fault procedures.RollbackToSp args)
    (λ name.
    also (refused_if (bytes_eq name latest) (reserved_name name) ∷ misfit procedures.RollbackToSp args ∷ [])
    (for_named (no_workspace workspace) (λ x. for_savepoint (no_savepoint name) (rolling o x) (savepoint_called name x)) (space_named workspace o)))

-- ---- gone

-- a session stands in the workspace of a number
abbrev pub stands_in : ℕ → Session → Bool
stands_in n session = session.space == n

-- what a workspace is refused for that is to go: a session stands in it, or another workspace on it
abbrev pub going_faults : Outline → SpaceOutline → List (Option Refusal)
going_faults o x =
    refused_for (session_inside x.fields.name) (first_session (stands_in x.number) o.sessions)
    ∷ refused_for (has_child x.fields.name) (first_named (is_child_of x.number) o)
    ∷ []

-- what RemoveWorkspace is refused for
abbrev pub removing_faults : List ℕ → Outline → SpaceOutline → List (Option Refusal)
removing_faults name o x = refused_if (x.number == 0) (no_parent name) ∷ (going_faults o x ++ resolve_fault o x ∷ spent o ∷ [])

-- the workspace goes, and the session that froze it for itself, if one did, does not hold it any more
abbrev pub removing : List ℕ → Outline → SpaceOutline → Plan
removing name o x = record { faults = removing_faults name o x; edits = edits.Remove x.number ∷ []; seating = Thaw x.number; answer = Fine }

-- RemoveWorkspace ends a workspace, which is not LIVE
abbrev pub remove_plan : List Arg → Outline → Plan
remove_plan args o =
    let name = workspace_given procedures.RemoveWorkspace args in
    also (misfit procedures.RemoveWorkspace args ∷ []) (for_named (no_workspace name) (removing name o) (space_named name o))
