-- CreateWorkspace, GotoWorkspace and SetConflictWorkspace.
use Rattle.std.specs.Prelude.{ℕ, ◌+◌, Bool, true, false, not, List, [], ◌∷◌, ◌++◌, nat_le, nat_lt, length, is_some, Option, None, Some, codes}
use Rattle.std.specs.Fmt.{decimal}
use Rattle.wm_base.specs.declared.refusal.Refusal.{Refusal}
use Rattle.wm_calls.specs.Arguments.{text_given}
use Rattle.wm_calls.specs.Faults.{argument_fault}
use Rattle.wm_grammar.specs.declared.procedure.Procedure.TheVariants as procedures
use Rattle.wm_grammar.specs.declared.procedure.Parameter.TheVariants as parameters
use Rattle.wm_outline.specs.Outline.{Outline, SpaceOutline}
use Rattle.wm_state.specs.Editing.{implicit_front, number_limit}
use Rattle.wm_state.specs.State.{At, Dated, Latest, Session, Stand}
use Rattle.wm_state.specs.declared.edit.Edit.TheVariants as edits
use Rattle.wm_syntax.specs.declared.statement.Arg.{Arg}
use Rattle.wm_model.specs.Step.Given.{misfit, naming_faults, workspace_given}
use Rattle.wm_model.specs.Step.Naming.{names_no_workspace}
use Rattle.wm_model.specs.Step.Plans.{Plan, also, doing, for_home, for_named, for_text, savepoint_at, savepoint_called, setting, space_named, spent}
use Rattle.wm_model.specs.Step.Refusing.{at_its_end, most_savepoints, most_workspaces, no_savepoint, no_workspace, not_latest, refused_if, savepoint_there, workspace_there}
use Rattle.wm_model.specs.Step.Sessions as settings

-- ---- CreateWorkspace

-- the name of the implicit savepoint that comes next in a workspace
abbrev pub implicit_next : SpaceOutline → List ℕ
implicit_next x = implicit_front ++ decimal x.fields.next_implicit

-- the next place behind a savepoint that is made where one stands: at a savepoint none is given
abbrev pub place_after : SpaceOutline → Stand → ℕ
place_after x Latest = x.fields.next_place + 1
place_after x (At making) = x.fields.next_place
place_after x (Dated date) = x.fields.next_place

-- one stands on a date
abbrev pub is_dated : Stand → Bool
is_dated (Dated date) = true
is_dated Latest = false
is_dated (At making) = false

-- the making of the savepoint at which one stands
abbrev pub making_stood : Stand → Option ℕ
making_stood Latest = None
making_stood (At making) = Some making
making_stood (Dated date) = None

-- one stands at a savepoint that is not there, which no line leads to
abbrev pub stands_nowhere : SpaceOutline → Stand → Bool
stands_nowhere x Latest = false
stands_nowhere x (At making) = not (is_some (savepoint_at making x))
stands_nowhere x (Dated date) = false

-- a counter that it needs is at its end
abbrev pub counting_faults : Stand → Outline → SpaceOutline → List (Option Refusal)
counting_faults stand o x =
    refused_if (nat_lt number_limit (place_after x stand)) (at_its_end (codes "PLACE"))
    ∷ refused_if (nat_lt number_limit (x.fields.next_implicit + 1)) (at_its_end (codes "ICP"))
    ∷ refused_if (nat_lt number_limit o.next_space) (at_its_end (codes "WORKSPACE"))
    ∷ spent o
    ∷ []

-- what CreateWorkspace is refused for in the session's workspace
abbrev pub bearing_faults : Stand → List ℕ → Outline → SpaceOutline → List (Option Refusal)
bearing_faults stand name o x =
    refused_if (is_some (space_named name o)) (workspace_there name)
    ∷ refused_if (stands_nowhere x stand) (no_savepoint [])
    ∷ refused_if (is_some (savepoint_called (implicit_next x) x)) (savepoint_there (implicit_next x))
    ∷ refused_if (is_dated stand) not_latest
    ∷ refused_if (nat_le 1024 o.space_count) most_workspaces
    ∷ refused_if (nat_le 4096 (length x.savepoints)) most_savepoints
    ∷ counting_faults stand o x

-- a workspace is born where the session stands
abbrev pub bearing : Session → List ℕ → Outline → SpaceOutline → Plan
bearing session name o x = doing (bearing_faults session.stand name o x) (edits.Bear x.number (making_stood session.stand) name ∷ [])

-- CreateWorkspace makes a child of the session's workspace
abbrev pub create_workspace_plan : Session → List Arg → Outline → Plan
create_workspace_plan session args o =
    for_text (text_given procedures.CreateWorkspace args parameters.Workspace) (argument_fault procedures.CreateWorkspace args)
    (λ name.
    also (naming_faults name (names_no_workspace name) ++ misfit procedures.CreateWorkspace args ∷ []) (for_home (bearing session name o) session o))

-- ---- where a session stands, and which conflicts it looks at

-- GotoWorkspace stands the session in a workspace, at what is newest
abbrev pub goto_workspace_plan : Session → List Arg → Outline → Plan
goto_workspace_plan session args o =
    let name = workspace_given procedures.GotoWorkspace args in
    also (misfit procedures.GotoWorkspace args ∷ [])
    (for_named (no_workspace name) (λ x. setting [] session (settings.Stand x.number Latest)) (space_named name o))

-- SetConflictWorkspace has the session look at the conflicts of a workspace
abbrev pub set_conflict_plan : Session → List Arg → Outline → Plan
set_conflict_plan session args o =
    let name = workspace_given procedures.SetConflictWorkspace args in
    also (misfit procedures.SetConflictWorkspace args ∷ [])
    (for_named (no_workspace name) (λ x. setting [] session (settings.Conflict name)) (space_named name o))
