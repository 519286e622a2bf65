-- CreateSavepoint and GotoSavepoint.
use Rattle.std.specs.Prelude.{ℕ, ◌+◌, List, [], ◌∷◌, ◌++◌, nat_le, nat_lt, if◌then◌else◌, length, is_some, unwrap_or, Option, codes}
use Rattle.std.specs.Str.{bytes_eq}
use Rattle.wm_base.specs.declared.refusal.Refusal.{Refusal}
use Rattle.wm_calls.specs.Arguments.{text_given}
use Rattle.wm_calls.specs.Faults.{argument_fault}
use Rattle.wm_grammar.specs.declared.procedure.Procedure.TheVariants as procedures
use Rattle.wm_grammar.specs.declared.procedure.Parameter.TheVariants as parameters
use Rattle.wm_outline.specs.Outline.{Outline, SpaceOutline}
use Rattle.wm_state.specs.Editing.{number_limit}
use Rattle.wm_state.specs.State.{At, Latest, Session, Stand}
use Rattle.wm_state.specs.declared.edit.Edit.TheVariants as edits
use Rattle.wm_syntax.specs.declared.statement.Arg.{Arg}
use Rattle.wm_model.specs.Step.Given.{misfit, naming_faults, workspace_given}
use Rattle.wm_model.specs.Step.Naming.{latest, names_no_savepoint}
use Rattle.wm_model.specs.Step.Plans.{Plan, also, doing, for_home, for_named, for_savepoint, for_text, savepoint_called, setting, space_named, spent}
use Rattle.wm_model.specs.Step.Refusing.{at_its_end, most_savepoints, no_savepoint, no_workspace, refused_if, savepoint_there}
use Rattle.wm_model.specs.Step.Sessions as settings

-- ---- CreateSavepoint

-- what it is refused for in the workspace
abbrev pub saving_faults : List ℕ → Outline → SpaceOutline → List (Option Refusal)
saving_faults name o x =
    refused_if (is_some (savepoint_called name x)) (savepoint_there name)
    ∷ refused_if (nat_le 4096 (length x.savepoints)) most_savepoints
    ∷ refused_if (nat_lt number_limit (x.fields.next_place + 1)) (at_its_end (codes "PLACE"))
    ∷ spent o
    ∷ []

abbrev pub saving : List ℕ → Outline → SpaceOutline → Plan
saving name o x = doing (saving_faults name o x) (edits.Save x.number name ∷ [])

-- CreateSavepoint keeps what is newest in a workspace under a name
abbrev pub create_savepoint_plan : List Arg → Outline → Plan
create_savepoint_plan args o =
    let workspace = workspace_given procedures.CreateSavepoint args in
    for_text (text_given procedures.CreateSavepoint args parameters.SavepointName) (argument_fault procedures.CreateSavepoint args)
    (λ name.
    also (naming_faults name (names_no_savepoint name) ++ misfit procedures.CreateSavepoint args ∷ [])
    (for_named (no_workspace workspace) (saving name o) (space_named workspace o)))

-- ---- GotoSavepoint

-- the session stands so in its workspace
abbrev pub standing : Session → Stand → Plan
standing session stand = setting [] session (settings.Stand session.space stand)

-- GotoSavepoint stands the session at a savepoint of its workspace, or at what is newest
abbrev pub goto_savepoint_plan : Session → List Arg → Outline → Plan
goto_savepoint_plan session args o =
    let name = unwrap_or (text_given procedures.GotoSavepoint args parameters.SavepointName) latest in
    also (misfit procedures.GotoSavepoint args ∷ [])
    (if bytes_eq name latest then standing session Latest else
    for_home (λ x. for_savepoint (no_savepoint name) (λ k. standing session (At k.making)) (savepoint_called name x)) session o)
