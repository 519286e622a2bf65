-- The points that a session compares, and SetDiffVersions.
use Rattle.std.specs.Prelude.{ℕ, Bool, false, if◌then◌else◌, List, [], ◌∷◌, length, is_some, Option, None, Some, unwrap_or}
use Rattle.std.specs.List.{list_any}
use Rattle.std.specs.Option.{option_and_then, option_map_or, option_or}
use Rattle.std.specs.Str.{bytes_eq}
use Rattle.wm_calls.specs.Arguments.{text_given}
use Rattle.wm_calls.specs.Faults.{argument_fault, count_asked}
use Rattle.wm_grammar.specs.declared.procedure.Procedure.TheVariants as procedures
use Rattle.wm_grammar.specs.declared.procedure.Parameter.{Parameter}
use Rattle.wm_grammar.specs.declared.procedure.Parameter.TheVariants as parameters
use Rattle.wm_outline.specs.Outline.{Outline, SpaceOutline}
use Rattle.wm_print.specs.Texts.{Fine}
use Rattle.wm_state.specs.Standing.{SavepointFields}
use Rattle.wm_state.specs.State.{Difference, Session, Viewpoint}
use Rattle.wm_syntax.specs.declared.statement.Arg.{Arg}
use Rattle.wm_model.specs.Seating.{Set}
use Rattle.wm_model.specs.Step.Naming.{latest}
use Rattle.wm_model.specs.Step.Plans.{Plan, space_named}
use Rattle.wm_model.specs.Step.Refusing.{miscounted, mistyped, no_savepoint, no_workspace, refused_for}
use Rattle.wm_model.specs.Step.Sessions as settings

-- ---- what is not there

-- the name, where no workspace has it
abbrev pub lost_workspace : Outline → List ℕ → Option (List ℕ)
lost_workspace o name = if is_some (space_named name o) then None else Some name

abbrev pub has_savepoint : List ℕ → SpaceOutline → Bool
has_savepoint name x = list_any (λ (k : SavepointFields). bytes_eq name k.name) x.savepoints

-- the savepoint of a point, where its workspace has none of that name
abbrev pub lost_savepoint : Outline → Viewpoint → Option (List ℕ)
lost_savepoint o v = option_and_then (λ (name : List ℕ). if option_map_or (has_savepoint name) (space_named v.workspace o) false then None else Some name) v.savepoint

-- of two points the first comes first
abbrev pub lost_workspaces : Outline → Difference → Option (List ℕ)
lost_workspaces o d = option_or (lost_workspace o d.first.workspace) (lost_workspace o d.second.workspace)

abbrev pub lost_savepoints : Outline → Difference → Option (List ℕ)
lost_savepoints o d = option_or (lost_savepoint o d.first) (lost_savepoint o d.second)

-- ---- SetDiffVersions

-- LATEST is what is newest
abbrev pub savepoint_meant : Option (List ℕ) → Option (List ℕ)
savepoint_meant None = None
savepoint_meant (Some name) = if bytes_eq name latest then None else Some name

abbrev pub viewpoint_given : List Arg → Parameter → Parameter → Viewpoint
viewpoint_given args workspace savepoint = record {
  workspace = unwrap_or (text_given procedures.SetDiffVersions args workspace) [];
  savepoint = savepoint_meant (text_given procedures.SetDiffVersions args savepoint);
}

abbrev pub difference_given : List Arg → Difference
difference_given args = record {
  first = viewpoint_given args parameters.Workspace1 parameters.Savepoint1;
  second = viewpoint_given args parameters.Workspace2 parameters.Savepoint2;
}

-- SetDiffVersions has the session compare two points
abbrev pub set_difference_plan : Session → List Arg → Outline → Plan
set_difference_plan session args o =
    let d = difference_given args in
    record {
      faults =
          refused_for miscounted (count_asked (length args))
          ∷ refused_for mistyped (argument_fault procedures.SetDiffVersions args)
          ∷ refused_for no_workspace (lost_workspaces o d)
          ∷ refused_for no_savepoint (lost_savepoints o d)
          ∷ [];
      edits = [];
      seating = Set session.name (settings.Compare d);
      answer = Fine;
    }
