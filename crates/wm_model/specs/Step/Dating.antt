-- GotoDate.
use Rattle.std.specs.Prelude.{ℕ, nat_lt, min, List, [], ◌∷◌, Option, unwrap_or}
use Rattle.std.specs.Option.{option_and_then}
use Rattle.wm_base.specs.declared.instant.TheConstants.{END}
use Rattle.wm_base.specs.declared.refusal.Refusal.{Refusal}
use Rattle.wm_calls.specs.Arguments.{moment_given}
use Rattle.wm_calls.specs.Faults.{argument_fault}
use Rattle.wm_grammar.specs.declared.procedure.Procedure.TheVariants as procedures
use Rattle.wm_grammar.specs.declared.procedure.Parameter.TheVariants as parameters
use Rattle.wm_outline.specs.Outline.{Outline, SpaceOutline}
use Rattle.wm_print.specs.Texts.{Fine}
use Rattle.wm_state.specs.State.{Dated, Session}
use Rattle.wm_syntax.specs.declared.statement.Arg.{Arg}
use Rattle.wm_model.specs.Seating.{Set}
use Rattle.wm_model.specs.Step.Plans.{Plan, space_numbered}
use Rattle.wm_model.specs.Step.Refusing.{date_before, mistyped, refused_for, refused_if}
use Rattle.wm_model.specs.Step.Sessions as settings

-- the date is before the birth of the workspace; no line is run behind the end of time
abbrev pub early_fault : ℕ → SpaceOutline → Option Refusal
early_fault date x = refused_if (nat_lt date x.fields.born) (date_before x.fields.name (min x.fields.born END))

-- GotoDate stands the session on a date in its workspace
abbrev pub goto_date_plan : Session → List Arg → Outline → Plan
goto_date_plan session args o =
    let date = unwrap_or (moment_given procedures.GotoDate args parameters.InDate) 0 in
    record {
      faults = refused_for mistyped (argument_fault procedures.GotoDate args) ∷ option_and_then (early_fault date) (space_numbered session.space o) ∷ [];
      edits = [];
      seating = Set session.name (settings.Stand session.space (Dated date));
      answer = Fine;
    }
