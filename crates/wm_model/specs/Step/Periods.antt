-- The period in which a session sees rows and changes them.
use Rattle.std.specs.Prelude.{ℕ, nat_lt, not, if◌then◌else◌, List, [], ◌∷◌, unwrap_or, Option, None, Some}
use Rattle.wm_base.specs.Period.{Span, always}
use Rattle.wm_base.specs.declared.instant.TheConstants.{END}
use Rattle.wm_calls.specs.Arguments.{moment_given}
use Rattle.wm_grammar.specs.declared.procedure.Procedure.TheVariants.{SetValidTime}
use Rattle.wm_grammar.specs.declared.procedure.Parameter.TheVariants as parameters
use Rattle.wm_spec.specs.declared.record.table.Table.{Table}
use Rattle.wm_state.specs.State.{Session}
use Rattle.wm_syntax.specs.declared.statement.Arg.{Arg}
use Rattle.wm_model.specs.Step.Given.{misfit}
use Rattle.wm_model.specs.Step.Plans.{Plan, also, setting}
use Rattle.wm_model.specs.Step.Refusing.{empty_period, refused_if}
use Rattle.wm_model.specs.Step.Sessions as settings

-- the period in which a session sees rows of a table and changes them: all of time where the table has no valid time, and else the one
-- that is set for the session, or what is left of time
abbrev pub within : ℕ → Session → Table → Span
within moment session table = if table.valid then unwrap_or session.period (record { from = moment; till = END }) else always

-- a period that is told, which is one of a table with valid time
abbrev pub told_period : Table → Span → Option Span
told_period table period = if table.valid then Some period else None

-- SetValidTime sets the period from a moment to another, or sets none
abbrev pub set_valid_time_plan : Session → List Arg → Plan
set_valid_time_plan session args = also (misfit SetValidTime args ∷ []) (from (moment_given SetValidTime args parameters.ValidFrom))
  where
    till : ℕ
    till = unwrap_or (moment_given SetValidTime args parameters.ValidTill) END

    from : Option ℕ → Plan
    from None = setting [] session (settings.Period None)
    from (Some moment) = setting (refused_if (not (nat_lt moment till)) empty_period ∷ []) session (settings.Period (Some (record { from = moment; till = till })))
