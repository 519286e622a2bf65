-- Calls, by what is given for their parameters.
use Rattle.std.specs.Prelude.{ℕ, List, [], Bool, if◌then◌else◌, unwrap_or, Option, None, Some, codes}
use Rattle.wm_syntax.specs.Trees.{Cond}
use Rattle.wm_syntax.specs.declared.statement.Arg.{Arg}
use Rattle.wm_grammar.specs.declared.procedure.Procedure.{Procedure}
use Rattle.wm_grammar.specs.declared.procedure.Procedure.TheVariants as procedures
use Rattle.wm_grammar.specs.declared.procedure.Parameter.TheVariants as parameters
use Rattle.wm_calls.specs.Arguments.{text_given, is_true_given}
use Rattle.wm_calls.specs.Faults.{argument_fault}
use Rattle.wm_calls.specs.Takes.{is_written}
use Rattle.wm_decided.specs.declared.keep.Keep.{Keep}
use Rattle.wm_decided.specs.declared.keep.Keep.TheVariants.{Parent, Child, Base}
use Rattle.wm_reader.specs.Reading.{folded}
use Rattle.wm_outline.specs.Outline.{outline}
use Rattle.wm_state.specs.State.{State, Session}
use Rattle.wm_print.specs.Texts.{Answer}
use Rattle.wm_model.specs.Step.Refusing.{not_built, mistyped, unless_mistyped}
use Rattle.wm_model.specs.Step.Given.{workspace_given}
use Rattle.wm_model.specs.Step.Faulting.{fault_around}
use Rattle.wm_model.specs.Step.Freezing.{freeze_plan, unfreeze_plan}
use Rattle.wm_model.specs.Step.Locking.{Asking, lock_rows_plan, mode_given, rows_meant, set_locking_plan, unlock_rows_plan}
use Rattle.wm_model.specs.Step.Comparing.{set_difference_plan}
use Rattle.wm_model.specs.Step.Dating.{goto_date_plan}
use Rattle.wm_model.specs.Step.Plans.{run}
use Rattle.wm_model.specs.Step.Tables.{enable_plan}
use Rattle.wm_model.specs.Step.Periods.{set_valid_time_plan}
use Rattle.wm_model.specs.Step.Savepoints.{create_savepoint_plan, goto_savepoint_plan}
use Rattle.wm_model.specs.Step.Workspaces.{create_workspace_plan, goto_workspace_plan, set_conflict_plan}
use Rattle.wm_model.specs.Step.Undoing.{remove_plan, rollback_plan}
use Rattle.wm_model.specs.Step.Merging.{Asked, merge_workspace, refresh_workspace}
use Rattle.wm_model.specs.Step.Resolving.{begin_resolve_plan, commit_resolve, resolve_conflicts, rollback_resolve_plan}

-- what is done with a text that is given for a parameter that the call requires; where it is not, something is wrong with the arguments
abbrev pub given : Option (List ℕ) → Option (List ℕ) → State → (List ℕ → State × Answer) → State × Answer
given None fault s act = (s, mistyped (unwrap_or fault []))
given (Some text) fault s act = act text

-- what the arguments of a merge ask for besides
abbrev pub merge_asked : List Arg → Asked
merge_asked args = record {
  keeps = is_true_given procedures.MergeWorkspace args parameters.CreateSavepoint;
  removes = is_true_given procedures.MergeWorkspace args parameters.RemoveWorkspace;
}

-- the side that a decision is to keep, by its word
abbrev pub keep_in : List ℕ → Keep
keep_in word = if is_written word (codes "PARENT") then Parent else (if is_written word (codes "CHILD") then Child else Base)

abbrev pub keep_given : List Arg → Keep
keep_given args = keep_in (unwrap_or (text_given procedures.ResolveConflicts args parameters.Keep) [])

-- a call without a condition, by the arguments for its parameters
abbrev pub call : Session → Option Procedure → List Arg → State → State × Answer
call session (Some procedures.EnableVersioning) args s = run (enable_plan args (outline s)) s
call session (Some procedures.CreateWorkspace) args s = run (create_workspace_plan session args (outline s)) s
call session (Some procedures.CreateSavepoint) args s = run (create_savepoint_plan args (outline s)) s
call session (Some procedures.GotoWorkspace) args s = run (goto_workspace_plan session args (outline s)) s
call session (Some procedures.GotoSavepoint) args s = run (goto_savepoint_plan session args (outline s)) s
call session (Some procedures.GotoDate) args s = run (goto_date_plan session args (outline s)) s
call session (Some procedures.SetDiffVersions) args s = run (set_difference_plan session args (outline s)) s
call session (Some procedures.SetValidTime) args s = run (set_valid_time_plan session args) s
call session (Some procedures.SetConflictWorkspace) args s = run (set_conflict_plan session args (outline s)) s
call session (Some procedures.RollbackToSp) args s = run (rollback_plan args (outline s)) s
call session (Some procedures.RemoveWorkspace) args s = run (remove_plan args (outline s)) s
call session (Some procedures.RefreshWorkspace) args s =
    let fault = argument_fault procedures.RefreshWorkspace args in
    unless_mistyped fault s (refresh_workspace session (workspace_given procedures.RefreshWorkspace args) s)
call session (Some procedures.MergeWorkspace) args s =
    let fault = argument_fault procedures.MergeWorkspace args in
    unless_mistyped fault s (merge_workspace session (merge_asked args) (workspace_given procedures.MergeWorkspace args) s)
call session (Some procedures.FreezeWorkspace) args s = run (freeze_plan session args (outline s)) s
call session (Some procedures.UnfreezeWorkspace) args s = run (unfreeze_plan args (outline s)) s
call session (Some procedures.SetLockingOn) args s =
    run (set_locking_plan session (argument_fault procedures.SetLockingOn args) (Some (mode_given procedures.SetLockingOn args parameters.LockMode))) s
call session (Some procedures.SetLockingOff) args s = run (set_locking_plan session (argument_fault procedures.SetLockingOff args) None) s
call session (Some procedures.BeginResolve) args s = run (begin_resolve_plan session args (outline s)) s
call session (Some procedures.CommitResolve) args s =
    let fault = argument_fault procedures.CommitResolve args in
    unless_mistyped fault s (commit_resolve session (workspace_given procedures.CommitResolve args) s)
call session (Some procedures.RollbackResolve) args s = run (rollback_resolve_plan session args (outline s)) s
call session _ args s = (s, not_built)

-- a call that may have a condition; empty: a period in it is
abbrev pub call_with : Session → Option Procedure → List Arg → Option Cond → Bool → State → State × Answer
call_with session (Some procedures.ResolveConflicts) args condition empty s =
    given (text_given procedures.ResolveConflicts args parameters.TableName) (argument_fault procedures.ResolveConflicts args) s
    (λ name.
    resolve_conflicts session (workspace_given procedures.ResolveConflicts args) (folded name) condition (keep_given args)
    (fault_around procedures.ResolveConflicts args) empty s)
call_with session (Some procedures.LockRows) args condition empty s =
    let a : Asking = record { procedure = procedures.LockRows; args = args; condition = condition; empty = empty } in
    run (lock_rows_plan session a (rows_meant session a s) (outline s)) s
call_with session (Some procedures.UnlockRows) args condition empty s =
    let a : Asking = record { procedure = procedures.UnlockRows; args = args; condition = condition; empty = empty } in
    run (unlock_rows_plan session a (outline s)) s
call_with session procedure args condition empty s = call session procedure args s
