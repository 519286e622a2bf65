-- Calls that are plans of the outline: their plans fit the records that they stand on.
use Rattle.std.proofs.Common.{◌≡◌, ◌≤◌, ℕ, nat_lt, true, length, List, None, Some, Result, IfOk, refl}
use Rattle.std.proofs.lemmas.Bool.{false≢true}
use Rattle.std.specs.List.{list_all}
use Rattle.wm_base.specs.declared.instant.TheConstants.{END}
use Rattle.wm_base.specs.declared.memory.Memory.{Memory}
use Rattle.wm_calls.specs.Faults.{argument_fault}
use Rattle.wm_freezing.proofs.Thawing.{fits_unfreeze}
use Rattle.wm_grammar.specs.declared.procedure.Parameter.TheVariants as parameters
use Rattle.wm_grammar.specs.declared.procedure.Procedure.{Procedure}
use Rattle.wm_grammar.specs.declared.procedure.Procedure.TheVariants as procedures
use Rattle.wm_graph.specs.Parts.{parts_of}
use Rattle.wm_graph.specs.Rules.{keep_rules}
use Rattle.wm_ground.specs.Grounds.{outline_on}
use Rattle.wm_ground.specs.Outcomes.{outcome_view}
use Rattle.wm_ground.specs.declared.ground.Ground.{Ground}
use Rattle.wm_locking.proofs.Lines.{can_unlock_rows, unlock_rows_idles, unlock_rows_seats}
use Rattle.wm_locking.proofs.Modes.{fits_set_locking}
use Rattle.wm_locking.specs.Asked.{asking_of}
use Rattle.wm_model.specs.Step.{Asking, Plan, begin_resolve_plan, create_savepoint_plan, create_workspace_plan, enable_plan, goto_date_plan, goto_savepoint_plan, goto_workspace_plan, mode_given, not_built, outcome, refusing, remove_plan, rollback_plan, rollback_resolve_plan, run, set_conflict_plan, set_difference_plan, set_locking_plan, set_valid_time_plan, unfreeze_plan, unlock_rows_plan}
use Rattle.wm_outcome.proofs.Bearing.{fits_create_workspace, forks_create_workspace}
use Rattle.wm_outcome.proofs.Fitting.{fits_refusing}
use Rattle.wm_outcome.proofs.Going.{fits_goto_date, fits_set_difference, goto_savepoint_fits, goto_workspace_fits, set_conflict_fits, set_valid_time_fits}
use Rattle.wm_outcome.proofs.Opening.{begin_resolve_fits, rollback_resolve_fits}
use Rattle.wm_outcome.proofs.Removing.{fits_remove}
use Rattle.wm_outcome.proofs.Rolling.{fits_rollback}
use Rattle.wm_outcome.proofs.Saving.{fits_create_savepoint, forks_create_savepoint}
use Rattle.wm_outcome.proofs.Tables.{enable_fits}
use Rattle.wm_outcome.proofs.Told.{told_idle}
use Rattle.wm_outcome.specs.Fitting.{Fits}
use Rattle.wm_outline.specs.Outline.{Outline, outline, outline_of}
use Rattle.wm_plan.proofs.Planning.{early}
use Rattle.wm_plan.specs.declared.planned.Planned.{Planned}
use Rattle.wm_spec.specs.declared.record.stored.Stored.{Stored}
use Rattle.wm_state.specs.Drafts.{is_fork}
use Rattle.wm_state.specs.State.{Session, State}
use Rattle.wm_engine.proofs.Performing.{fitting}
use Rattle.wm_engine.specs.ForkLines.{forks_call}
use Rattle.wm_engine.specs.Performing.{Performs, called_with}
use Rattle.wm_engine.specs.declared.plan.call.Called.{Called}

-- the plan of a call, where that looks at nothing but the outline; that of FreezeWorkspace fits for a user that a record has room for
abbrev pub plan_called : Session → Called → Procedure → Outline → Plan
plan_called session called procedures.EnableVersioning o = enable_plan called.given.args.now o
plan_called session called procedures.CreateWorkspace o = create_workspace_plan session called.given.args.now o
plan_called session called procedures.CreateSavepoint o = create_savepoint_plan called.given.args.now o
plan_called session called procedures.GotoWorkspace o = goto_workspace_plan session called.given.args.now o
plan_called session called procedures.GotoSavepoint o = goto_savepoint_plan session called.given.args.now o
plan_called session called procedures.GotoDate o = goto_date_plan session called.given.args.now o
plan_called session called procedures.SetDiffVersions o = set_difference_plan session called.given.args.now o
plan_called session called procedures.SetConflictWorkspace o = set_conflict_plan session called.given.args.now o
plan_called session called procedures.SetValidTime o = set_valid_time_plan session called.given.args.now
plan_called session called procedures.RollbackToSp o = rollback_plan called.given.args.now o
plan_called session called procedures.RemoveWorkspace o = remove_plan called.given.args.now o
plan_called session called procedures.UnfreezeWorkspace o = unfreeze_plan called.given.args.now o
plan_called session called procedures.SetLockingOn o =
    set_locking_plan session (argument_fault procedures.SetLockingOn called.given.args.now) (Some (mode_given procedures.SetLockingOn called.given.args.now parameters.LockMode))
plan_called session called procedures.SetLockingOff o = set_locking_plan session (argument_fault procedures.SetLockingOff called.given.args.now) None
plan_called session called procedures.UnlockRows o = unlock_rows_plan session (asking_of procedures.UnlockRows called.given called.empty) o
plan_called session called procedures.BeginResolve o = begin_resolve_plan session called.given.args.now o
plan_called session called procedures.RollbackResolve o = rollback_resolve_plan session called.given.args.now o
plan_called session called _ o = refusing not_built

module _ (rs : List Stored) (xs : List Session) (m : ℕ) (rules : keep_rules (parts_of rs) ≡ true) (early : nat_lt m END ≡ true) (session : Session) (called : Called) where
  fits_unlock_rows : (a : Asking) → Fits rs m (unlock_rows_plan session a (outline_of (parts_of rs) xs m))
  fits_unlock_rows a = record {
    can = can_unlock_rows session a rs xs m rules early _ refl;
    seats = unlock_rows_seats session a (parts_of rs) (outline_of (parts_of rs) xs m) _ refl;
    idle = told_idle (unlock_rows_plan session a (outline_of (parts_of rs) xs m)) (unlock_rows_idles session a (outline_of (parts_of rs) xs m));
  }

  fits_called : (procedure : Procedure) → Fits rs m (plan_called session called procedure (outline_of (parts_of rs) xs m))
  fits_called procedures.EnableVersioning = enable_fits rs xs m rules early called.given.args.now
  fits_called procedures.CreateWorkspace = fits_create_workspace rs xs m rules early session called.given.args.now
  fits_called procedures.CreateSavepoint = fits_create_savepoint rs xs m rules early called.given.args.now
  fits_called procedures.GotoWorkspace = goto_workspace_fits rs xs m rules early session called.given.args.now
  fits_called procedures.GotoSavepoint = goto_savepoint_fits rs xs m rules early session called.given.args.now
  fits_called procedures.GotoDate = fits_goto_date rs xs m rules early session called.given.args.now
  fits_called procedures.SetDiffVersions = fits_set_difference rs xs m rules early session called.given.args.now
  fits_called procedures.SetConflictWorkspace = set_conflict_fits rs xs m rules early session called.given.args.now
  fits_called procedures.SetValidTime = set_valid_time_fits rs xs m rules early session called.given.args.now
  fits_called procedures.RollbackToSp = fits_rollback rs xs m rules early called.given.args.now
  fits_called procedures.RemoveWorkspace = fits_remove rs xs m rules early called.given.args.now
  fits_called procedures.UnfreezeWorkspace = fits_unfreeze rs xs m rules early called.given.args.now
  fits_called procedures.SetLockingOn = fits_set_locking rs m session _ _
  fits_called procedures.SetLockingOff = fits_set_locking rs m session _ None
  fits_called procedures.UnlockRows = fits_unlock_rows (asking_of procedures.UnlockRows called.given called.empty)
  fits_called procedures.BeginResolve = begin_resolve_fits rs xs m rules early session called.given.args.now
  fits_called procedures.RollbackResolve = rollback_resolve_fits rs xs m rules early session called.given.args.now
  fits_called _ = fits_refusing rs m not_built

module _ (session : Session) (called : Called) where
  forks_called : (o : Outline) (procedure : Procedure) → forks_call (Some procedure) ≡ true
      → (list_all is_fork (outcome (plan_called session called procedure o)).edits ≡ true) × (length (outcome (plan_called session called procedure o)).edits ≤ 1)
  forks_called o procedures.CreateWorkspace is = forks_create_workspace session called.given.args.now o
  forks_called o procedures.CreateSavepoint is = forks_create_savepoint called.given.args.now o
  forks_called o _ is = absurd (false≢true is)

  -- such a call performs its plan
  pub performs_called : (g : Ground) (procedure : Procedure) (r : Result Planned Memory) → IfOk r (λ p. outcome_view p ≡ outcome (plan_called session called procedure (outline_on g)))
      → ((s : State) → called_with session (Some procedure) called s ≡ run (plan_called session called procedure (outline s)) s) → IfOk r (Performs g (called_with session (Some procedure) called) (forks_call (Some procedure)) None)
  performs_called g procedure r is alike =
      fitting g (called_with session (Some procedure) called) (plan_called session called procedure) (forks_call (Some procedure)) r is
      (fits_called g.image.now g.sessions.now g.moment g.rules (early g.moment g.early) session called procedure) alike (forks_called (outline_on g) procedure)
