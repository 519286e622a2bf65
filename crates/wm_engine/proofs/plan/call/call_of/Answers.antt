use Rattle.std.proofs.Common.{false, Some, refl}
use Rattle.wm_calls.specs.Arguments.{is_true_given}
use Rattle.wm_freezing.proofs.Freezing.{fits_freeze}
use Rattle.wm_grammar.specs.declared.procedure.Parameter.TheVariants as parameters
use Rattle.wm_grammar.specs.declared.procedure.Procedure.TheVariants as procedures
use Rattle.wm_locking.proofs.Lines.{does_lock}
use Rattle.wm_locking.specs.Asked.{asking_of}
use Rattle.wm_model.specs.Step.{call, freeze_plan}
use Rattle.wm_plan.proofs.Planning.{early, for_one, for_open}
use Rattle.wm_engine.proofs.Calls.{performs_called}
use Rattle.wm_engine.proofs.Performing.{fitting_plain, netting, plain}
use Rattle.wm_engine.specs.Performing.{called_with}
use Rattle.wm_engine.proofs.plan.call.call_of.Goals as goal

-- ---- plans of the outline

pub returns-in-EnableVersioning : goal.returns-in-EnableVersioning
returns-in-EnableVersioning c = rw c.in-EnableVersioning.is (performs_called c.args.session.now c.args.called c.args.ground procedures.EnableVersioning c.enable_plan.result c.enable_plan.ensures (λ s. refl))

pub returns-in-CreateWorkspace : goal.returns-in-CreateWorkspace
returns-in-CreateWorkspace c = rw c.in-CreateWorkspace.is (performs_called c.args.session.now c.args.called c.args.ground procedures.CreateWorkspace c.create_workspace_plan.result c.create_workspace_plan.ensures (λ s. refl))

pub returns-in-CreateSavepoint : goal.returns-in-CreateSavepoint
returns-in-CreateSavepoint c = rw c.in-CreateSavepoint.is (performs_called c.args.session.now c.args.called c.args.ground procedures.CreateSavepoint c.create_savepoint_plan.result c.create_savepoint_plan.ensures (λ s. refl))

pub returns-in-GotoWorkspace : goal.returns-in-GotoWorkspace
returns-in-GotoWorkspace c = rw c.in-GotoWorkspace.is (performs_called c.args.session.now c.args.called c.args.ground procedures.GotoWorkspace c.goto_workspace_plan.result c.goto_workspace_plan.ensures (λ s. refl))

pub returns-in-GotoSavepoint : goal.returns-in-GotoSavepoint
returns-in-GotoSavepoint c = rw c.in-GotoSavepoint.is (performs_called c.args.session.now c.args.called c.args.ground procedures.GotoSavepoint c.goto_savepoint_plan.result c.goto_savepoint_plan.ensures (λ s. refl))

pub returns-in-GotoDate : goal.returns-in-GotoDate
returns-in-GotoDate c = rw c.in-GotoDate.is (performs_called c.args.session.now c.args.called c.args.ground procedures.GotoDate c.goto_date.result c.goto_date.ensures (λ s. refl))

pub returns-in-SetDiffVersions : goal.returns-in-SetDiffVersions
returns-in-SetDiffVersions c = rw c.in-SetDiffVersions.is (performs_called c.args.session.now c.args.called c.args.ground procedures.SetDiffVersions c.set_difference.result c.set_difference.ensures (λ s. refl))

pub returns-in-SetConflictWorkspace : goal.returns-in-SetConflictWorkspace
returns-in-SetConflictWorkspace c = rw c.in-SetConflictWorkspace.is (performs_called c.args.session.now c.args.called c.args.ground procedures.SetConflictWorkspace c.set_conflict_plan.result c.set_conflict_plan.ensures (λ s. refl))

pub returns-in-SetValidTime : goal.returns-in-SetValidTime
returns-in-SetValidTime c = rw c.in-SetValidTime.is (performs_called c.args.session.now c.args.called c.args.ground procedures.SetValidTime c.set_valid_time_plan.result c.set_valid_time_plan.ensures (λ s. refl))

pub returns-in-RollbackToSp : goal.returns-in-RollbackToSp
returns-in-RollbackToSp c = rw c.in-RollbackToSp.is (performs_called c.args.session.now c.args.called c.args.ground procedures.RollbackToSp c.rollback_plan.result c.rollback_plan.ensures (λ s. refl))

pub returns-in-RemoveWorkspace : goal.returns-in-RemoveWorkspace
returns-in-RemoveWorkspace c = rw c.in-RemoveWorkspace.is (performs_called c.args.session.now c.args.called c.args.ground procedures.RemoveWorkspace c.remove_plan.result c.remove_plan.ensures (λ s. refl))

pub returns-in-UnfreezeWorkspace : goal.returns-in-UnfreezeWorkspace
returns-in-UnfreezeWorkspace c = rw c.in-UnfreezeWorkspace.is (performs_called c.args.session.now c.args.called c.args.ground procedures.UnfreezeWorkspace c.unfreeze_plan.result c.unfreeze_plan.ensures (λ s. refl))

pub returns-in-SetLockingOn : goal.returns-in-SetLockingOn
returns-in-SetLockingOn c = rw c.in-SetLockingOn.is (performs_called c.args.session.now c.args.called c.args.ground procedures.SetLockingOn c.set_locking_on.result c.set_locking_on.ensures (λ s. refl))

pub returns-in-SetLockingOff : goal.returns-in-SetLockingOff
returns-in-SetLockingOff c = rw c.in-SetLockingOff.is (performs_called c.args.session.now c.args.called c.args.ground procedures.SetLockingOff c.set_locking_off.result c.set_locking_off.ensures (λ s. refl))

pub returns-in-UnlockRows : goal.returns-in-UnlockRows
returns-in-UnlockRows c = rw c.in-UnlockRows.is (performs_called c.args.session.now c.args.called c.args.ground procedures.UnlockRows c.unlock_rows.result c.unlock_rows.ensures (λ s. refl))

pub returns-in-BeginResolve : goal.returns-in-BeginResolve
returns-in-BeginResolve c = rw c.in-BeginResolve.is (performs_called c.args.session.now c.args.called c.args.ground procedures.BeginResolve c.begin_resolve_plan.result c.begin_resolve_plan.ensures (λ s. refl))

pub returns-in-RollbackResolve : goal.returns-in-RollbackResolve
returns-in-RollbackResolve c = rw c.in-RollbackResolve.is (performs_called c.args.session.now c.args.called c.args.ground procedures.RollbackResolve c.rollback_resolve_plan.result c.rollback_resolve_plan.ensures (λ s. refl))

pub returns-in-FreezeWorkspace : goal.returns-in-FreezeWorkspace
returns-in-FreezeWorkspace c =
    let g = c.args.ground in
    rw c.in-FreezeWorkspace.is
    (fitting_plain g _ (freeze_plan c.args.session.now c.args.called.given.args.now) c.freeze_plan.result c.freeze_plan.ensures.does
    (fits_freeze g.image.now g.sessions.now g.moment g.rules (early g.moment g.early) c.args.session.now c.args.called.given.args.now c.freeze_plan.ensures.short) (λ s. refl))

-- ---- others

pub returns-in-RefreshWorkspace : goal.returns-in-RefreshWorkspace
returns-in-RefreshWorkspace c = rw c.in-RefreshWorkspace.is (netting c.args.ground _ false _ c.refresh_call.result c.refresh_call.ensures.does c.refresh_call.ensures.idle (λ stays. c.refresh_call.ensures.nets))

pub returns-in-MergeWorkspace : goal.returns-in-MergeWorkspace
returns-in-MergeWorkspace c =
    rw c.in-MergeWorkspace.is
    (netting c.args.ground _ (is_true_given procedures.MergeWorkspace c.args.called.given.args.now parameters.RemoveWorkspace) _ c.merge_call.result c.merge_call.ensures.does c.merge_call.ensures.idle c.merge_call.ensures.nets)

pub returns-in-LockRows : goal.returns-in-LockRows
returns-in-LockRows c =
    let g = c.args.ground in
    let lock = c.lock_rows in
    rw c.in-LockRows.is
    (plain g _ lock.result
    (does_lock g.image.now g.sessions.now g.moment c.args.session.now (asking_of procedures.LockRows c.args.called.given c.args.called.empty) lock.result _ lock.ensures.does lock.ensures.can lock.ensures.seats (λ s. refl))
    lock.ensures.idle)

pub returns-in-ResolveConflicts : goal.returns-in-ResolveConflicts
returns-in-ResolveConflicts c =
    let g = c.args.ground in
    let act = called_with c.args.session.now (Some procedures.ResolveConflicts) c.args.called in
    rw c.in-ResolveConflicts.is (plain g act c.resolve_call.result (for_one g.image.now g.sessions.now g.moment c.resolve_call.result act act (λ s. refl) c.resolve_call.ensures.does) c.resolve_call.ensures.idle)

pub returns-in-CommitResolve : goal.returns-in-CommitResolve
returns-in-CommitResolve c =
    let g = c.args.ground in
    let act = call c.args.session.now (Some procedures.CommitResolve) c.args.called.given.args.now in
    rw c.in-CommitResolve.is
    (plain g _ c.commit_call.result (for_open g.image.now g.sessions.now g.moment c.commit_call.result c.args.session.now act _ c.requires.open (λ s. refl) c.commit_call.ensures.does) c.commit_call.ensures.idle)
