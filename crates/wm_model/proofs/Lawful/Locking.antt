-- What is locked and unlocked leaves a lawful state: locks are in no law.
use Rattle.std.proofs.Common.{ℕ, List, [], ◌∷◌, Option, Some, None}
use Rattle.std.specs.Option.{option_map_or}
use Rattle.wm_outline.specs.Outline.{SpaceOutline, outline}
use Rattle.wm_base.specs.declared.row.Row.{Row}
use Rattle.wm_spec.specs.declared.record.lock.LockMode.{LockMode}
use Rattle.wm_spec.specs.declared.record.table.Table.{Table}
use Rattle.wm_state.specs.Editing.{locked_in}
use Rattle.wm_state.specs.State.{Durable, Session}
use Rattle.wm_state.specs.declared.edit.NewLock.{NewLock}
use Rattle.wm_model.specs.Lawful.{LawfulState}
use Rattle.wm_model.specs.Seating.{Stay, planned}
use Rattle.wm_model.specs.Step.{Answer, Asking, Plan, State, for_rows, lock_edits, lock_rows_plan, locked_by, mistyped, refused_for, run, set_locking_plan, unlock_edits, unlock_rows_plan}
use Rattle.wm_model.specs.Step.Sessions as settings
use Rattle.wm_model.proofs.Lawful.Leaves.{Keeps, Leaves, leaves_run}
use Rattle.wm_model.proofs.Lawful.Plans.{keeping, keeps_setting}

-- what a session has locked besides
pub leaves_locked : (session : Session) (n : ℕ) (parts : List NewLock) (d : Durable) (s : State) (answer : Answer) → Leaves (record s { durable = d }, answer) → Leaves (record s { durable = locked_by session n parts d }, answer)
leaves_locked session n parts d s answer l = by_mode session.locking
  where
    by_mode : (o : Option LockMode) → Leaves (record s { durable = option_map_or (λ mode. locked_in n mode session.user parts d) o d }, answer)
    by_mode None = l
    by_mode (Some mode) = record { lawful = record { durable = record { spaces = l.lawful.durable.spaces; entries = l.lawful.durable.entries }; seats = l.lawful.seats } }

-- ---- SetLockingON and SetLockingOFF

pub leaves_set_locking : (session : Session) (fault : Option (List ℕ)) (mode : Option LockMode) (s : State) → LawfulState s → Leaves (run (set_locking_plan session fault mode) s)
leaves_set_locking session fault mode s l = leaves_run (set_locking_plan session fault mode) s l (keeps_setting (refused_for mistyped fault ∷ []) session (settings.Lock mode) s l (λ x old. old) tt)

-- ---- LockRows and UnlockRows

-- a call about rows of a table, by what it plans for a table and a workspace
leaves_rows : (a : Asking) (act : Table → SpaceOutline → Plan) (s : State) → LawfulState s → ((t : Table) (x : SpaceOutline) → Keeps s (act t x)) → Leaves (run (for_rows a act (outline s)) s)
leaves_rows a act s l each = leaves_run (for_rows a act (outline s)) s l (search keeping depth 12)

planned_locking : (n : ℕ) (mode : LockMode) (user : List ℕ) (parts : List NewLock) (s : State) → LawfulState s → LawfulState (planned s.moment s.moment (lock_edits n mode user parts) Stay s)
planned_locking n mode user [] s l = l
planned_locking n mode user (x ∷ xs) s l = record { durable = record { spaces = l.durable.spaces; entries = l.durable.entries }; seats = l.seats }

pub leaves_lock_rows : (session : Session) (a : Asking) (rows : Table → SpaceOutline → List Row) (s : State) → LawfulState s → Leaves (run (lock_rows_plan session a rows (outline s)) s)
leaves_lock_rows session a rows s l = leaves_rows a _ s l (λ t x. record { lawful = λ clear. planned_locking x.number _ session.user _ s l })

planned_unlocking : (makings : List ℕ) (s : State) → LawfulState s → LawfulState (planned s.moment s.moment (unlock_edits makings) Stay s)
planned_unlocking [] s l = l
planned_unlocking (making ∷ makings) s l = record { durable = record { spaces = l.durable.spaces; entries = l.durable.entries }; seats = l.seats }

pub leaves_unlock_rows : (session : Session) (a : Asking) (s : State) → LawfulState s → Leaves (run (unlock_rows_plan session a (outline s)) s)
leaves_unlock_rows session a s l = leaves_rows a _ s l (λ t x. record { lawful = λ clear. planned_unlocking _ s l })
