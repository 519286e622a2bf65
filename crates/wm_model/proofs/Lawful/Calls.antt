-- CONNECT, DISCONNECT, CREATE TABLE and the calls that make something, or say where a session stands and what it sees, leave a lawful state.
use Rattle.std.proofs.Common.{◌≡◌, ℕ, Bool, List, [], ◌∷◌, ◌++◌, unwrap_or, Option, Some, None, is_some, refl, ap}
use Rattle.std.specs.List.{find}
use Rattle.wm_base.specs.declared.instant.TheConstants.{END}
use Rattle.wm_base.specs.declared.refusal.Refusal.{Refusal}
use Rattle.wm_calls.specs.Arguments.{moment_given}
use Rattle.wm_grammar.specs.declared.procedure.Procedure.TheVariants as procedures
use Rattle.wm_grammar.specs.declared.procedure.Parameter.TheVariants as parameters
use Rattle.wm_outline.specs.Outline.{outline}
use Rattle.wm_print.specs.Texts.{Fine}
use Rattle.wm_state.specs.State.{At, Dated, Latest, Savepoint, Session, Stand, State, Workspace, workspace_of}
use Rattle.wm_syntax.specs.declared.statement.Arg.{Arg}
use Rattle.wm_syntax.specs.declared.statement.CreateItem.{CreateItem}
use Rattle.wm_model.specs.Lawful.{IsPlace, IsSound, LawfulState}
use Rattle.wm_model.specs.Step.{closed, connect_plan, create_plan, create_savepoint_plan, create_workspace_plan, difference_given, disconnect_plan, enable_plan, goto_date_plan, goto_savepoint_plan, goto_workspace_plan, misfit, run, session_opened, setting, set_conflict_plan, set_difference_plan, set_valid_time_plan}
use Rattle.wm_model.specs.Step.Sessions as settings
use Rattle.wm_model.proofs.Lawful.Edits.{lawful_born_in, lawful_created, lawful_enabled, lawful_saved_in}
use Rattle.wm_model.proofs.Lawful.Leaves.{Keeps, Leaves, leaves_run, leaves_seated, live_place, seats_filter, seats_push}
use Rattle.wm_model.proofs.Lawful.Plans.{keeping, keeps_also, keeps_doing, keeps_gone, keeps_setting}
use Rattle.wm_model.proofs.Lawful.Staging.{staged_filter, staged_push}

-- ---- sessions

pub leaves_connect : (name user : List ℕ) (s : State) → LawfulState s → Leaves (run (connect_plan name user (outline s)) s)
leaves_connect name user s l = leaves_run (connect_plan name user (outline s)) s l (record { lawful = λ clear. opened.lawful })
  where
    x : Session
    x = session_opened name user

    opened : Leaves (record s { sessions = s.sessions ++ x ∷ [] }, Fine)
    opened =
        leaves_seated s (s.sessions ++ x ∷ []) Fine l (seats_push s.durable.spaces s.sessions x l.seats (live_place s.durable.spaces l.durable.spaces.live))
        (staged_push (IsSound l.durable.entries.tells s.durable.next_stamp) s.sessions x l.durable.entries.staged tt)

pub leaves_disconnect : (name : List ℕ) (s : State) → LawfulState s → Leaves (run (disconnect_plan name (outline s)) s)
leaves_disconnect name s l = leaves_run (disconnect_plan name (outline s)) s l (record { lawful = λ clear. rest.lawful })
  where
    rest : Leaves (record s { sessions = closed name s.sessions }, Fine)
    rest =
        leaves_seated s (closed name s.sessions) Fine l (seats_filter s.durable.spaces _ s.sessions l.seats) (staged_filter (IsSound l.durable.entries.tells s.durable.next_stamp) _ s.sessions l.durable.entries.staged)

pub leaves_valid_time : (session : Session) (args : List Arg) (s : State) → LawfulState s → Leaves (run (set_valid_time_plan session args) s)
leaves_valid_time session args s l = leaves_run (set_valid_time_plan session args) s l (by_from (moment_given procedures.SetValidTime args parameters.ValidFrom) refl)
  where
    by_from : (o : Option ℕ) → moment_given procedures.SetValidTime args parameters.ValidFrom ≡ o → Keeps s (set_valid_time_plan session args)
    by_from None is = rw is (keeps_also (misfit procedures.SetValidTime args ∷ []) _ s (keeps_setting [] session (settings.Period None) s l (λ x old. old) tt))
    by_from (Some from) is = rw is (keeps_also (misfit procedures.SetValidTime args ∷ []) _ s (keeps_setting _ session (settings.Period (Some (record { from = from; till = unwrap_or (moment_given procedures.SetValidTime args parameters.ValidTill) END }))) s l (λ x old. old) tt))

-- ---- tables

pub leaves_create : (name : List ℕ) (items : List CreateItem) (s : State) → LawfulState s → Leaves (run (create_plan name items (outline s)) s)
leaves_create name items s l = leaves_run (create_plan name items (outline s)) s l (keeps_doing _ _ s (lawful_created _ s l))

pub leaves_enable : (args : List Arg) (s : State) → LawfulState s → Leaves (run (enable_plan args (outline s)) s)
leaves_enable args s l = leaves_run (enable_plan args (outline s)) s l (search (keeping, lawful_enabled) depth 10)

-- ---- savepoints and workspaces

pub leaves_create_savepoint : (args : List Arg) (s : State) → LawfulState s → Leaves (run (create_savepoint_plan args (outline s)) s)
leaves_create_savepoint args s l = leaves_run (create_savepoint_plan args (outline s)) s l (search (keeping, lawful_saved_in) depth 10)

pub leaves_create_workspace : (session : Session) (args : List Arg) (s : State) → LawfulState s → Leaves (run (create_workspace_plan session args (outline s)) s)
leaves_create_workspace session args s l = leaves_run (create_workspace_plan session args (outline s)) s l (search (keeping, lawful_born_in) depth 10)

-- ---- where a session stands, and what it looks at

newest_place : (ws : List Workspace) (w : Workspace) → workspace_of ws w.number ≡ Some w → IsPlace ws w.number Latest
newest_place ws w there = record { space = w; is = there; stands = tt }

pub leaves_goto_workspace : (session : Session) (args : List Arg) (s : State) → LawfulState s → Leaves (run (goto_workspace_plan session args (outline s)) s)
leaves_goto_workspace session args s l = leaves_run (goto_workspace_plan session args (outline s)) s l (search (keeping, newest_place) depth 10)

latest_place : (ws : List Workspace) (n : ℕ) (stand : Stand) → IsPlace ws n stand → IsPlace ws n Latest
latest_place ws n stand p = record { space = p.space; is = p.is; stands = tt }

saved_place : (n : ℕ) (w : Workspace) (P : Savepoint → Bool) (k : Savepoint) (s : State) → LawfulState s → workspace_of s.durable.spaces n ≡ Some w → find P w.savepoints ≡ Some k → IsPlace s.durable.spaces n (At k.making)
saved_place n w P k s l there found = record { space = w; is = there; stands = ap (λ (o : Option Savepoint). is_some o) ((l.durable.spaces.each n w there).made P k found) }

pub leaves_goto_savepoint : (session : Session) (args : List Arg) (s : State) → LawfulState s → IsPlace s.durable.spaces session.space session.stand → Leaves (run (goto_savepoint_plan session args (outline s)) s)
leaves_goto_savepoint session args s l p = leaves_run (goto_savepoint_plan session args (outline s)) s l (search (keeping, latest_place, saved_place) depth 12)

pub leaves_goto_date : (session : Session) (args : List Arg) (s : State) → LawfulState s → IsPlace s.durable.spaces session.space session.stand → Leaves (run (goto_date_plan session args (outline s)) s)
leaves_goto_date session args s l p =
    leaves_run (goto_date_plan session args (outline s)) s l
    (keeps_gone _ session session.space (Dated (unwrap_or (moment_given procedures.GotoDate args parameters.InDate) 0)) s l (record { space = p.space; is = p.is; stands = tt }))

keeps_conflict : (faults : List (Option Refusal)) (session : Session) (workspace : List ℕ) (s : State) → LawfulState s → Keeps s (setting faults session (settings.Conflict workspace))
keeps_conflict faults session workspace s l = keeps_setting faults session (settings.Conflict workspace) s l (λ x old. old) tt

pub leaves_set_conflict : (session : Session) (args : List Arg) (s : State) → LawfulState s → Leaves (run (set_conflict_plan session args (outline s)) s)
leaves_set_conflict session args s l = leaves_run (set_conflict_plan session args (outline s)) s l (search (keeping, keeps_conflict) depth 10)

pub leaves_set_difference : (session : Session) (args : List Arg) (s : State) → LawfulState s → Leaves (run (set_difference_plan session args (outline s)) s)
leaves_set_difference session args s l = leaves_run (set_difference_plan session args (outline s)) s l (keeps_setting _ session (settings.Compare (difference_given args)) s l (λ x old. old) tt)
