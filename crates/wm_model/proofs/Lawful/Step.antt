-- Each line leaves a lawful state.
use Rattle.std.proofs.Common.{◌≡◌, ℕ, ◌+◌, Bool, true, false, not, nat_le, if◌then◌else◌, List, [], ◌∷◌, length, map, Option, Some, None, Result, Ok, Err, refl}
use Rattle.std.proofs.lemmas.Bool.{and_from}
use Rattle.std.specs.List.{list_all}
use Rattle.std.specs.Str.{bytes_eq, is_utf8}
use Rattle.wm_base.specs.Period.{Span}
use Rattle.wm_syntax.specs.Trees.{Cond, Connect, Create, Call, Delete, Disconnect, Expr, Insert, Line, At as AtMoment, Query, Run, Select, Set, Statement, Update}
use Rattle.wm_base.specs.declared.refusal.Refusal.{Refusal}
use Rattle.wm_base.specs.declared.row.Row.{Row}
use Rattle.wm_syntax.specs.declared.statement.Arg.{Arg}
use Rattle.wm_base.specs.declared.value.Value.{Value}
use Rattle.wm_dml.specs.Changing.{added, chosen, gone, replacing, row_key, rows_fault, sets_period, updated_rows}
use Rattle.wm_dml.specs.Moving.{moves_of, moving}
use Rattle.wm_dml.specs.Standing.{change_keys}
use Rattle.wm_dml.specs.declared.change.RowChange.{RowChange}
use Rattle.wm_dml.specs.declared.moving.Move.{Move}
use Rattle.wm_grammar.specs.Calls.{procedure_of}
use Rattle.wm_grammar.specs.Parsed.{Bad, Syntax, Literal, parsed}
use Rattle.wm_grammar.specs.declared.procedure.Procedure.{Procedure}
use Rattle.wm_grammar.specs.declared.procedure.Procedure.TheVariants as procedures
use Rattle.wm_making.proofs.Filled.{row_filled}
use Rattle.wm_making.specs.Inserting.{insert_fault}
use Rattle.wm_making.specs.Rows.{row_of, row_fault}
use Rattle.wm_typing.specs.Changing.{update_fault, delete_fault}
use Rattle.wm_model.specs.Entered.{entries_of}
use Rattle.wm_model.specs.Lawful.{IsPlace, LawfulState, is_full_row}
use Rattle.wm_model.specs.Lines.{fits_line}
use Rattle.wm_model.specs.Step.{Answer, Asking, State, add_found, add_to, at_newest, call, call_with, cells_of, claim_of, commit_resolve, delete, first_clash, frozen_fault, home_of, insert, key_there, line_work, lock_fault, lost_source, move_all, new_period, no_table, no_text, parts_locked, replace_all, rows_in, rows_meant, run_for, run_line, run_parsed, run_statement, select, select_from, select_ready, session_of, set_moment, statement_done, step, table_off, tables_of, taken, timed_line, told_period, too_long_line, update, versioning, with_rows, within, write_all, write_ascending, written_all}
use Rattle.wm_model.proofs.Lawful.Freezing.{leaves_freeze, leaves_unfreeze}
use Rattle.wm_model.proofs.Lawful.Calls.{leaves_connect, leaves_create, leaves_create_savepoint, leaves_create_workspace, leaves_disconnect, leaves_enable, leaves_goto_date, leaves_goto_savepoint, leaves_goto_workspace, leaves_set_conflict, leaves_set_difference, leaves_valid_time}
use Rattle.wm_model.proofs.Lawful.Leaves.{Leaves, leaves_barred, leaves_durably_by, leaves_if, leaves_unless, leaves_written, leaving, stays}
use Rattle.wm_model.proofs.Lawful.Locking.{leaves_lock_rows, leaves_locked, leaves_set_locking, leaves_unlock_rows}
use Rattle.wm_model.proofs.Lawful.Places.{home_found, place_of}
use Rattle.wm_model.proofs.Lawful.Rows.{are_full, chosen_full, content_full, entries_written, gone_full, is_full_change, keyed_row, moving_full, replacing_full, rows_full, updated_full}
use Rattle.wm_model.proofs.Lawful.Merging.{leaves_merge_workspace, leaves_refresh_workspace}
use Rattle.wm_model.proofs.Lawful.Resolving.{leaves_begin_resolve, leaves_commit_resolve, leaves_resolve_conflicts, leaves_rollback_resolve}
use Rattle.wm_model.proofs.Lawful.Undoing.{leaves_remove, leaves_rollback}
use Rattle.wm_outline.specs.Outline.{outline}
use Rattle.wm_print.specs.Texts.{Done, Nothing}
use Rattle.wm_reader.specs.Reading.{is_remark}
use Rattle.wm_spec.specs.declared.record.table.Table.{Table}
use Rattle.wm_state.specs.Drawing.{are_sorted}
use Rattle.wm_state.specs.State.{Session, Workspace, content, workspace_of}

-- ---- the moment

leaves_moment : (instant : ℕ) (s : State) → LawfulState s → Leaves (set_moment instant s)
leaves_moment instant s l = leaves_if _ _ _ (stays s _ l) (record { lawful = record { durable = l.durable; seats = l.seats } })

-- ---- SELECT

leaves_ready : (session : Session) (query : Query) (empty : Bool) (tables : List Table) (s : State) → LawfulState s → Leaves (select_ready session query empty tables s)
leaves_ready session query empty tables s l = search leaving depth 12

leaves_select : (session : Session) (query : Query) (empty : Bool) (s : State) → LawfulState s → Leaves (select session query empty s)
leaves_select session query empty s l = by_lost (lost_source s.durable.tables query.sources)
  where
    by_off : (o : Option (List ℕ)) → Leaves (elim o as (λ _. State × Answer) [ None ↦ select_ready session query empty s.durable.tables s | Some name ↦ (s, versioning name false) ])
    by_off None = leaves_ready session query empty s.durable.tables s l
    by_off (Some name) = stays s _ l

    by_lost : (o : Option (List ℕ)) → Leaves (elim o as (λ _. State × Answer) [ None ↦ select_from session query empty s.durable.tables s | Some name ↦ (s, no_table name) ])
    by_lost None = by_off (table_off (tables_of s.durable.tables query.sources))
    by_lost (Some name) = stays s _ l

-- ---- rows

-- the session stands where something is
abbrev IsHere : State → Session → Type 0
IsHere s session = IsPlace s.durable.spaces session.space session.stand

-- what is done with a workspace that is there leaves a lawful state
abbrev Writes : (State → Workspace → State × Answer) → Type 0
Writes act = (s : State) (w : Workspace) → LawfulState s → workspace_of s.durable.spaces w.number ≡ Some w → Leaves (act s w)

leaves_at_newest : (session : Session) (name : List ℕ) (fault : Table → Option Refusal) (empty : Bool) (act : Table → State → Workspace → State × Answer) (s : State) → LawfulState s → IsHere s session → ((t : Table) → Writes (act t))
    → Leaves (at_newest session name fault empty act s)
leaves_at_newest session name fault empty act s l p a =
    let found : workspace_of s.durable.spaces session.space ≡ Some (home_of s session) = home_found s session p in search leaving depth 14

writes_all : (session : Session) (table : Table) (count : ℕ) (changes : List RowChange) → list_all is_full_change changes ≡ true → Writes (write_all session table count changes)
writes_all session table count [] full s w l found = stays s _ l
writes_all session table count (x ∷ xs) full s w l found =
    let es = entries_of s session.user table (x ∷ xs) in
    let parts = parts_locked (outline s) session w.number (map cells_of es) in
    leaves_unless (lock_fault (outline s) (claim_of session w.number) (map cells_of es)) s _ l
    (leaves_if (not (nat_le (s.durable.next_stamp + length (x ∷ xs)) (s.durable.limit + 1))) _ _ (stays s _ l)
    (leaves_durably_by (length parts + line_work) s (length w.lists.log + length (x ∷ xs)) _ l
    (leaves_locked session w.number parts (written_all w.number es s.durable) s (Done count)
    (leaves_written w es s (Done count) l found (entries_written s.durable.next_stamp s.moment session.user table (x ∷ xs) full)))))

writes_add : (session : Session) (table : Table) (period : Span) (row : List Value) → list_all is_full_change (added table period row ∷ []) ≡ true → Writes (add_to session table period row)
writes_add session table period row full s w l found = by_shared (taken (content w) table (row_key table row) period)
  where
    by_shared : (o : Option Span) → Leaves (elim o as (λ _. State × Answer) [ None ↦ write_all session table 1 (added table period row ∷ []) s w | Some shared ↦ (s, key_there (row_key table row) (told_period table shared)) ])
    by_shared None = writes_all session table 1 (added table period row ∷ []) full s w l found
    by_shared (Some shared) = stays s _ l

writes_found : (session : Session) (table : Table) (period : Span) (names : Option (List (List ℕ))) (values : List Expr) → Writes (add_found session table period (row_of table names values))
writes_found session table period names values s w l found = by_row (row_of table names values) refl
  where
    by_row : (o : Option (List Value)) → row_of table names values ≡ o → Leaves (add_found session table period o s w)
    by_row None is = stays s _ l
    by_row (Some row) is = leaves_unless (row_fault table row) s _ l (writes_add session table period row (and_from _ true (keyed_row table row (row_filled table names values row is)) refl) s w l found)

leaves_insert : (session : Session) (name : List ℕ) (names : Option (List (List ℕ))) (values : List Expr) (empty : Bool) (s : State) → LawfulState s → IsHere s session → Leaves (insert session name names values empty s)
leaves_insert session name names values empty s l p =
    leaves_at_newest session name (λ table. insert_fault table names values) empty (λ table. add_found session table (new_period session table names values) (row_of table names values)) s l p
    (λ table. writes_found session table (new_period session table names values) names values)

writes_ascending : (session : Session) (table : Table) (count : ℕ) (changes : List RowChange) → list_all is_full_change changes ≡ true → Writes (write_ascending session table count changes)
writes_ascending session table count changes full s w l found = leaves_if (are_sorted (change_keys changes)) _ _ (writes_all session table count changes full s w l found) (stays s _ l)

writes_move : (session : Session) (table : Table) (moves : List Move) → list_all is_full_change (moving moves) ≡ true → Writes (move_all session table moves)
writes_move session table moves full s w l found = by_clash (first_clash (content w) table moves moves)
  where
    by_clash : (o : Option (List Value × Span)) → Leaves (elim o as (λ _. State × Answer) [ None ↦ write_ascending session table (length moves) (moving moves) s w | Some clash ↦ (s, key_there clash.0 (Some clash.1)) ])
    by_clash None = writes_ascending session table (length moves) (moving moves) full s w l found
    by_clash (Some clash) = stays s _ l

writes_replace : (session : Session) (table : Table) (period : Span) (sets : List Set) (rows : List Row) → list_all is_full_row rows ≡ true → Writes (replace_all session table period sets rows (updated_rows table sets rows))
writes_replace session table period sets rows full s w l found = by_rows (updated_rows table sets rows) refl
  where
    by_rows : (o : Option (List (List Value))) → updated_rows table sets rows ≡ o → Leaves (replace_all session table period sets rows o s w)
    by_rows None is = stays s _ l
    by_rows (Some new) is =
        let filled : are_full new ≡ true = updated_full table sets rows new full is in
        leaves_unless (rows_fault table new) s _ l
        (leaves_if (sets_period table sets) _ _
        (writes_move session table (moves_of table sets rows new) (moving_full table sets rows new filled) s w l found)
        (writes_ascending session table (length rows) (replacing table period rows new) (replacing_full table period rows new filled) s w l found))

-- rows that a workspace shows, of which some are chosen
writes_kept : (session : Session) (condition : Option Cond) (act : Table → Span → List Row → State → Workspace → State × Answer) (table : Table) → ((period : Span) (rows : List Row) → list_all is_full_row rows ≡ true → Writes (act table period rows))
    → Writes (with_rows session (λ table period rows. act table period (chosen table condition rows)) table)
writes_kept session condition act table a s w l found =
    let period = within s.moment session table in
    let rows = rows_in period (content w) table in
    let full = chosen_full table condition rows (rows_full period (content w) table (content_full s.durable w.number w l.durable found)) in
    a period (chosen table condition rows) full s w l found

abbrev updates : Session → List Set → Table → Span → List Row → State → Workspace → State × Answer
updates session sets table period rows = replace_all session table period sets rows (updated_rows table sets rows)

leaves_update : (session : Session) (name : List ℕ) (sets : List Set) (condition : Option Cond) (empty : Bool) (s : State) → LawfulState s → IsHere s session → Leaves (update session name sets condition empty s)
leaves_update session name sets condition empty s l p =
    leaves_at_newest session name (λ table. update_fault table sets condition) empty (with_rows session (λ table period rows. updates session sets table period (chosen table condition rows))) s l p
    (λ table. writes_kept session condition (updates session sets) table (λ period rows full. writes_replace session table period sets rows full))

abbrev deletes : Session → Table → Span → List Row → State → Workspace → State × Answer
deletes session table period rows = write_ascending session table (length rows) (map (gone table period) rows)

leaves_delete : (session : Session) (name : List ℕ) (condition : Option Cond) (empty : Bool) (s : State) → LawfulState s → IsHere s session → Leaves (delete session name condition empty s)
leaves_delete session name condition empty s l p =
    leaves_at_newest session name (λ table. delete_fault table condition) empty (with_rows session (λ table period rows. deletes session table period (chosen table condition rows))) s l p
    (λ table. writes_kept session condition (deletes session) table
    (λ period rows full. writes_ascending session table (length rows) (map (gone table period) rows) (gone_full table period rows full)))

-- ---- lines

-- the session is the one of its name, and stands somewhere
record IsOne (s : State) (session : Session) : Type 0 where
  name : List ℕ
  found : session_of name s.sessions ≡ Some session

leaves_commits : (session : Session) (name : List ℕ) (s : State) → LawfulState s → IsOne s session → Leaves (commit_resolve session name s)
leaves_commits session name s l one = leaves_commit_resolve session name s l (λ (x : Session). bytes_eq one.name x.name) one.found

leaves_call : (session : Session) (procedure : Option Procedure) (args : List Arg) (s : State) → LawfulState s → IsHere s session → IsOne s session → Leaves (call session procedure args s)
leaves_call session (Some procedures.EnableVersioning) args s l p one = leaves_enable args s l
leaves_call session (Some procedures.CreateWorkspace) args s l p one = leaves_create_workspace session args s l
leaves_call session (Some procedures.CreateSavepoint) args s l p one = leaves_create_savepoint args s l
leaves_call session (Some procedures.GotoWorkspace) args s l p one = leaves_goto_workspace session args s l
leaves_call session (Some procedures.GotoSavepoint) args s l p one = leaves_goto_savepoint session args s l p
leaves_call session (Some procedures.GotoDate) args s l p one = leaves_goto_date session args s l p
leaves_call session (Some procedures.SetDiffVersions) args s l p one = leaves_set_difference session args s l
leaves_call session (Some procedures.SetValidTime) args s l p one = leaves_valid_time session args s l
leaves_call session (Some procedures.SetConflictWorkspace) args s l p one = leaves_set_conflict session args s l
leaves_call session (Some procedures.RollbackToSp) args s l p one = leaves_rollback args s l
leaves_call session (Some procedures.RemoveWorkspace) args s l p one = leaves_remove args s l
leaves_call session (Some procedures.RefreshWorkspace) args s l p one = search (leaving, leaves_refresh_workspace) depth 12
leaves_call session (Some procedures.MergeWorkspace) args s l p one = search (leaving, leaves_merge_workspace) depth 12
leaves_call session (Some procedures.FreezeWorkspace) args s l p one = leaves_freeze session args s l
leaves_call session (Some procedures.UnfreezeWorkspace) args s l p one = leaves_unfreeze args s l
leaves_call session (Some procedures.SetLockingOn) args s l p one = leaves_set_locking session _ _ s l
leaves_call session (Some procedures.SetLockingOff) args s l p one = leaves_set_locking session _ _ s l
leaves_call session (Some procedures.BeginResolve) args s l p one = leaves_begin_resolve session args s l
leaves_call session (Some procedures.CommitResolve) args s l p one = search (leaving, leaves_commits) depth 12
leaves_call session (Some procedures.RollbackResolve) args s l p one = leaves_rollback_resolve session args s l
leaves_call session _ args s l p one = stays s _ l

leaves_call_with : (session : Session) (procedure : Option Procedure) (args : List Arg) (condition : Option Cond) (empty : Bool) (s : State) → LawfulState s → IsHere s session → IsOne s session → Leaves (call_with session procedure args condition empty s)
leaves_call_with session (Some procedures.ResolveConflicts) args condition empty s l p one = search (leaving, leaves_resolve_conflicts) depth 12
leaves_call_with session (Some procedures.LockRows) args condition empty s l p one =
    let a : Asking = record { procedure = procedures.LockRows; args = args; condition = condition; empty = empty } in leaves_lock_rows session a (rows_meant session a s) s l
leaves_call_with session (Some procedures.UnlockRows) args condition empty s l p one =
    let a : Asking = record { procedure = procedures.UnlockRows; args = args; condition = condition; empty = empty } in leaves_unlock_rows session a s l
leaves_call_with session procedure args condition empty s l p one = leaves_call session procedure args s l p one

leaves_done : (session : Session) (statement : Statement) (s : State) → LawfulState s → IsHere s session → IsOne s session → Leaves (statement_done session statement s)
leaves_done session (Create name items) s l p one = leaves_create name items s l
leaves_done session (Insert name names values) s l p one = leaves_insert session name names values _ s l p
leaves_done session (Update name sets filter) s l p one = leaves_update session name sets filter _ s l p
leaves_done session (Delete name filter) s l p one = leaves_delete session name filter _ s l p
leaves_done session (Select query) s l p one = leaves_select session query _ s l
leaves_done session (Call procedure args condition) s l p one = leaves_call_with session (procedure_of procedure) args condition _ s l p one

-- whatever is frozen
leaves_statement : (session : Session) (statement : Statement) (s : State) → LawfulState s → IsHere s session → IsOne s session → Leaves (run_statement session statement s)
leaves_statement session statement s l p one = leaves_barred (frozen_fault session statement (outline s)) s (statement_done session statement s) l (leaves_done session statement s l p one)

leaves_for : (name : List ℕ) (o : Option Session) (statement : Statement) (s : State) → LawfulState s → session_of name s.sessions ≡ o → Leaves (run_for name o statement s)
leaves_for name None statement s l is = stays s _ l
leaves_for name (Some session) statement s l is = leaves_statement session statement s l (place_of s name session l is) (record { name = name; found = is })

leaves_line : (line : Line) (s : State) → LawfulState s → Leaves (run_line line s)
leaves_line (Connect name user) s l = leaves_connect name user s l
leaves_line (Disconnect name) s l = leaves_disconnect name s l
leaves_line (AtMoment instant) s l = leaves_moment instant s l
leaves_line (Run name statement) s l = leaves_for name (session_of name s.sessions) statement s l refl

leaves_parsed : (line : Result Line Bad) (s : State) → LawfulState s → Leaves (run_parsed line s)
leaves_parsed (Ok line) s l = leaves_line (timed_line s.moment line) s l
leaves_parsed (Err (Syntax column)) s l = stays s _ l
leaves_parsed (Err (Literal column)) s l = stays s _ l

pub lawful_step : (s : State) (line : List ℕ) → LawfulState s → LawfulState (step s line).0
unfolding step
lawful_step s line l = leaves.lawful
  where
    leaves : Leaves (if not (fits_line line) then (s, too_long_line) else (if is_remark line then (s, Nothing) else (if is_utf8 line then run_parsed (parsed line) s else (s, no_text))))
    leaves = leaves_if (not (fits_line line)) _ _ (stays s _ l) (leaves_if (is_remark line) _ _ (stays s _ l) (leaves_if (is_utf8 line) _ _ (leaves_parsed (parsed line) s l) (stays s _ l)))
