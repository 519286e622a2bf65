-- One line: the state that it leaves, and its answer.
pub mod Refusing
pub mod Counting
pub mod Naming
pub mod Sessions
pub mod Tables
pub mod Periods
pub mod Places
pub mod Plans
pub mod Given
pub mod Connecting
pub mod Comparing
pub mod Querying
pub mod Rows
pub mod Savepoints
pub mod Workspaces
pub mod Undoing
pub mod Older
pub mod Merging
pub mod Resolving
pub mod Access
pub mod Freezing
pub mod Faulting
pub mod Locks
pub mod Locking
pub mod Dating
pub mod Calling
use Rattle.std.specs.Prelude.{ℕ, List, not, if◌then◌else◌, Option, None, Some, Result, Ok, Err}
use Rattle.std.specs.Str.{is_utf8}
use Rattle.wm_model.specs.Lines.{fits_line}
use Rattle.wm_syntax.specs.Trees.{Line, Connect, Disconnect, At as AtMoment, Run, Statement, Create, Insert, Update, Delete, Select, Call}
use Rattle.wm_grammar.specs.Calls.{procedure_of}
use Rattle.wm_grammar.specs.Parsed.{Bad, Syntax, Literal, parsed}
use Rattle.wm_calls.specs.Empty.{has_empty_period}
use Rattle.wm_timed.specs.Timed.{timed}
use Rattle.wm_reader.specs.Reading.{is_remark}
use Rattle.wm_outline.specs.Outline.{outline}
use Rattle.wm_state.specs.State.{Session}
use Rattle.wm_print.specs.Texts.{Nothing}
pub use Rattle.wm_state.specs.State.{State, fresh}
use Rattle.wm_state.specs.State.{Session}
pub use Rattle.wm_state.specs.Editing.{counter_limit, number_limit, line_work, implicit_front, implicit_name, saved_at, place_behind, saved, save_in, child_of, born, bear_in, written_all}
pub use Rattle.wm_print.specs.Texts.{Answer, answer_text}
use Rattle.wm_print.specs.Texts.{Nothing}
pub use Rattle.wm_model.specs.Step.Refusing.{not_built, too_long_line, no_text, syntax, bad_literal, no_session, session_there, bad_name, long_name, mistyped, reserved_name, no_parent, frozen, already_frozen, not_frozen, session_inside, has_child, dependent_child, rebased_since, resolve_open, no_resolve, locked, no_table, table_there, versioning, no_key, no_workspace, workspace_there, miscounted, no_savepoint, no_history, savepoint_there, not_latest, moment_back, date_before, key_there, empty_period, in_conflict, change_limit, most_workspaces, most_savepoints, most_tables, most_rows, most_sessions, out_of_range, at_its_end, refusal_of, refused_if, refused_for, first_fault, unless, unless_mistyped, unless_empty_period}
pub use Rattle.wm_model.specs.Step.Counting.{durably_by, durably}
pub use Rattle.wm_model.specs.Step.Naming.{is_name, names_no_workspace, latest, names_no_savepoint, session_of, with_table, with_named, home_of, at_home}
pub use Rattle.wm_model.specs.Step.Sessions.{Setting, with_decisions, with_setting, altered, closed, set_moment}
pub use Rattle.wm_model.specs.Step.Tables.{is_full, create_plan, keeps_history, readiness_given, enabling, enable_plan}
pub use Rattle.wm_model.specs.Step.Periods.{within, told_period, set_valid_time_plan}
pub use Rattle.wm_model.specs.Step.Querying.{rows_in, table_asked, lost_source, tables_of, table_off, source_name, columns_in, lacks_history, lost_history, workspace_lost, savepoint_lost, first_lost, conflicting, conflicts_shown, space_name, sheets_in, sheets_of, viewpoint_name, differences_shown, view_shown, shown_by, sources_in, answer_rows, selecting_faults, select_ready, select_from, select_among, select}
pub use Rattle.wm_model.specs.Step.Rows.{at_latest, at_newest, write_all, new_period, taken, add_to, add_found, insert, write_ascending, with_rows, clash_at, first_clash, move_all, change_all, replace_all, update, delete}
pub use Rattle.wm_model.specs.Step.Savepoints.{saving_faults, saving, create_savepoint_plan, standing, goto_savepoint_plan}
pub use Rattle.wm_model.specs.Step.Workspaces.{implicit_next, place_after, is_dated, making_stood, stands_nowhere, counting_faults, bearing_faults, bearing, create_workspace_plan, goto_workspace_plan, set_conflict_plan}
pub use Rattle.wm_model.specs.Step.Undoing.{first_session, first_named, resolves, resolve_fault, stays_behind, would_go, stands_behind, decides_beyond, depends, is_still, rolling_faults, rolling, rollback_plan, stands_in, going_faults, removing_faults, removing, remove_plan}
pub use Rattle.wm_model.specs.Step.Merging.{parent_in, pending, is_quiet, sides, gained_of, conflict_told, conflict_fault, refreshing_faults, refreshed, refresh, refresh_workspace, Asked, is_even, leaving_faults, keeping_faults, merge_claim, merge_lock_fault, merging_faults, merged, merged_with, merged_as, longer_log, freed_by, merge, merge_workspace}
pub use Rattle.wm_model.specs.Step.Resolving.{set_of, begin_resolve_plan, has_open, unopened_fault, rollback_resolve_plan, unresolved_fault, decide, decide_on, resolve_conflicts, resolved, commit, decisions_of, commit_resolve}
pub use Rattle.wm_model.specs.Step.Places.{place, sooner, least}
pub use Rattle.wm_model.specs.Step.Plans.{Plan, Outcome, refused_with, done_so, refused_or, outcome, comes, run, doing, setting, refusing, also, is_spent_by, spent_by, is_spent, spent, space_named, space_numbered, for_named, for_home, savepoint_called, savepoint_at, for_savepoint, for_text, for_table, is_before, barred, barred_outcome}
pub use Rattle.wm_model.specs.Step.Given.{workspace_given, misfit, naming_faults}
pub use Rattle.wm_model.specs.Step.Connecting.{session_opened, connect_plan, disconnect_plan}
pub use Rattle.wm_model.specs.Step.Older.{first_name, is_child, resolving_fault, is_inside}
pub use Rattle.wm_model.specs.Step.Access.{holds, hold_on, hold_fault, Asks, asks_call, numbered_fault, named_fault, family_fault, asked_fault, frozen_call, frozen_fault}
pub use Rattle.wm_model.specs.Step.Freezing.{mode_word, hold_worded, writer_given, hold_asked, spares_live, inside_fault, work_fault, freezing_edits, freezing_seating, freezing, freeze_faults, freeze_plan, thawing, unfreeze_plan}
pub use Rattle.wm_model.specs.Step.Faulting.{unkeyed_fault, fault_around}
pub use Rattle.wm_model.specs.Step.Locks.{cells_of, Claim, claim_of, is_child_of, has_parent, bars_claim, barring_at, barring, name_numbered, period_told, locked_told, lock_fault, Holder, is_held_by, spans_held, lock_over, parts_at, lock_parts, parts_locked, locked_by, has_locks, unlock_edits}
pub use Rattle.wm_model.specs.Step.Locking.{mode_in, mode_given, set_locking_plan, Asking, workspace_asked, asking_faults, for_space, for_rows, cells_in, lock_edits, locks_spent, locking, lock_rows_plan, content_numbered, rows_meant, is_freed, unlocking_spent, unlocking, unlock_rows_plan}
pub use Rattle.wm_model.specs.Step.Comparing.{lost_workspace, has_savepoint, lost_savepoint, lost_workspaces, lost_savepoints, savepoint_meant, viewpoint_given, difference_given, set_difference_plan}
pub use Rattle.wm_model.specs.Step.Dating.{early_fault, goto_date_plan}
pub use Rattle.wm_model.specs.Step.Calling.{keep_in, keep_given, merge_asked, given, call, call_with}

-- what a statement does and answers, whatever is frozen; whether a period in it is empty is told to each statement that may be refused for it
abbrev pub statement_done : Session → Statement → State → State × Answer
statement_done session (Create name items) s = run (create_plan name items (outline s)) s
statement_done session (Insert name names values) s = insert session name names values (has_empty_period (Insert name names values)) s
statement_done session (Update name sets filter) s = update session name sets filter (has_empty_period (Update name sets filter)) s
statement_done session (Delete name filter) s = delete session name filter (has_empty_period (Delete name filter)) s
statement_done session (Select query) s = select session query (has_empty_period (Select query)) s
statement_done session (Call procedure args condition) s = call_with session (procedure_of procedure) args condition (has_empty_period (Call procedure args condition)) s

-- and where a frozen workspace may refuse it
abbrev pub run_statement : Session → Statement → State → State × Answer
run_statement session statement s = barred (frozen_fault session statement (outline s)) s (statement_done session statement s)

abbrev pub run_for : List ℕ → Option Session → Statement → State → State × Answer
run_for name None statement s = (s, no_session name)
run_for name (Some session) statement s = run_statement session statement s

abbrev pub run_line : Line → State → State × Answer
run_line (Connect name user) s = run (connect_plan name user (outline s)) s
run_line (Disconnect name) s = run (disconnect_plan name (outline s)) s
run_line (AtMoment instant) s = set_moment instant s
run_line (Run name statement) s = run_for name (session_of name s.sessions) statement s

-- the moment stands in the place of SYSDATE
abbrev pub timed_line : ℕ → Line → Line
timed_line moment (Connect name user) = Connect name user
timed_line moment (Disconnect name) = Disconnect name
timed_line moment (AtMoment instant) = AtMoment instant
timed_line moment (Run name statement) = Run name (timed moment statement)

-- a line of the grammar is run; where the line is wrong is told
abbrev pub run_parsed : Result Line Bad → State → State × Answer
run_parsed (Ok line) s = run_line (timed_line s.moment line) s
run_parsed (Err (Syntax column)) s = (s, syntax column)
run_parsed (Err (Literal column)) s = (s, bad_literal column)

-- what a line does and answers
unfoldable pub step : State → List ℕ → State × Answer
step s line =
    if not (fits_line line) then (s, too_long_line) else
    (if is_remark line then (s, Nothing) else
    (if is_utf8 line then run_parsed (parsed line) s else (s, no_text)))
