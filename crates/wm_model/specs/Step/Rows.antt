-- INSERT, UPDATE and DELETE.
use Rattle.std.specs.Prelude.{ℕ, ◌+◌, List, [], ◌∷◌, Bool, false, not, nat_le, if◌then◌else◌, length, map, unwrap_or, Option, None, Some}
use Rattle.std.specs.Option.{option_map, option_or}
use Rattle.wm_base.specs.Period.{Span, always}
use Rattle.wm_base.specs.declared.value.Value.{Value}
use Rattle.wm_spec.specs.Lists.{Entry}
use Rattle.wm_spec.specs.Stretches.{rows_of_key}
use Rattle.wm_spec.specs.declared.record.table.Table.{Table}
use Rattle.wm_base.specs.declared.refusal.Refusal.{Refusal}
use Rattle.wm_base.specs.declared.row.Row.{Row}
use Rattle.wm_syntax.specs.Trees.{Cond, Expr, Set}
use Rattle.wm_dml.specs.Changing.{added, chosen, gone, row_key, sets_period, updated_rows, rows_fault, replacing}
use Rattle.wm_dml.specs.Moving.{clash_in, moves_of, moving, shifts_of}
use Rattle.wm_dml.specs.Standing.{change_keys}
use Rattle.wm_dml.specs.declared.change.RowChange.{RowChange}
use Rattle.wm_dml.specs.declared.moving.Move.{Move}
use Rattle.wm_making.specs.Inserting.{insert_fault}
use Rattle.wm_making.specs.Rows.{period_given, row_of, row_fault}
use Rattle.wm_model.specs.Entered.{entries_of}
use Rattle.wm_outline.specs.Outline.{outline}
use Rattle.wm_typing.specs.Changing.{update_fault, delete_fault}
use Rattle.wm_state.specs.State.{State, Workspace, Session, Stand, Latest, At, Dated, content}
use Rattle.wm_state.specs.Editing.{line_work, written_all}
use Rattle.wm_state.specs.Drawing.{are_sorted}
use Rattle.wm_state.specs.Listing.{first_shared, span_on}
use Rattle.wm_print.specs.Texts.{Answer, Done}
use Rattle.wm_model.specs.Step.Refusing.{not_built, versioning, not_latest, key_there, change_limit, out_of_range, unless, unless_empty_period}
use Rattle.wm_model.specs.Step.Counting.{durably_by}
use Rattle.wm_model.specs.Step.Locks.{cells_of, claim_of, lock_fault, locked_by, parts_locked}
use Rattle.wm_model.specs.Step.Naming.{with_table, at_home}
use Rattle.wm_model.specs.Step.Periods.{told_period, within}
use Rattle.wm_model.specs.Step.Querying.{rows_in}

-- ---- rows

-- what is done at what is newest, and nowhere else
abbrev pub at_latest : State → Stand → State × Answer → State × Answer
at_latest s Latest done = done
at_latest s (At making) done = (s, not_latest)
at_latest s (Dated date) done = (s, not_latest)

-- what is done with the table of a name in the workspace that a session stands in at what is newest, unless the statement is wrong
-- for the table or has an empty period
abbrev pub at_newest : Session → List ℕ → (Table → Option Refusal) → Bool → (Table → State → Workspace → State × Answer) → State → State × Answer
at_newest session name fault empty act s = with_table s name (λ table.
    if not table.versioned then (s, versioning name false) else
    unless (fault table) s
    (at_home s session (λ w. at_latest s session.stand (unless_empty_period empty s (act table s w)))))

-- rows are changed, if there are any, unless a lock bars it, while changes are left; told is how many rows are changed
abbrev pub write_all : Session → Table → ℕ → List RowChange → State → Workspace → State × Answer
write_all session table count [] s w = (s, Done 0)
write_all session table count (x ∷ xs) s w =
    let changes = x ∷ xs in
    let es = entries_of s session.user table changes in
    let parts = parts_locked (outline s) session w.number (map cells_of es) in
    unless (lock_fault (outline s) (claim_of session w.number) (map cells_of es)) s
    (if not (nat_le (s.durable.next_stamp + length changes) (s.durable.limit + 1)) then (s, change_limit s.durable.limit) else
    durably_by (length parts + line_work) s (length w.lists.log + length changes)
    (record s { durable = locked_by session w.number parts (written_all w.number es s.durable) }, Done count))

-- ---- INSERT

-- the period of a new row: the one that the statement gives, or the one that is set for the session, or all of time
abbrev pub new_period : Session → Table → Option (List (List ℕ)) → List Expr → Span
new_period session table names values = if table.valid then unwrap_or (period_given table names values) (unwrap_or session.period always) else always

-- what a period shares with the first row of a key that stands in it
abbrev pub taken : List Entry → Table → List Value → Span → Option Span
taken es table key period = first_shared period (rows_of_key es table.number key)

-- a new row comes where no row of its key stands
abbrev pub add_to : Session → Table → Span → List Value → State → Workspace → State × Answer
add_to session table period row s w = of (taken (content w) table (row_key table row) period)
  where
    of : Option Span → State × Answer
    of (Some shared) = (s, key_there (row_key table row) (told_period table shared))
    of None = write_all session table 1 (added table period row ∷ []) s w

-- a new row, unless a number on the way to it was out of range, or something is wrong with it
abbrev pub add_found : Session → Table → Span → Option (List Value) → State → Workspace → State × Answer
add_found session table period None s w = (s, out_of_range)
add_found session table period (Some row) s w = unless (row_fault table row) s (add_to session table period row s w)

-- INSERT adds a row
abbrev pub insert : Session → List ℕ → Option (List (List ℕ)) → List Expr → Bool → State → State × Answer
insert session name names values empty =
    at_newest session name (λ table. insert_fault table names values) empty
    (λ table. add_found session table (new_period session table names values) (row_of table names values))

-- ---- UPDATE and DELETE

-- rows are changed by key: no key is above the next
abbrev pub write_ascending : Session → Table → ℕ → List RowChange → State → Workspace → State × Answer
write_ascending session table count changes s w = if are_sorted (change_keys changes) then write_all session table count changes s w else (s, not_built)

-- what is done with the rows of a table that a session sees, and the period in which it changes them
abbrev pub with_rows : Session → (Table → Span → List Row → State → Workspace → State × Answer) → Table → State → Workspace → State × Answer
with_rows session act table s w = let period = within s.moment session table in act table period (rows_in period (content w) table) s w

-- the key of a row whose new period overlaps a row that stays or another new one, and the earliest part that they share
abbrev pub clash_at : List Entry → Table → List Move → Move → Option (List Value × Span)
clash_at es table moves m = option_map (λ (p : Span). (m.key, p)) (clash_in (shifts_of m.key moves) (map span_on (rows_of_key es table.number m.key)))

-- of the first key that has one
abbrev pub first_clash : List Entry → Table → List Move → List Move → Option (List Value × Span)
first_clash es table moves [] = None
first_clash es table moves (m ∷ ms) = option_or (clash_at es table moves m) (first_clash es table moves ms)

-- rows stand over new periods, where no other row of their keys stands
abbrev pub move_all : Session → Table → List Move → State → Workspace → State × Answer
move_all session table moves s w = of (first_clash (content w) table moves moves)
  where
    of : Option (List Value × Span) → State × Answer
    of (Some clash) = (s, key_there clash.0 (Some clash.1))
    of None = write_ascending session table (length moves) (moving moves) s w

-- new rows take the places of others within the period, or stand over the new periods that the sets give them
abbrev pub change_all : Session → Table → Span → List Set → List Row → List (List Value) → State → Workspace → State × Answer
change_all session table period sets rows new s w =
    if sets_period table sets then move_all session table (moves_of table sets rows new) s w
    else write_ascending session table (length rows) (replacing table period rows new) s w

-- so unless a number on the way to the new rows was out of range, or something is wrong with them
abbrev pub replace_all : Session → Table → Span → List Set → List Row → Option (List (List Value)) → State → Workspace → State × Answer
replace_all session table period sets rows None s w = (s, out_of_range)
replace_all session table period sets rows (Some new) s w = unless (rows_fault table new) s (change_all session table period sets rows new s w)

-- UPDATE writes a new row for each on which the condition is true
abbrev pub update : Session → List ℕ → List Set → Option Cond → Bool → State → State × Answer
update session name sets filter empty =
    at_newest session name (λ table. update_fault table sets filter) empty
    (with_rows session (λ table period rows. let kept = chosen table filter rows in replace_all session table period sets kept (updated_rows table sets kept)))

-- DELETE makes each of them gone
abbrev pub delete : Session → List ℕ → Option Cond → Bool → State → State × Answer
delete session name filter empty =
    at_newest session name (λ table. delete_fault table filter) empty
    (with_rows session (λ table period rows. let kept = chosen table filter rows in write_ascending session table (length kept) (map (gone table period) kept)))
