-- What is done with the rows of a table in a workspace.
use Rattle.std.proofs.Common.{◌≡◌, ℕ, true, false, List, [], ◌∷◌, length, Option, Some, None, refl, ap, ◌∙◌}
use Rattle.wm_base.specs.Period.{Span}
use Rattle.wm_syntax.specs.Trees.{Set}
use Rattle.wm_base.specs.declared.refusal.Refusal.{Refusal}
use Rattle.wm_base.specs.declared.row.Row.{Row}
use Rattle.wm_base.specs.declared.value.Value.{Value}
use Rattle.wm_dml.specs.Changing.{added, row_key, rows_fault, replacing, sets_period}
use Rattle.wm_dml.specs.Moving.{moves_of, moving}
use Rattle.wm_dml.specs.Standing.{change_keys}
use Rattle.wm_dml.specs.declared.change.RowChange.{RowChange}
use Rattle.wm_dml.specs.declared.moving.Move.{Move}
use Rattle.wm_making.specs.Rows.{row_fault}
use Rattle.wm_print.specs.Texts.{Refused}
use Rattle.wm_spec.specs.declared.record.table.Table.{Table}
use Rattle.wm_state.specs.State.{State, Session, Workspace, content}
use Rattle.wm_state.specs.Drawing.{are_sorted}
use Rattle.wm_model.specs.Step.{add_found, add_to, change_all, first_clash, key_there, move_all, not_built, out_of_range, replace_all, taken, told_period, unless, write_all, write_ascending}

-- ---- INSERT

-- a number on the way to the row is out of range
pub adds_none : (session : Session) (t : Table) (period : Span) (found : Option (List Value)) (s : State) (w : Workspace) → found ≡ None → add_found session t period found s w ≡ (s, out_of_range)
adds_none session t period found s w none = ap (λ o. add_found session t period o s w) none

-- something is wrong with it
pub adds_wrong : (session : Session) (t : Table) (period : Span) (found : Option (List Value)) (row : List Value) (refusal : Refusal) (s : State) (w : Workspace) → found ≡ Some row → row_fault t row ≡ Some refusal
    → add_found session t period found s w ≡ (s, Refused refusal)
adds_wrong session t period found row refusal s w is bad = ap (λ o. add_found session t period o s w) is ∙ ap (λ f. unless f s (add_to session t period row s w)) bad

-- nothing is
pub adds : (session : Session) (t : Table) (period : Span) (found : Option (List Value)) (row : List Value) (s : State) (w : Workspace) → found ≡ Some row → row_fault t row ≡ None
    → add_found session t period found s w ≡ add_to session t period row s w
adds session t period found row s w is fine = ap (λ o. add_found session t period o s w) is ∙ ap (λ f. unless f s (add_to session t period row s w)) fine

-- a row of the key stands there
pub adds_there : (session : Session) (t : Table) (period shared : Span) (row : List Value) (s : State) (w : Workspace) → taken (content w) t (row_key t row) period ≡ Some shared
    → add_to session t period row s w ≡ (s, key_there (row_key t row) (told_period t shared))
adds_there session t period shared row s w there = rw there refl

-- none does
pub adds_new : (session : Session) (t : Table) (period : Span) (row : List Value) (s : State) (w : Workspace) → taken (content w) t (row_key t row) period ≡ None
    → add_to session t period row s w ≡ write_ascending session t 1 (added t period row ∷ []) s w
adds_new session t period row s w free = rw free refl

-- ---- UPDATE

-- a number on the way to the new rows is out of range
pub replaces_none : (session : Session) (t : Table) (period : Span) (sets : List Set) (rows : List Row) (found : Option (List (List Value))) (s : State) (w : Workspace) → found ≡ None → replace_all session t period sets rows found s w ≡ (s, out_of_range)
replaces_none session t period sets rows found s w none = ap (λ o. replace_all session t period sets rows o s w) none

-- something is wrong with them
pub replaces_wrong : (session : Session) (t : Table) (period : Span) (sets : List Set) (rows : List Row) (found : Option (List (List Value))) (new : List (List Value)) (refusal : Refusal) (s : State) (w : Workspace) → found ≡ Some new → rows_fault t new ≡ Some refusal
    → replace_all session t period sets rows found s w ≡ (s, Refused refusal)
replaces_wrong session t period sets rows found new refusal s w is bad =
    ap (λ o. replace_all session t period sets rows o s w) is ∙ ap (λ f. unless f s (change_all session t period sets rows new s w)) bad

-- nothing is
pub replaces : (session : Session) (t : Table) (period : Span) (sets : List Set) (rows : List Row) (found : Option (List (List Value))) (new : List (List Value)) (s : State) (w : Workspace) → found ≡ Some new → rows_fault t new ≡ None
    → replace_all session t period sets rows found s w ≡ change_all session t period sets rows new s w
replaces session t period sets rows found new s w is fine =
    ap (λ o. replace_all session t period sets rows o s w) is ∙ ap (λ f. unless f s (change_all session t period sets rows new s w)) fine

-- the rows get new periods
pub changes_moved : (session : Session) (t : Table) (period : Span) (sets : List Set) (rows : List Row) (new : List (List Value)) (s : State) (w : Workspace) → sets_period t sets ≡ true
    → change_all session t period sets rows new s w ≡ move_all session t (moves_of t sets rows new) s w
changes_moved session t period sets rows new s w gives = rw gives refl

-- they do not
pub changes_replaced : (session : Session) (t : Table) (period : Span) (sets : List Set) (rows : List Row) (new : List (List Value)) (s : State) (w : Workspace) → sets_period t sets ≡ false
    → change_all session t period sets rows new s w ≡ write_ascending session t (length rows) (replacing t period rows new) s w
changes_replaced session t period sets rows new s w gives = rw gives refl

-- a new period overlaps that of another row of its key
pub moves_there : (session : Session) (t : Table) (moves : List Move) (key : List Value) (shared : Span) (s : State) (w : Workspace) → first_clash (content w) t moves moves ≡ Some (key, shared)
    → move_all session t moves s w ≡ (s, key_there key (Some shared))
moves_there session t moves key shared s w there = rw there refl

-- none does
pub moves_new : (session : Session) (t : Table) (moves : List Move) (s : State) (w : Workspace) → first_clash (content w) t moves moves ≡ None
    → move_all session t moves s w ≡ write_ascending session t (length moves) (moving moves) s w
moves_new session t moves s w free = rw free refl

-- ---- keys that do not ascend

pub ascending : (session : Session) (t : Table) (count : ℕ) (changes : List RowChange) (s : State) (w : Workspace) → are_sorted (change_keys changes) ≡ true → write_ascending session t count changes s w ≡ write_all session t count changes s w
ascending session t count changes s w ascends = rw ascends refl

pub not_ascending : (session : Session) (t : Table) (count : ℕ) (changes : List RowChange) (s : State) (w : Workspace) → are_sorted (change_keys changes) ≡ false → write_ascending session t count changes s w ≡ (s, not_built)
not_ascending session t count changes s w ascends = rw ascends refl
