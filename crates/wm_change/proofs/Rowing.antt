-- What a plan that changes the rows of a table that a session sees does.
use Rattle.std.proofs.Common.{◌≡◌, ℕ, true, false, refl, List, length, map, Option, Result, IfOk, sym, ap, subst, ◌∙◌}
use Rattle.std.specs.List.{list_all}
use Rattle.wm_base.specs.Period.{Span, always}
use Rattle.wm_base.specs.declared.memory.Memory.{Memory}
use Rattle.wm_base.specs.declared.row.Row.{Row}
use Rattle.wm_base.specs.declared.refusal.Refusal.{Refusal}
use Rattle.wm_syntax.specs.Trees.{Cond, Expr, Set}
use Rattle.wm_dml.specs.Changing.{chosen, gone, updated_rows}
use Rattle.wm_graph.specs.Parts.{parts_of}
use Rattle.wm_spec.specs.declared.record.space.Space.{Space}
use Rattle.wm_spec.specs.declared.record.stored.Stored.{Stored}
use Rattle.wm_spec.specs.declared.record.table.Table.{Table}
use Rattle.wm_state.proofs.Listed.{showing_is}
use Rattle.wm_state.specs.Listing.{IsShowing}
use Rattle.wm_state.specs.Standing.{latest}
use Rattle.wm_state.specs.State.{State, Session, Workspace, content}
use Rattle.wm_model.specs.Planning.{StandsAt}
use Rattle.wm_making.specs.Inserting.{insert_fault}
use Rattle.wm_making.specs.Rows.{row_of}
use Rattle.wm_model.proofs.Lawful.Rows.{chosen_full, content_full, rows_full}
use Rattle.wm_model.proofs.Newest.{Acts}
use Rattle.wm_model.specs.Lawful.{is_full_row}
use Rattle.wm_model.specs.Step.{add_found, new_period, replace_all, rows_in, with_rows, within, write_ascending}
use Rattle.wm_typing.specs.Changing.{delete_fault, update_fault}
use Rattle.wm_print.specs.Texts.{Answer}
use Rattle.wm_change.proofs.Acting.{does_known}
use Rattle.wm_change.specs.Acting.{AreFull, DoesAs, IsHome}
use Rattle.wm_chosen.specs.Chosen.{AreChosen}
use Rattle.wm_plan.specs.declared.planned.Planned.{Planned}

-- rows of a table without valid time are seen over all of time
pub plain_within : (m : ℕ) (session : Session) (t : Table) → t.valid ≡ false → within m session t ≡ always
plain_within m session t plain = rw plain refl

-- what is done with rows and the period in which they are changed
abbrev pub OnRows : Type 0
OnRows = Table → Span → List Row → State → Workspace → State × Answer

-- so with the rows that a condition chooses
abbrev pub on_chosen : Option Cond → OnRows → OnRows
on_chosen filter act = λ table period rows. act table period (chosen table filter rows)

-- the statement does with the rows that its condition chooses what the plan does with them
pub does_rows : (rs : List Stored) (m : ℕ) (r : Result Planned Memory) (session : Session) (a : Space) (filter : Option Cond) (act : OnRows) (t : Table) (period : Span) (version : ℕ) (rows given : List Row)
    → period ≡ within m session t → version ≡ latest (parts_of rs) session.space → AreChosen rs version t period filter given → rows ≡ given
    → IfOk r (DoesAs rs m session a (act t period rows)) → IfOk r (DoesAs rs m session a (with_rows session (on_chosen filter act) t))
does_rows rs m r session a filter act t period version rows given in_it newest are same =
    does_known rs m r session a (act t period rows) (with_rows session (on_chosen filter act) t) (λ xs s w st home. done xs s w st home)
  where
    listed : IsShowing (parts_of rs) (latest (parts_of rs) session.space) t.number t.valid period are.all
    listed = subst (λ v. IsShowing (parts_of rs) v t.number t.valid period are.all) newest are.listed

    done : (xs : List Session) (s : State) (w : Workspace) → StandsAt rs xs m s → IsHome s session a w → with_rows session (on_chosen filter act) t s w ≡ act t period rows s w
    done xs s w st home =
        ap (λ n. act t (within n session t) (chosen t filter (rows_in (within n session t) (content w) t)) s w) (sym st.moment_is)
        ∙ ap (λ p. act t p (chosen t filter (rows_in p (content w) t)) s w) (sym in_it)
        ∙ ap (λ all. act t period (chosen t filter all) s w) (sym (showing_is (parts_of rs) s.durable session.space w t.number t.valid period are.all st.stands home.is listed))
        ∙ ap (λ xs. act t period xs s w) (sym (same ∙ are.are))

-- no text in those rows is empty
pub rows_are_full : (rs : List Stored) (m : ℕ) (session : Session) (a : Space) (filter : Option Cond) (t : Table) (period : Span) (version : ℕ) (rows given : List Row)
    → version ≡ latest (parts_of rs) session.space → AreChosen rs version t period filter given → rows ≡ given → AreFull rs m session a rows
rows_are_full rs m session a filter t period version rows given newest are same = record { full = full }
  where
    listed : IsShowing (parts_of rs) (latest (parts_of rs) session.space) t.number t.valid period are.all
    listed = subst (λ v. IsShowing (parts_of rs) v t.number t.valid period are.all) newest are.listed

    full : (xs : List Session) (s : State) (w : Workspace) → StandsAt rs xs m s → IsHome s session a w → list_all is_full_row rows ≡ true
    full xs s w st home =
        ap (list_all is_full_row) (same ∙ are.are)
        ∙ ap (λ all. list_all is_full_row (chosen t filter all)) (showing_is (parts_of rs) s.durable session.space w t.number t.valid period are.all st.stands home.is listed)
        ∙ chosen_full t filter (rows_in period (content w) t) (rows_full period (content w) t (content_full s.durable session.space w st.lawful.durable home.is))

-- ---- DELETE

-- what is wrong with it
abbrev pub delete_faults : Option Cond → Table → Option Refusal
delete_faults filter = λ table. delete_fault table filter

-- what it does with rows
abbrev pub deletes : Session → OnRows
deletes session = λ table period rows. write_ascending session table (length rows) (map (gone table period) rows)

abbrev pub delete_acts : Session → Option Cond → Acts
delete_acts session filter = with_rows session (on_chosen filter (deletes session))

-- ---- UPDATE

abbrev pub update_faults : List Set → Option Cond → Table → Option Refusal
update_faults sets filter = λ table. update_fault table sets filter

abbrev pub updates : Session → List Set → OnRows
updates session sets = λ table period rows. replace_all session table period sets rows (updated_rows table sets rows)

abbrev pub update_acts : Session → List Set → Option Cond → Acts
update_acts session sets filter = with_rows session (on_chosen filter (updates session sets))

-- ---- INSERT

abbrev pub insert_faults : Option (List (List ℕ)) → List Expr → Table → Option Refusal
insert_faults names values = λ table. insert_fault table names values

abbrev pub insert_acts : Session → Option (List (List ℕ)) → List Expr → Acts
insert_acts session names values = λ table. add_found session table (new_period session table names values) (row_of table names values)
