-- From what comes of the four calls to what they do to each state for which the records stand.
use Rattle.std.proofs.Common.{◌≡◌, ℕ, nat_lt, true, List, [], ◌∷◌, Option, Some, None, Result, Ok, Err, IfOk, refl, sym, ap, subst, ◌∙◌}
use Rattle.std.specs.List.{list_all}
use Rattle.std.specs.Option.{option_map_or}
use Rattle.wm_base.specs.declared.instant.TheConstants.{END}
use Rattle.wm_base.specs.declared.memory.Memory.{Memory}
use Rattle.wm_base.specs.declared.row.Row.{Row}
use Rattle.wm_base.specs.declared.value.Value.{Value}
use Rattle.wm_base.specs.declared.value.Value.TheVariants as values
use Rattle.wm_dml.specs.Changing.{chosen, declared_values, row_key}
use Rattle.wm_graph.specs.Parts.{Parts, parts_of, space_of, table_of}
use Rattle.wm_graph.specs.Rules.{keep_rules}
use Rattle.wm_ground.specs.Outcomes.{outcome_view}
use Rattle.wm_making.specs.Rows.{is_filled}
use Rattle.wm_model.proofs.Filled.{declared_filled, filled_key}
use Rattle.wm_model.proofs.Homes.{HomeIs, home_is}
use Rattle.wm_model.proofs.Lawful.Rows.{chosen_full, content_full, rows_full}
use Rattle.wm_model.specs.Lawful.{is_full_row}
use Rattle.wm_model.specs.Planning.{SeatsStaged, StandsAt}
use Rattle.wm_model.specs.Seating.{Stay, Set}
use Rattle.wm_model.specs.Step.Sessions.{Lock as LockSetting}
use Rattle.wm_model.specs.Step.{Asking, Outcome, also, asking_faults, content_numbered, first_fault, lock_rows_plan, mistyped, no_workspace, outcome, refused_for, refusing, rows_in, rows_meant, run, set_locking_plan, unlock_rows_plan, unlocking, within, workspace_asked}
use Rattle.wm_outcome.proofs.Faults.{least_behind}
use Rattle.wm_outcome.proofs.Named.{can_outcome, one_fault, seats_outcome, told_first}
use Rattle.wm_outcome.proofs.Plans.{does_planned, outline_at}
use Rattle.wm_outline.specs.Outline.{Outline, SpaceOutline, outline, outline_by, outline_of}
use Rattle.wm_plan.proofs.Planning.{does_one}
use Rattle.wm_plan.specs.Idle.{is_idle}
use Rattle.wm_plan.specs.Planning.{DoesIt}
use Rattle.wm_plan.specs.Views.{seating_view}
use Rattle.wm_plan.specs.declared.planned.Planned.{Planned}
use Rattle.wm_print.specs.Texts.{Answer, Fine}
use Rattle.wm_spec.specs.Lists.{Entry}
use Rattle.wm_spec.specs.declared.record.lock.LockMode.{LockMode}
use Rattle.wm_spec.specs.declared.record.space.Space.{Space}
use Rattle.wm_spec.specs.declared.record.stored.Stored.{Stored}
use Rattle.wm_spec.specs.declared.record.table.Table.{Table}
use Rattle.wm_state.proofs.Listed.{showing_is}
use Rattle.wm_state.proofs.Tests.{all_if}
use Rattle.wm_state.specs.Drafts.{CanDraft, can_keep}
use Rattle.wm_state.specs.State.{Session, State, content}
use Rattle.wm_locking.proofs.Fronts.{of_rows}
use Rattle.wm_locking.proofs.Unlocking.{can_unlock, unlocking_idle}
use Rattle.wm_locking.specs.Rows.{AreMeant, keeps_key}

-- ---- SetLockingON and SetLockingOFF

module _ (session : Session) (fault : Option (List ℕ)) (mode : Option LockMode) (q : Outcome) where
  pub set_told : (parameter : List ℕ) → Some parameter ≡ fault → q ≡ record { edits = []; seating = Stay; answer = mistyped parameter } → q ≡ outcome (set_locking_plan session fault mode)
  set_told parameter is says = told_first (set_locking_plan session fault mode) _ q (one_fault (refused_for mistyped fault)) (ap (λ f. first_fault (refused_for mistyped f ∷ [])) is) says

  pub set_clear : (name : List ℕ) → None ≡ fault → name ≡ session.name → q ≡ record { edits = []; seating = Set name (LockSetting mode); answer = Fine } → q ≡ outcome (set_locking_plan session fault mode)
  set_clear name none is says =
      told_first (set_locking_plan session fault mode) None q (one_fault (refused_for mistyped fault)) (ap (λ f. first_fault (refused_for mistyped f ∷ [])) none)
      (says ∙ ap (λ n. let o : Outcome = record { edits = []; seating = Set n (LockSetting mode); answer = Fine } in o) is)

-- ---- LockRows

-- the rows that the newest version of a workspace shows are those that each state holds in it, and no text in their keys is empty
can_keep_filled : (v : Value) → is_filled v ≡ true → can_keep v ≡ true
can_keep_filled (values.Text t) e = e
can_keep_filled _ e = refl

module _ (rs : List Stored) (xs : List Session) (m : ℕ) (s : State) (st : StandsAt rs xs m s) (session : Session) (a : Asking) (t : Table) (x : Space) (there : table_of (parts_of rs).tables t.number ≡ Some t) (found : space_of (parts_of rs).spaces x.number ≡ Some x) where
  home : HomeIs s x.number x
  home = home_is rs xs m s x.number x st found

  held : content_numbered s x.number ≡ content home.space
  held = ap (λ o. option_map_or content o []) home.is

  meant : rows_meant session a s t (outline_by (parts_of rs) x) ≡ chosen t a.condition (rows_in (within m session t) (content home.space) t)
  meant =
      ap (λ n. chosen t a.condition (rows_in (within n session t) (content_numbered s x.number) t)) (sym st.moment_is)
      ∙ ap (λ (es : List Entry). chosen t a.condition (rows_in (within m session t) es t)) held

  kept_key : (r : Row) → is_full_row r ≡ true → keeps_key t r ≡ true
  kept_key r full = all_if is_filled can_keep can_keep_filled (row_key t (declared_values t r.values)) (filled_key t (declared_values t r.values) (declared_filled t r.values full))

  pub are_meant : AreMeant rs session m a t x (rows_meant session a s t (outline_by (parts_of rs) x))
  are_meant = record {
    chosen = λ out are.
        meant
        ∙ ap (chosen t a.condition) (sym (showing_is (parts_of rs) s.durable x.number home.space t.number t.valid (within m session t) are.all st.stands home.is are.listed))
        ∙ sym are.are;
    kept =
        ap (list_all (keeps_key t)) meant
        ∙ all_if is_full_row (keeps_key t) kept_key (chosen t a.condition (rows_in (within m session t) (content home.space) t))
        (chosen_full t a.condition (rows_in (within m session t) (content home.space) t)
        (rows_full (within m session t) (content home.space) t (content_full s.durable x.number home.space st.lawful.durable home.is)));
  }

pub does_lock : (rs : List Stored) (xs : List Session) (m : ℕ) (session : Session) (a : Asking) (r : Result Planned Memory) (act : State → State × Answer)
    → IfOk r (λ p. (rows : Table → SpaceOutline → List Row)
    → ((t : Table) (x : Space) → table_of (parts_of rs).tables t.number ≡ Some t → space_of (parts_of rs).spaces x.number ≡ Some x → AreMeant rs session m a t x (rows t (outline_by (parts_of rs) x)))
    → outcome_view p ≡ outcome (lock_rows_plan session a rows (outline_of (parts_of rs) xs m)))
    → IfOk r (λ p. CanDraft rs m p.edits.items) → IfOk r (λ p. seating_view p.seating ≡ Stay) → ((s : State) → act s ≡ run (lock_rows_plan session a (rows_meant session a s) (outline s)) s) → IfOk r (λ p. DoesIt rs xs m p act)
does_lock rs xs m session a (Ok p) act is can stays alike =
    does_one rs xs m p (λ s. run (lock_rows_plan session a (rows_meant session a s) (outline s)) s) act (λ s st. alike s)
    (does_planned rs xs m (λ s. lock_rows_plan session a (rows_meant session a s) (outline s)) (outcome_view p) can (subst (SeatsStaged (parts_of rs)) (sym stays) tt)
    (λ s st. ap (λ o. outcome (lock_rows_plan session a (rows_meant session a s) o)) (sym (outline_at rs xs m s st)) ∙ sym (is (rows_meant session a s) (are_meant rs xs m s st session a))))
does_lock rs xs m session a (Err e) act is can stays alike = tt

-- ---- UnlockRows

module _ (session : Session) (a : Asking) where
  pub can_unlock_rows : (rs : List Stored) (xs : List Session) (m : ℕ) → keep_rules (parts_of rs) ≡ true → nat_lt m END ≡ true → (q : Outcome) → q ≡ outcome (unlock_rows_plan session a (outline_of (parts_of rs) xs m)) → CanDraft rs m q.edits
  can_unlock_rows rs xs m rules early q is =
      subst (λ (q : Outcome). CanDraft rs m q.edits) (sym is)
      (of_rows a (unlocking session a (outline_of (parts_of rs) xs m)) (outline_of (parts_of rs) xs m) (λ p. CanDraft rs m (outcome p).edits) (λ answer. can_outcome rs m (refusing answer) (λ clear. tt))
      (λ t. can_outcome rs m (also (asking_faults a t) (refusing (no_workspace (workspace_asked a)))) (λ clear. tt))
      (λ t x.
      can_outcome rs m (also (asking_faults a t) (unlocking session a (outline_of (parts_of rs) xs m) t x))
      (λ clear. can_unlock rs xs m rules early session a t x (least_behind (asking_faults a t) (unlocking session a (outline_of (parts_of rs) xs m) t x).faults clear))))

  pub unlock_rows_seats : (p : Parts) (o : Outline) (q : Outcome) → q ≡ outcome (unlock_rows_plan session a o) → SeatsStaged p q.seating
  unlock_rows_seats p o q is =
      subst (λ (q : Outcome). SeatsStaged p q.seating) (sym is)
      (of_rows a (unlocking session a o) o (λ plan. SeatsStaged p (outcome plan).seating) (λ answer. seats_outcome p (refusing answer) tt) (λ t. seats_outcome p (also (asking_faults a t) (refusing (no_workspace (workspace_asked a)))) tt)
      (λ t x. seats_outcome p (also (asking_faults a t) (unlocking session a o t x)) tt))

  pub unlock_rows_idles : (o : Outline) → is_idle (unlock_rows_plan session a o).answer ≡ true → ((unlock_rows_plan session a o).edits ≡ []) × ((unlock_rows_plan session a o).seating ≡ Stay)
  unlock_rows_idles o =
      of_rows a (unlocking session a o) o (λ p. is_idle p.answer ≡ true → (p.edits ≡ []) × (p.seating ≡ Stay)) (λ answer idle. (refl, refl)) (λ t idle. (refl, refl)) (λ t x. unlocking_idle session a o t x)
