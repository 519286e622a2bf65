-- What a plan that changes rows of a table does in the workspace that a session stands in.
use Rattle.std.proofs.Common.{◌≡◌, ℕ, Bool, true, false, List, [], ◌∷◌, length, Option, Some, Result, Ok, Err, IfOk, refl, sym, ap, ◌∙◌, Vec, Global, vec_len, arith}
use Rattle.std.proofs.lemmas.Bool.{true≢false}
use Rattle.wm_base.specs.declared.memory.Memory.{Memory}
use Rattle.wm_base.specs.declared.refusal.Refusal.{Refusal}
use Rattle.wm_base.specs.declared.row.Row.{Row}
use Rattle.wm_dml.specs.Standing.{change_keys}
use Rattle.wm_dml.specs.declared.change.RowChange.{RowChange}
use Rattle.wm_graph.specs.Parts.{parts_of, space_of}
use Rattle.wm_graph.specs.Rules.{keep_rules}
use Rattle.wm_print.specs.Texts.{Answer, Done}
use Rattle.wm_spec.specs.declared.record.space.Space.{Space}
use Rattle.wm_spec.specs.declared.record.stored.Stored.{Stored}
use Rattle.wm_spec.specs.declared.record.table.Table.{Table}
use Rattle.std.specs.List.{list_all}
use Rattle.wm_model.specs.Lawful.{is_full_row}
use Rattle.wm_state.specs.Drawing.{are_sorted}
use Rattle.wm_state.specs.Standing.{SpaceFields}
use Rattle.wm_state.specs.State.{State, Session, Workspace}
use Rattle.wm_model.specs.Planning.{Does, IsOpen, StandsAt, Stay}
use Rattle.wm_model.specs.Step.{at_newest, not_built, not_latest, write_all, write_ascending}
use Rattle.wm_model.proofs.Changing.{ascending, not_ascending}
use Rattle.wm_model.proofs.Doing.{does_nothing}
use Rattle.wm_model.proofs.Homes.{home_is}
use Rattle.wm_model.proofs.Newest.{Acts, ComesTo, IsGood, comes_to, newest_dated, newest_elsewhere}
use Rattle.wm_plan.proofs.Planning.{told}
use Rattle.wm_change.specs.Acting.{AreFull, DoesAs, IsHome}
use Rattle.wm_plan.specs.Planning.{DoesIt}
use Rattle.wm_plan.specs.Views.{answer_view, seating_view}
use Rattle.wm_plan.specs.Stands.{stand_view}
use Rattle.wm_plan.specs.declared.planned.Planned.{Planned}
use Rattle.wm_plan.specs.declared.session.Stand.{Stand}
use Rattle.wm_plan.specs.declared.session.Stand.TheVariants.{Latest, At, Dated}

-- what is done in a workspace
abbrev pub InSpace : Type 0
InSpace = State → Workspace → State × Answer

-- ---- where the session stands

-- elsewhere than at what is newest
pub newest_away : (rs : List Stored) (xs : List Session) (m : ℕ) (session : Session) (name : List ℕ) (fault : Table → Option Refusal) (empty : Bool) (act : Acts) (t : Table) (a : Space) (stand : Stand) → (stand ≡ Latest → ⊥) → IsGood rs name fault t
    → space_of (parts_of rs).spaces session.space ≡ Some a → stand_view stand ≡ session.stand → Does rs xs m [] Stay not_latest (at_newest session name fault empty act)
newest_away rs xs m session name fault empty act t a Latest away g found at = absurd (away refl)
newest_away rs xs m session name fault empty act t a (At making) away g found at = newest_elsewhere rs xs m session name fault empty act t a making g found (sym at)
newest_away rs xs m session name fault empty act t a (Dated date) away g found at = newest_dated rs xs m session name fault empty act t a date g found (sym at)

-- ---- in general

-- an answer alone, by what is known of the records and the state
pub does_answer : (rs : List Stored) (m : ℕ) (p : Planned) (session : Session) (a : Space) (done : InSpace) (answer : Answer) → keep_rules (parts_of rs) ≡ true
    → ((xs : List Session) (s : State) (w : Workspace) → StandsAt rs xs m s → IsHome s session a w → done s w ≡ (s, answer)) → p.edits.items ≡ [] → seating_view p.seating ≡ Stay → answer_view p.answer ≡ answer
    → DoesAs rs m session a done p
does_answer rs m p session a done answer rules same none seats says = λ xs act acts.
    told rs xs m p [] Stay answer act none seats says (does_nothing rs xs m answer act (λ s st. let h = acts s st in h.2 ∙ same xs s h.0 st h.1))

-- and whatever they are
pub answers_so : (rs : List Stored) (m : ℕ) (p : Planned) (session : Session) (a : Space) (done : InSpace) (answer : Answer) → keep_rules (parts_of rs) ≡ true → ((s : State) (w : Workspace) → done s w ≡ (s, answer))
    → p.edits.items ≡ [] → seating_view p.seating ≡ Stay → answer_view p.answer ≡ answer → DoesAs rs m session a done p
answers_so rs m p session a done answer rules same none seats says = does_answer rs m p session a done answer rules (λ xs s w st home. same s w) none seats says

-- where a text in the rows is empty whatever is said is so, since in no state one is
pub answers_full : (rs : List Stored) (m : ℕ) (p : Planned) (session : Session) (a : Space) (done : InSpace) (answer : Answer) (rows : List Row) → keep_rules (parts_of rs) ≡ true → AreFull rs m session a rows → list_all is_full_row rows ≡ false
    → p.edits.items ≡ [] → seating_view p.seating ≡ Stay → answer_view p.answer ≡ answer → DoesAs rs m session a done p
answers_full rs m p session a done answer rows rules are empty none seats says =
    does_answer rs m p session a done answer rules (λ xs s w st home. absurd (true≢false (sym (are.full xs s w st home) ∙ empty))) none seats says

-- what does the same
pub does_so : (rs : List Stored) (m : ℕ) (r : Result Planned Memory) (session : Session) (a : Space) (done other : InSpace) → ((s : State) (w : Workspace) → other s w ≡ done s w)
    → IfOk r (DoesAs rs m session a done) → IfOk r (DoesAs rs m session a other)
does_so rs m (Ok p) session a done other same does = λ xs act acts. does xs act (λ s st. let h = acts s st in (h.0, h.1, h.2 ∙ same s h.0))
does_so rs m (Err e) session a done other same does = tt

-- or does so in the session's workspace
pub does_known : (rs : List Stored) (m : ℕ) (r : Result Planned Memory) (session : Session) (a : Space) (done other : InSpace)
    → ((xs : List Session) (s : State) (w : Workspace) → StandsAt rs xs m s → IsHome s session a w → other s w ≡ done s w) → IfOk r (DoesAs rs m session a done) → IfOk r (DoesAs rs m session a other)
does_known rs m (Ok p) session a done other same does = λ xs act acts. does xs act (λ s st. let h = acts s st in (h.0, h.1, h.2 ∙ same xs s h.0 st h.1))
does_known rs m (Err e) session a done other same does = tt

-- the statement does it
pub does_change : (rs : List Stored) (m : ℕ) (r : Result Planned Memory) (session : Session) (name : List ℕ) (fault : Table → Option Refusal) (empty : Bool) (act : Acts) (t : Table) (a : Space)
    → ComesTo rs session name fault t a → empty ≡ false → IfOk r (DoesAs rs m session a (act t)) → IfOk r (λ p. (xs : List Session) → IsOpen xs session → DoesIt rs xs m p (at_newest session name fault empty act))
does_change rs m (Ok p) session name fault empty act t a to lasting does = λ xs among. does xs (at_newest session name fault empty act) (λ s st.
    let home = home_is rs xs m s session.space a st to.found in
    (home.space, record { is = home.is; number = home.number; log = ap (λ (f : SpaceFields). f.log_length) home.fields }, comes_to rs xs m session name fault empty act t a s to lasting st))
does_change rs m (Err e) session name fault empty act t a to lasting does = tt

-- ---- rows are written

-- keys do not ascend
pub writes_not : (rs : List Stored) (m : ℕ) (p : Planned) (session : Session) (a : Space) (t : Table) (count : ℕ) (changes : List RowChange) → keep_rules (parts_of rs) ≡ true → are_sorted (change_keys changes) ≡ false
    → p.edits.items ≡ [] → seating_view p.seating ≡ Stay → answer_view p.answer ≡ not_built → DoesAs rs m session a (write_ascending session t count changes) p
writes_not rs m p session a t count changes rules up none seats says =
    answers_so rs m p session a (write_ascending session t count changes) not_built rules (λ s w. not_ascending session t count changes s w up) none seats says

-- there are none
pub writes_none : (rs : List Stored) (m : ℕ) (p : Planned) (session : Session) (a : Space) (t : Table) (count : ℕ) (changes : List RowChange) → keep_rules (parts_of rs) ≡ true → changes ≡ []
    → p.edits.items ≡ [] → seating_view p.seating ≡ Stay → answer_view p.answer ≡ Done 0 → DoesAs rs m session a (write_ascending session t count changes) p
writes_none rs m p session a t count changes rules empty none seats says =
    answers_so rs m p session a (write_ascending session t count changes) (Done 0) rules (λ s w. ap (λ (xs : List RowChange). write_ascending session t count xs s w) empty) none seats says

-- they ascend
pub writes_up : (rs : List Stored) (m : ℕ) (r : Result Planned Memory) (session : Session) (a : Space) (t : Table) (count : ℕ) (changes : List RowChange) → are_sorted (change_keys changes) ≡ true
    → IfOk r (DoesAs rs m session a (write_all session t count changes)) → IfOk r (DoesAs rs m session a (write_ascending session t count changes))
writes_up rs m r session a t count changes up does = does_so rs m r session a (write_all session t count changes) (write_ascending session t count changes) (λ s w. ascending session t count changes s w up) does

-- ---- how many there are

pub counted : (v : Vec RowChange Global) (k : ℕ) → k ≡ vec_len v → k ≡ length v.items
counted v k is = omega (arith, is)

pub none_counted : (xs : List RowChange) (k : ℕ) → k ≡ length xs → k ≡ 0 → xs ≡ []
none_counted [] k is none = refl
none_counted (x ∷ xs) k is none = absurd (omega (arith, is, none))

pub some_counted : (xs : List RowChange) (k : ℕ) → k ≡ length xs → (k ≡ 0 → ⊥) → xs ≡ [] → ⊥
some_counted xs k is some none = some (is ∙ ap (λ ys. length ys) none)
