-- What a plan that adds a row does.
use Rattle.std.proofs.Common.{◌≡◌, ℕ, true, List, [], ◌∷◌, Option, Some, None, Result, IfOk, sym, ap, subst, ◌∙◌}
use Rattle.wm_base.specs.Period.{Span}
use Rattle.wm_base.specs.declared.memory.Memory.{Memory}
use Rattle.wm_base.specs.declared.value.Value.{Value}
use Rattle.wm_dml.specs.Changing.{added, row_key}
use Rattle.wm_graph.specs.Parts.{parts_of}
use Rattle.wm_graph.specs.Rules.{keep_rules}
use Rattle.wm_version_rows.specs.Listing.{IsFirstShared}
use Rattle.wm_spec.specs.declared.record.space.Space.{Space}
use Rattle.wm_spec.specs.declared.record.stored.Stored.{Stored}
use Rattle.wm_spec.specs.declared.record.table.Table.{Table}
use Rattle.wm_state.proofs.Shared.{shared_of}
use Rattle.wm_state.specs.Standing.{Newest, latest}
use Rattle.wm_state.specs.State.{State, Session, Workspace, content}
use Rattle.wm_model.proofs.Changing.{adds_new, adds_there}
use Rattle.wm_model.specs.Planning.{StandsAt, Stay}
use Rattle.wm_model.specs.Step.{add_to, key_there, taken, told_period, write_ascending}
use Rattle.wm_change.proofs.Acting.{does_answer, does_known}
use Rattle.wm_change.specs.Acting.{DoesAs, IsHome}
use Rattle.wm_plan.specs.Views.{answer_view, seating_view}
use Rattle.wm_plan.specs.declared.planned.Planned.{Planned}

-- what a period shares with the rows of a key in the newest version is what it shares with those in the workspace
taken_is : (rs : List Stored) (xs : List Session) (m : ℕ) (session : Session) (a : Space) (t : Table) (key : List Value) (period : Span) (version : ℕ) (found : Option Span) (s : State) (w : Workspace)
    → version ≡ latest (parts_of rs) session.space → IsFirstShared (parts_of rs) version t.number key period found → StandsAt rs xs m s → IsHome s session a w → taken (content w) t key period ≡ found
taken_is rs xs m session a t key period version found s w newest shared st home =
    let at : IsFirstShared (parts_of rs) (latest (parts_of rs) session.space) t.number key period found = subst (λ v. IsFirstShared (parts_of rs) v t.number key period found) newest shared in
    sym (shared_of (parts_of rs) (latest (parts_of rs) session.space) (content w) t.number key period at.stretches (st.stands.named.tells (latest (parts_of rs) session.space) session.space w.rebases (content w) (Newest w home.is)).holds at.are) ∙ sym at.first

-- a row of the key stands there
pub add_there : (rs : List Stored) (m : ℕ) (p : Planned) (session : Session) (a : Space) (t : Table) (period shared : Span) (row key : List Value) (version : ℕ) (found : Option Span) → keep_rules (parts_of rs) ≡ true
    → version ≡ latest (parts_of rs) session.space → IsFirstShared (parts_of rs) version t.number key period found → key ≡ row_key t row → found ≡ Some shared
    → p.edits.items ≡ [] → seating_view p.seating ≡ Stay → answer_view p.answer ≡ key_there key (told_period t shared) → DoesAs rs m session a (add_to session t period row) p
add_there rs m p session a t period shared row key version found rules newest is key_is there none seats says =
    does_answer rs m p session a (add_to session t period row) (key_there key (told_period t shared)) rules
    (λ xs s w st home.
    adds_there session t period shared row s w (ap (λ k. taken (content w) t k period) (sym key_is) ∙ taken_is rs xs m session a t key period version found s w newest is st home ∙ there)
    ∙ ap (λ k. let answered : State × _ = (s, key_there k (told_period t shared)) in answered) (sym key_is))
    none seats says

-- none does
pub add_new : (rs : List Stored) (m : ℕ) (r : Result Planned Memory) (session : Session) (a : Space) (t : Table) (period : Span) (row key : List Value) (version : ℕ) (found : Option Span)
    → version ≡ latest (parts_of rs) session.space → IsFirstShared (parts_of rs) version t.number key period found → key ≡ row_key t row → found ≡ None
    → IfOk r (DoesAs rs m session a (write_ascending session t 1 (added t period row ∷ []))) → IfOk r (DoesAs rs m session a (add_to session t period row))
add_new rs m r session a t period row key version found newest is key_is none =
    does_known rs m r session a (write_ascending session t 1 (added t period row ∷ [])) (add_to session t period row)
    (λ xs s w st home.
    adds_new session t period row s w (ap (λ k. taken (content w) t k period) (sym key_is) ∙ taken_is rs xs m session a t key period version found s w newest is st home ∙ none))
