-- From a plan of the outline of records to what a line does to each state for which they stand.
use Rattle.std.proofs.Common.{◌≡◌, ℕ, ◌+◌, nat_lt, nat_le, Bool, true, false, not, if◌then◌else◌, List, [], ◌∷◌, Option, Some, None, refl, sym, ap, ◌∙◌, subst, add-zero, arith}
use Rattle.std.proofs.lemmas.Bool.Decides.{nat_tests}
use Rattle.wm_base.specs.declared.instant.TheConstants.{END}
use Rattle.wm_base.specs.declared.refusal.Refusal.{Refusal}
use Rattle.wm_graph.specs.Parts.{Parts, parts_of}
use Rattle.wm_graph.specs.Rules.{keep_rules}
use Rattle.wm_outline.specs.Outline.{Outline, outline, outline_of}
use Rattle.wm_outline.proofs.Outlines.{counted_is, outline_is}
use Rattle.wm_spec.specs.declared.record.stored.Stored.{Stored}
use Rattle.wm_state.proofs.Apart.{ruled}
use Rattle.wm_state.specs.Drafts.{CanDraft, CanEdit, CanWork}
use Rattle.wm_state.specs.Editing.{line_work, locks_by}
use Rattle.wm_state.specs.State.{Session, State}
use Rattle.wm_state.specs.declared.edit.Edit.{Edit}
use Rattle.wm_model.specs.Planning.{Does, SeatsStaged, StandsAt, planned}
use Rattle.wm_model.specs.Step.{Outcome, Plan, also, barred_outcome, comes, counter_limit, done_so, is_spent, is_spent_by, outcome, refusal_of, refused_or, refused_with, run}
use Rattle.wm_model.specs.Step.Places.{least, place, sooner}

-- ---- what comes of a plan

-- the records, sessions and moment have one outline with each state for which they stand
pub outline_at : (rs : List Stored) (xs : List Session) (m : ℕ) (s : State) → StandsAt rs xs m s → outline_of (parts_of rs) xs m ≡ outline s
outline_at rs xs m s st = outline_is (parts_of rs) xs m s st.stands st.sessions_are st.moment_is

-- what has come of a plan is what it does to each state, where the plan is the state's
pub does_planned : (rs : List Stored) (xs : List Session) (m : ℕ) (plan : State → Plan) (o : Outcome) → CanDraft rs m o.edits → SeatsStaged (parts_of rs) o.seating → ((s : State) → StandsAt rs xs m s → outcome (plan s) ≡ o)
    → Does rs xs m o.edits o.seating o.answer (λ s. run (plan s) s)
does_planned rs xs m plan o can seats same = record {
  can = can;
  seats = seats;
  does = λ s st. ap (λ q. comes q s) (same s st) ∙ ap (λ n. (planned n n o.edits o.seating s, o.answer)) (sym st.moment_is);
}

-- so, of a plan that looks at nothing but the outline
pub does_outlined : (rs : List Stored) (xs : List Session) (m : ℕ) (plan : Outline → Plan) (o : Outcome) → CanDraft rs m o.edits → SeatsStaged (parts_of rs) o.seating → o ≡ outcome (plan (outline_of (parts_of rs) xs m))
    → Does rs xs m o.edits o.seating o.answer (λ s. run (plan (outline s)) s)
does_outlined rs xs m plan o can seats is = does_planned rs xs m (λ s. plan (outline s)) o can seats (λ s st. ap (λ q. outcome (plan q)) (sym (outline_at rs xs m s st)) ∙ sym is)

-- ---- a fault more

-- it may be asked once the plan was made
pub barred_is : (fault : Option Refusal) (p : Plan) → refusal_of p.answer ≡ None → outcome (also (fault ∷ []) p) ≡ barred_outcome fault (outcome p)
unfolding least
barred_is fault p says = by_least (least p.faults) fault
  where
    by_least : (o f : Option Refusal) → refused_or (sooner f o) (done_so p) ≡ barred_outcome f (refused_or o (done_so p))
    by_least None None = refl
    by_least None (Some r) = rw says refl
    by_least (Some q) None = refl
    by_least (Some q) (Some r) = by_test (nat_le (place r) (place q)) ∙ sym (ap (λ b. if b then refused_with q else refused_with r) (turned (place q) (place r)))
      where
        turned : (a b : ℕ) → nat_lt a b ≡ not (nat_le b a)
        turned a b = grind arith

        by_test : (b : Bool) → refused_or (if b then Some r else Some q) (done_so p) ≡ (if not b then refused_with q else refused_with r)
        by_test true = refl
        by_test false = refl

-- ---- work

-- where it is not spent for so many locks, a line may make them
pub can_work_by : (p : Parts) (xs : List Session) (m locks : ℕ) → keep_rules p ≡ true → nat_lt m END ≡ true → is_spent_by locks (outline_of p xs m) ≡ false → CanWork p m (locks + line_work)
can_work_by p xs m locks rules early room =
    let c = (ruled p rules).counters in
    record { counters = c; one = (ruled p rules).one; some = some locks; room = ap (λ w. nat_lt counter_limit (w + (locks + line_work))) (sym (counted_is p c (λ c. c.work) (ruled p rules).one)) ∙ room; early = early }
  where
    some : (n : ℕ) → nat_lt 0 (n + line_work) ≡ true
    some n = grind (arith, nat_tests)

-- so may one that makes none
pub can_work : (p : Parts) (xs : List Session) (m : ℕ) → keep_rules p ≡ true → nat_lt m END ≡ true → is_spent (outline_of p xs m) ≡ false → CanWork p m line_work
can_work p xs m rules early room = can_work_by p xs m 0 rules early room

-- one edit may be drafted that makes so many locks, where it can be made
pub drafts_by : (rs : List Stored) (xs : List Session) (m : ℕ) (e : Edit) → keep_rules (parts_of rs) ≡ true → nat_lt m END ≡ true → is_spent_by (locks_by e) (outline_of (parts_of rs) xs m) ≡ false → CanEdit (parts_of rs) m e → CanDraft rs m (e ∷ [])
drafts_by rs xs m e rules early room can =
    (subst (λ n. CanWork (parts_of rs) m (n + line_work)) (sym (add-zero (locks_by e))) (can_work_by (parts_of rs) xs m (locks_by e) rules early room), omega arith, (can, λ given changes drafts. tt))

-- so, where it makes none
pub drafts_one : (rs : List Stored) (xs : List Session) (m : ℕ) (e : Edit) → keep_rules (parts_of rs) ≡ true → nat_lt m END ≡ true → locks_by e ≡ 0 → is_spent (outline_of (parts_of rs) xs m) ≡ false → CanEdit (parts_of rs) m e → CanDraft rs m (e ∷ [])
drafts_one rs xs m e rules early none room can = (subst (CanWork (parts_of rs) m) (sym (ap (λ n. n + 0 + line_work) none)) (can_work (parts_of rs) xs m rules early room), omega arith, (can, λ given changes drafts. tt))
