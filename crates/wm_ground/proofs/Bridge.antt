-- From what comes of a plan to what a line does to each state for which the records stand.
use Rattle.std.proofs.Common.{◌≡◌, ◌≤◌, ℕ, Bool, true, false, if◌then◌else◌, List, [], length, Option, Some, None, Result, Ok, Err, IfOk, refl, sym, ap, ◌∙◌, subst, arith}
use Rattle.std.proofs.lemmas.Bool.{false≢true}
use Rattle.std.specs.List.{list_all}
use Rattle.wm_base.specs.declared.memory.Memory.{Memory}
use Rattle.wm_base.specs.declared.refusal.Refusal.{Refusal}
use Rattle.wm_graph.specs.Parts.{Parts, parts_of}
use Rattle.wm_ground.specs.Outcomes.{outcome_view}
use Rattle.wm_model.proofs.Barring.{does_barred as does_refused}
use Rattle.wm_model.specs.Planning.{Does, SeatsStaged, StandsAt, Stay}
use Rattle.wm_model.specs.Step.{Outcome, Plan, also, barred, barred_outcome, done_so, for_named, is_before, least, outcome, refused_or, refused_with, run}
use Rattle.wm_outcome.proofs.Named.{can_outcome, seats_outcome}
use Rattle.wm_outcome.proofs.Plans.{does_outlined}
use Rattle.wm_outcome.specs.Fitting.{Fits}
use Rattle.wm_outline.specs.Outline.{Outline, SpaceOutline, outline, outline_of}
use Rattle.wm_plan.proofs.Planning.{does_one}
use Rattle.wm_plan.specs.Forks.{AreForks}
use Rattle.wm_plan.specs.Idle.{Idles, is_idle}
use Rattle.wm_plan.specs.Planning.{DoesIt}
use Rattle.wm_plan.specs.Views.{answer_view, seating_view}
use Rattle.wm_plan.specs.declared.planned.Planned.{Planned}
use Rattle.wm_plan.specs.declared.seating.Seating.{Seating}
use Rattle.wm_plan.specs.declared.seating.Seating.TheVariants as seatings
use Rattle.wm_print.specs.Texts.{Answer}
use Rattle.wm_spec.specs.declared.record.stored.Stored.{Stored}
use Rattle.wm_state.specs.Drafts.{CanDraft, is_fork}
use Rattle.wm_state.specs.State.{Session, State}
use Rattle.wm_state.specs.declared.edit.Edit.{Edit}

-- the plan of the outline does what a function of the state does, where that is what comes of the state's plan
pub does_value : (rs : List Stored) (xs : List Session) (m : ℕ) (r : Result Planned Memory) (plan : Outline → Plan) (act : State → State × Answer) → IfOk r (λ p. outcome_view p ≡ outcome (plan (outline_of (parts_of rs) xs m)))
    → ((o : Outcome) → o ≡ outcome (plan (outline_of (parts_of rs) xs m)) → CanDraft rs m o.edits) → ((o : Outcome) → o ≡ outcome (plan (outline_of (parts_of rs) xs m)) → SeatsStaged (parts_of rs) o.seating)
    → ((s : State) → StandsAt rs xs m s → act s ≡ run (plan (outline s)) s) → IfOk r (λ p. DoesIt rs xs m p act)
does_value rs xs m (Ok p) plan act is can seats alike = does_one rs xs m p (λ s. run (plan (outline s)) s) act alike (does_outlined rs xs m plan (outcome_view p) (can (outcome_view p) is) (seats (outcome_view p) is) is)
does_value rs xs m (Err e) plan act is can seats alike = tt

-- so does a plan that fits the records
pub does_fit : (rs : List Stored) (xs : List Session) (m : ℕ) (r : Result Planned Memory) (plan : Outline → Plan) (act : State → State × Answer) → IfOk r (λ p. outcome_view p ≡ outcome (plan (outline_of (parts_of rs) xs m)))
    → Fits rs m (plan (outline_of (parts_of rs) xs m)) → ((s : State) → act s ≡ run (plan (outline s)) s) → IfOk r (λ p. DoesIt rs xs m p act)
does_fit rs xs m r plan act is fits alike =
    does_value rs xs m r plan act is (λ o same. subst (λ (x : Outcome). CanDraft rs m x.edits) (sym same) fits.can)
    (λ o same. subst (λ (x : Outcome). SeatsStaged (parts_of rs) x.seating) (sym same) fits.seats) (λ s st. alike s)

-- what holds of a plan, where there is memory for it
pub if_ok : (r : Result Planned Memory) (P Q : Planned → Type 0) → ((p : Planned) → P p → Q p) → IfOk r P → IfOk r Q
if_ok (Ok p) P Q so holds = so p holds
if_ok (Err e) P Q so holds = tt

-- what leaves the sessions
stays : (x : Seating) → seating_view x ≡ Stay → x ≡ seatings.Stay
stays seatings.Stay e = refl
stays (seatings.Open session) e = absurd (cc)
stays (seatings.Close name) e = absurd (cc)
stays (seatings.Set name setting) e = absurd (cc)
stays (seatings.Thaw space) e = absurd (cc)

-- a plan whose answer is not idle changes nothing where it is refused
pub idles_value : (r : Result Planned Memory) (q : Plan) → IfOk r (λ p. outcome_view p ≡ outcome q) → (is_idle q.answer ≡ true → (q.edits ≡ []) × (q.seating ≡ Stay)) → IfOk r Idles
idles_value (Ok p) q is idle = λ said. let h = by_fault (least q.faults) (ap (λ (o : Outcome). is_idle o.answer) (sym is) ∙ said) in (ap (λ (o : Outcome). o.edits) is ∙ h.0, stays p.seating (ap (λ (o : Outcome). o.seating) is ∙ h.1))
  where
    by_fault : (f : Option Refusal) → is_idle (refused_or f (done_so q)).answer ≡ true → ((refused_or f (done_so q)).edits ≡ []) × ((refused_or f (done_so q)).seating ≡ Stay)
    by_fault None e = idle e
    by_fault (Some refusal) e = (refl, refl)
idles_value (Err e) q is idle = tt

-- a plan that fits the records changes nothing where its answer is idle
pub idles_fit : (rs : List Stored) (m : ℕ) (r : Result Planned Memory) (q : Plan) → IfOk r (λ p. outcome_view p ≡ outcome q) → Fits rs m q → IfOk r Idles
idles_fit rs m (Ok p) q is fits = λ said. let h = fits.idle (ap (λ (o : Outcome). is_idle o.answer) (sym is) ∙ said) in (ap (λ (o : Outcome). o.edits) is ∙ h.0, stays p.seating (ap (λ (o : Outcome). o.seating) is ∙ h.1))
idles_fit rs m (Err e) q is fits = tt

-- ---- a fault more, which many lines share

-- what holds of what comes of a plan, and of what is refused, holds where it is refused for this too
barred_so : (P : Outcome → Type 0) (found : Option Refusal) (o : Outcome) → P o → ((r : Refusal) → P (refused_with r)) → P (barred_outcome found o)
barred_so P None o holds refused = holds
barred_so P (Some r) o holds refused = by_test (is_before o.answer r)
  where
    by_test : (b : Bool) → P (if b then o else refused_with r)
    by_test true = holds
    by_test false = refused r

-- it changes nothing, where its answer is idle
abbrev LeavesAll : Outcome → Type 0
LeavesAll o = is_idle o.answer ≡ true → (o.edits ≡ []) × (o.seating ≡ Stay)

module _ (p q : Planned) (found : Option Refusal) (is : outcome_view q ≡ barred_outcome found (outcome_view p)) where
  -- the plan does what the line does that is refused for it too, where the records tell what for
  pub does_barred : (rs : List Stored) (xs : List Session) (m : ℕ) (act : State → State × Answer) (fault : State → Option Refusal) → ((s : State) → StandsAt rs xs m s → fault s ≡ found) → DoesIt rs xs m p act
      → DoesIt rs xs m q (λ s. barred (fault s) s (act s))
  does_barred rs xs m act fault same does =
      subst (λ (o : Outcome). Does rs xs m o.edits o.seating o.answer (λ s. barred (fault s) s (act s))) (sym is)
      (does_refused rs xs m p.edits.items (seating_view p.seating) (answer_view p.answer) act fault found does same)

  -- what holds of its edits, and of none
  pub edits_barred : (P : List Edit → Type 0) → P p.edits.items → P [] → P q.edits.items
  edits_barred P holds none = subst (λ (o : Outcome). P o.edits) (sym is) (barred_so (λ o. P o.edits) found (outcome_view p) holds (λ r. none))

  pub forks_barred : AreForks p → AreForks q
  forks_barred forks = edits_barred (λ es. (list_all is_fork es ≡ true) × (length es ≤ 1)) forks (refl, omega arith)

  pub idles_barred : Idles p → Idles q
  idles_barred idles = λ said. let h = subst LeavesAll (sym is) (barred_so LeavesAll found (outcome_view p) (λ said. let g = idles said in (g.0, ap seating_view g.1)) (λ r told. (refl, refl))) said in (h.0, stays q.seating h.1)
