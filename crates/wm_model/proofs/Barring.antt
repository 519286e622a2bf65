-- A line that is refused for one more reason does what its plan does that knows of the reason.
use Rattle.std.proofs.Common.{◌≡◌, ℕ, Bool, true, false, cond, List, Option, Some, None, refl, ap, ◌∙◌}
use Rattle.wm_base.specs.declared.refusal.Refusal.{Refusal}
use Rattle.wm_print.specs.Texts.{Answer, Refused}
use Rattle.wm_spec.specs.declared.record.stored.Stored.{Stored}
use Rattle.wm_state.specs.State.{Session, State}
use Rattle.wm_state.specs.declared.edit.Edit.{Edit}
use Rattle.wm_model.specs.Planning.{Does, Seating, StandsAt}
use Rattle.wm_model.specs.Step.{Outcome, barred, barred_outcome, is_before, refused_with}
use Rattle.wm_model.proofs.Doing.{does_nothing}

-- fault: what the line is refused for besides, which the records tell
pub does_barred : (rs : List Stored) (xs : List Session) (m : ℕ) (edits : List Edit) (seating : Seating) (answer : Answer) (act : State → State × Answer) (fault : State → Option Refusal) (found : Option Refusal)
    → Does rs xs m edits seating answer act → ((s : State) → StandsAt rs xs m s → fault s ≡ found)
    → let o = barred_outcome found (record { edits = edits; seating = seating; answer = answer }) in Does rs xs m o.edits o.seating o.answer (λ s. barred (fault s) s (act s))
does_barred rs xs m edits seating answer act fault None does same = record {
  can = does.can;
  seats = does.seats;
  does = λ s st. ap (λ o. barred o s (act s)) (same s st) ∙ does.does s st;
}
does_barred rs xs m edits seating answer act fault (Some r) does same = by_answer (is_before answer r) refl
  where
    plan : Outcome
    plan = record { edits = edits; seating = seating; answer = answer }

    told : (s : State) → StandsAt rs xs m s → (b : Bool) → is_before answer r ≡ b → barred (fault s) s (act s) ≡ cond b (act s) (s, Refused r)
    told s st b is =
        ap (λ o. barred o s (act s)) (same s st)
        ∙ ap (λ (done : State × Answer). cond (is_before done.1 r) (act s) (s, Refused r)) (does.does s st)
        ∙ ap (λ c. cond c (act s) (s, Refused r)) is

    by_answer : (b : Bool) → is_before answer r ≡ b → let o = cond b plan (refused_with r) in Does rs xs m o.edits o.seating o.answer (λ s. barred (fault s) s (act s))
    by_answer true is = record { can = does.can; seats = does.seats; does = λ s st. told s st true is ∙ does.does s st }
    by_answer false is = does_nothing rs xs m (Refused r) (λ s. barred (fault s) s (act s)) (λ s st. told s st false is)
