-- What nothing comes of but an answer, and the table and the workspace that are asked for.
use Rattle.std.proofs.Common.{◌≡◌, ℕ, not, Bool, true, false, List, [], ◌∷◌, Option, Some, None, Result, Ok, Err, IfOk, refl, sym, ap, subst, ◌∙◌}
use Rattle.std.specs.Option.{option_map, option_or}
use Rattle.wm_base.specs.declared.refusal.FormRefusal.TheVariants.{Wm012}
use Rattle.wm_base.specs.declared.refusal.Refusal.{Refusal}
use Rattle.wm_base.specs.declared.refusal.Refusal.TheVariants.{Form}
use Rattle.wm_calls.specs.Faults.{argument_fault, misfit_before}
use Rattle.wm_base.specs.declared.memory.Memory.{Memory}
use Rattle.wm_decided.specs.Keys.{columns_of_keys}
use Rattle.wm_grammar.specs.declared.procedure.Parameter.TheVariants as parameters
use Rattle.wm_grammar.specs.declared.procedure.Procedure.{Procedure}
use Rattle.wm_ground.proofs.Bridge.{idles_value}
use Rattle.wm_ground.specs.Grounds.{outline_on}
use Rattle.wm_ground.specs.Outcomes.{outcome_view}
use Rattle.wm_ground.specs.declared.ground.Ground.{Ground}
use Rattle.wm_model.specs.Seating.{Stay}
use Rattle.wm_model.specs.Step.Places.{least}
use Rattle.wm_model.specs.Step.{Asking, Outcome, Plan, fault_around, first_fault, for_rows, mistyped, outcome, refusal_of, refused_for, refused_if, versioning}
use Rattle.wm_plan.specs.Idle.{Idles}
use Rattle.wm_plan.specs.Views.{answer_view, seating_view}
use Rattle.wm_plan.specs.declared.answer.Answer.{Answer as AnswerOf}
use Rattle.wm_plan.specs.declared.planned.Planned.{Planned}
use Rattle.wm_plan.specs.declared.seating.Seating.TheVariants as seatings
use Rattle.wm_print.specs.Texts.{Answer}
use Rattle.wm_spec.specs.declared.record.stored.Stored.{Stored}
use Rattle.wm_spec.specs.declared.record.table.Table.{Table}
use Rattle.wm_state.specs.Drafts.{CanDraft}
use Rattle.wm_state.specs.declared.edit.Edit.{Edit}
use Rattle.wm_syntax.specs.declared.statement.Arg.{Arg}
use Rattle.wm_typing.specs.Names.{unknown_in_filter}
use Rattle.wm_typing.specs.Types.{mistyped_in_filter}
use Rattle.wm_locking.specs.Asked.{Acts, AreLate, IsNothing, given_faults}

-- an answer alone
pub view_is : (p : Planned) (answer : Answer) → p.edits.items ≡ [] → p.seating ≡ seatings.Stay → answer_view p.answer ≡ answer → outcome_view p ≡ record { edits = []; seating = Stay; answer = answer }
view_is p answer none stays says = λ i. record { edits = none i; seating = seating_view (stays i); answer = says i }

-- one edit
pub editing_is : (r : Result Planned Memory) (edit : Edit) (answer : AnswerOf) → IfOk r (λ p. p.edits.items ≡ edit ∷ []) → IfOk r (λ p. p.seating ≡ seatings.Stay) → IfOk r (λ p. p.answer ≡ answer)
    → IfOk r (λ p. outcome_view p ≡ record { edits = edit ∷ []; seating = Stay; answer = answer_view answer })
editing_is (Ok p) edit answer one stays says = λ i. record { edits = one i; seating = seating_view (stays i); answer = answer_view (says i) }
editing_is (Err e) edit answer one stays says = tt

pub nothing : (g : Ground) (a : Asking) (p : Planned) (answer : Answer) → outcome_view p ≡ record { edits = []; seating = Stay; answer = answer } → ((act : Acts) → AreLate act → outcome_view p ≡ outcome (for_rows a act (outline_on g))) → IsNothing g a p
nothing g a p answer says tells = record { tells = tells; answer = answer; says = says }

-- it changes nothing
abbrev alone : Answer → Plan
alone answer = record { faults = []; edits = []; seating = Stay; answer = answer }

comes_alone : (answer : Answer) (q : Outcome) → q ≡ record { edits = []; seating = Stay; answer = answer } → q ≡ outcome (alone answer)
unfolding least
comes_alone answer q says = says

pub nothing_idles : (g : Ground) (a : Asking) (p : Planned) → IsNothing g a p → Idles p
nothing_idles g a p is = idles_value (Ok p) (alone is.answer) (comes_alone is.answer (outcome_view p) is.says) (λ idle. (refl, refl))

pub nothing_drafts : (g : Ground) (a : Asking) (p : Planned) (rs : List Stored) (m : ℕ) → IsNothing g a p → CanDraft rs m p.edits.items
nothing_drafts g a p rs m is = subst (λ (o : Outcome). CanDraft rs m o.edits) (sym is.says) tt

pub nothing_seats : (g : Ground) (a : Asking) (p : Planned) → IsNothing g a p → seating_view p.seating ≡ Stay
nothing_seats g a p is = ap (λ (o : Outcome). o.seating) is.says

-- ---- what is wrong with a call for a table

-- where nothing is wrong around a condition, nothing is in it
pub inside_none : (procedure : Procedure) (args : List Arg) (inside : Option (List ℕ)) → None ≡ fault_around procedure args inside → inside ≡ None
inside_none procedure args inside none = by_faults (misfit_before procedure parameters.WhereClause args) inside none
  where
    by_faults : (before inside : Option (List ℕ)) → None ≡ option_or before (option_or inside (argument_fault procedure args)) → inside ≡ None
    by_faults (Some x) inside e = absurd (cc)
    by_faults None (Some x) e = absurd (cc)
    by_faults None None e = refl

module _ (a : Asking) (t : Table) where
  -- what is told, by what was found
  abbrev told : Bool → Option (List ℕ) → Option (List ℕ) → Option Refusal
  told on unknown around =
      first_fault (refused_if (not on) (versioning t.name false) ∷ option_map (λ (name : List ℕ). Form (Wm012 name)) unknown ∷ refused_for mistyped around ∷ [])

  abbrev unknown : Option (List ℕ)
  unknown = unknown_in_filter (columns_of_keys t) a.condition

  abbrev around : Option (List ℕ)
  around = fault_around a.procedure a.args (mistyped_in_filter (columns_of_keys t) a.condition)

  pub unready : t.versioned ≡ false → refusal_of (versioning t.name false) ≡ first_fault (given_faults a t)
  unready off = ap (λ b. told b unknown around) (sym off)

  pub unkeyed : t.versioned ≡ true → (name : List ℕ) → Some name ≡ unknown → Some (Form (Wm012 name)) ≡ first_fault (given_faults a t)
  unkeyed on name some = ap (λ u. told true u around) some ∙ ap (λ b. told b unknown around) (sym on)

  pub wrong_around : t.versioned ≡ true → None ≡ unknown → (mark found : Option (List ℕ)) → mark ≡ mistyped_in_filter (columns_of_keys t) a.condition → found ≡ fault_around a.procedure a.args mark → refused_for mistyped found ≡ first_fault (given_faults a t)
  wrong_around on none mark found is same =
      by_found found
      ∙ ap (λ f. told true None f) (same ∙ ap (fault_around a.procedure a.args) is)
      ∙ ap (λ u. told true u around) none
      ∙ ap (λ b. told b unknown around) (sym on)
    where
      by_found : (f : Option (List ℕ)) → refused_for mistyped f ≡ told true None f
      by_found None = refl
      by_found (Some x) = refl
