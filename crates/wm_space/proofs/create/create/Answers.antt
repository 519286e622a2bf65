use Rattle.std.proofs.Common.{◌≡◌, ℕ, Bool, true, false, List, [], ◌∷◌, Option, None, Some, refl, sym, ap, ◌∙◌, codes}
use Rattle.wm_base.specs.declared.refusal.Refusal.{Refusal}
use Rattle.wm_ground.proofs.Bridge.{if_ok}
use Rattle.wm_ground.specs.Grounds.{outline_on}
use Rattle.wm_ground.specs.Outcomes.{outcome_view}
use Rattle.wm_making.specs.Creating.{table_of}
use Rattle.wm_model.specs.Seating.{Stay}
use Rattle.wm_model.specs.Step.{Answer, Outcome, Plan, at_its_end, doing, first_fault, is_full, is_spent, most_tables, refusal_of, refused_if, spent}
use Rattle.wm_outcome.proofs.Faults.{at_if, least_first}
use Rattle.wm_outcome.proofs.Named.{InOrder, told_first}
use Rattle.wm_outline.specs.Outline.{Outline}
use Rattle.wm_print.specs.Texts.{Fine}
use Rattle.wm_spec.specs.declared.record.table.Table.{Table}
use Rattle.wm_state.specs.State.{next_table}
use Rattle.wm_state.specs.declared.edit.Edit.TheVariants as edits
use Rattle.wm_syntax.specs.declared.statement.CreateItem.{CreateItem}
use Rattle.wm_space.proofs.create.create.Goals as goal

abbrev plan : List ℕ → List CreateItem → Outline → Plan
plan name items o = doing (refused_if (is_full o.tables) most_tables ∷ spent o ∷ []) (edits.Create (table_of (next_table o.tables) name items) ∷ [])

in_order : (o : Outline) → InOrder (refused_if (is_full o.tables) most_tables ∷ spent o ∷ [])
in_order o = least_first (46 ∷ 49 ∷ []) _ (at_if 46 (is_full o.tables) most_tables refl, (at_if 49 (is_spent o) (at_its_end (codes "WORK")) refl, tt)) refl

full : (b : Bool) (g : Option Refusal) → b ≡ true → refusal_of most_tables ≡ first_fault (refused_if b most_tables ∷ g ∷ [])
full true g h = refl
full false g h = absurd (cc)

room : (b : Bool) (f g : Option Refusal) → b ≡ false → f ≡ g → f ≡ first_fault (refused_if b most_tables ∷ g ∷ [])
room true f g h is = absurd (cc)
room false f None h is = is
room false f (Some r) h is = is

pub returns-in_default : goal.returns-in_default
returns-in_default c =
    let o = outline_on c.args.ground in
    told_first (plan c.args.name.now c.args.items.now o) (refusal_of most_tables) (outcome_view c.answered.result) (in_order o) (full (is_full o.tables) (spent o) c.in_default.ensures.full)
    (c.answered.ensures ∙ ap (λ (a : Answer). let q : Outcome = record { edits = []; seating = Stay; answer = a } in q) c.most_tables.ensures)

pub returns-in-Some-2 : goal.returns-in-Some-2
returns-in-Some-2 c =
    let o = outline_on c.args.ground in
    told_first (plan c.args.name.now c.args.items.now o) (Some c.in-Some-2.refusal) (outcome_view c.refused.result) (in_order o)
    (room (is_full o.tables) (Some c.in-Some-2.refusal) (spent o) c.in-Some.ensures.room.0 (sym c.in-Some-2.is ∙ c.in_ok-refusal.ensures)) c.refused.ensures

pub returns : goal.returns
returns c =
    let o = outline_on c.args.ground in
    if_ok c.done.result _ _
    (λ p is.
    told_first (plan c.args.name.now c.args.items.now o) None (outcome_view p) (in_order o) (room (is_full o.tables) None (spent o) c.in-Some.ensures.room.0 (sym c.in_default-2.is ∙ c.in_ok-refusal.ensures))
    (is
    ∙ ap (λ (t : Table). let q : Outcome = record { edits = edits.Create t ∷ []; seating = Stay; answer = Fine } in q)
    (c.in_ok-table.ensures.table ∙ (λ i. table_of (c.in-Some.ensures.room.1 i) (c.in_ok-copy.ensures i) c.args.items.now))))
    c.done.ensures
