use Rattle.std.proofs.Common.{ℕ, List, [], ◌∷◌, Option, Some, is_some, sym, ◌∙◌}
use Rattle.wm_base.specs.declared.refusal.Refusal.{Refusal}
use Rattle.wm_ground.proofs.Bridge.{if_ok}
use Rattle.wm_ground.specs.Grounds.{outline_on}
use Rattle.wm_ground.specs.Outcomes.{outcome_view}
use Rattle.wm_making.specs.Creating.{names_fault, shape_fault, table_of}
use Rattle.wm_model.specs.Step.{create_plan, doing, is_full, most_tables, refused_if, spent, table_there}
use Rattle.wm_outcome.proofs.Faults.{first_before}
use Rattle.wm_outcome.proofs.Named.{told_first}
use Rattle.wm_outcome.proofs.Tables.{create_order}
use Rattle.wm_outcome.proofs.Told.{also_clear}
use Rattle.wm_outline.specs.Outline.{Outline}
use Rattle.wm_state.specs.State.{next_table, table_named}
use Rattle.wm_state.specs.declared.edit.Edit.TheVariants as edits
use Rattle.wm_syntax.specs.declared.statement.CreateItem.{CreateItem}
use Rattle.wm_space.proofs.create.create_plan.Goals as goal

-- what it is refused for before its table is numbered
abbrev front : List ℕ → List CreateItem → Outline → List (Option Refusal)
front name items o = names_fault name items ∷ refused_if (is_some (table_named name o.tables)) (table_there name) ∷ shape_fault items ∷ []

-- and behind
abbrev behind : Outline → List (Option Refusal)
behind o = refused_if (is_full o.tables) most_tables ∷ spent o ∷ []

pub returns-in-Some : goal.returns-in-Some
returns-in-Some c =
    let name = c.args.name.now in
    let items = c.args.items.now in
    let o = outline_on c.args.ground in
    told_first (create_plan name items o) (Some c.in-Some.refusal) (outcome_view c.refused.result) (create_order name items o)
    (first_before (front name items o) (behind o) c.in-Some.refusal (sym c.in-Some.is ∙ c.in_ok-refusal.ensures)) c.refused.ensures

pub returns-in-None : goal.returns-in-None
returns-in-None c =
    let name = c.args.name.now in
    let items = c.args.items.now in
    let o = outline_on c.args.ground in
    if_ok c.create.result _ _
    (λ p is. also_clear (front name items o) (doing (behind o) (edits.Create (table_of (next_table o.tables) name items) ∷ [])) (outcome_view p) (sym c.in-None.is ∙ c.in_ok-refusal.ensures) is) c.create.ensures
