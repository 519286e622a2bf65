use Rattle.std.proofs.Common.{◌≡◌, ℕ, ◌<◌, ◌≤◌, nat_lt, Bool, true, false, length, List, [], Option, sym, ap, ◌∙◌, arith}
use Rattle.wm_ground.proofs.Bridge.{if_ok}
use Rattle.wm_ground.specs.Grounds.{outline_on}
use Rattle.wm_ground.specs.Outcomes.{outcome_view}
use Rattle.wm_model.specs.Seating.{Stay}
use Rattle.wm_model.specs.Step.{Answer, Outcome, enabling, for_table, long_name, no_table, outcome, refused_if, refused_or}
use Rattle.wm_outcome.proofs.Tables.{enabling_is, enabling_named}
use Rattle.wm_outcome.proofs.Told.{told_at_once}
use Rattle.wm_spec.specs.declared.record.table.Table.{Table}
use Rattle.wm_state.specs.State.{table_named}
use Rattle.wm_space.proofs.enable.enable_named.Goals as goal

is_long : (k n : ℕ) → n ≡ k → 25 < n → nat_lt 25 k ≡ true
is_long k n is more = grind (arith, is, more)

is_brief : (k n : ℕ) → n ≡ k → n ≤ 25 → nat_lt 25 k ≡ false
is_brief k n is few = grind (arith, is, few)

pub returns-then-len-gt-NAME_LIMIT : goal.returns-then-len-gt-NAME_LIMIT
returns-then-len-gt-NAME_LIMIT c =
    let o = outline_on c.args.ground in
    c.answered.ensures
    ∙ ap (λ (a : Answer). let q : Outcome = record { edits = []; seating = Stay; answer = a } in q) c.long_name.ensures
    ∙ ap (λ (b : Bool). refused_or (refused_if b long_name) (outcome (enabling_named c.args.name c.args.args.now o))) (sym (is_long (length c.args.name) c.len.result c.len.ensures.value c.if-len-gt-NAME_LIMIT.true))
    ∙ sym (enabling_is c.args.name c.args.args.now o)

pub returns-in-Some : goal.returns-in-Some
returns-in-Some c =
    let o = outline_on c.args.ground in
    let act = enabling c.args.name c.args.args.now o in
    if_ok c.enable.result _ _
    (λ p is.
    is
    ∙ sym (ap (λ (t : Option Table). outcome (for_table (no_table c.args.name) act t)) c.in-Some.ensures)
    ∙ ap (λ (n : List ℕ). outcome (for_table (no_table c.args.name) act (table_named n o.tables))) c.as_bytes.ensures
    ∙ ap (λ (b : Bool). refused_or (refused_if b long_name) (outcome (enabling_named c.args.name c.args.args.now o))) (sym (is_brief (length c.args.name) c.len.result c.len.ensures.value c.if-len-gt-NAME_LIMIT.false))
    ∙ sym (enabling_is c.args.name c.args.args.now o))
    c.enable.ensures

pub returns-in-None : goal.returns-in-None
returns-in-None c =
    let o = outline_on c.args.ground in
    let act = enabling c.args.name c.args.args.now o in
    told_at_once _ (outcome_view c.answered-in-None.result) (c.answered-in-None.ensures ∙ ap (λ (a : Answer). let q : Outcome = record { edits = []; seating = Stay; answer = a } in q) c.no_table.ensures)
    ∙ sym (ap (λ (t : Option Table). outcome (for_table (no_table c.args.name) act t)) c.in-None.ensures)
    ∙ ap (λ (n : List ℕ). outcome (for_table (no_table c.args.name) act (table_named n o.tables))) c.as_bytes.ensures
    ∙ ap (λ (b : Bool). refused_or (refused_if b long_name) (outcome (enabling_named c.args.name c.args.args.now o))) (sym (is_brief (length c.args.name) c.len.result c.len.ensures.value c.if-len-gt-NAME_LIMIT.false))
    ∙ sym (enabling_is c.args.name c.args.args.now o)
