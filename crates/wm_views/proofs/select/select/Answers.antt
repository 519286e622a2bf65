use Rattle.std.proofs.Common.{List, [], false, sym, ap, ◌∙◌}
use Rattle.wm_syntax.specs.declared.query.Src.{Src as SrcNode}
use Rattle.wm_syntax.specs.Views.{query_view, srcs_view}
use Rattle.wm_model.proofs.Selecting.{select_lost, select_off}
use Rattle.wm_model.specs.Planning.{Stay, tables_in}
use Rattle.wm_model.specs.Step.{columns_in, lost_source, no_table, select, table_off, tables_of, versioning}
use Rattle.wm_plan.proofs.Planning.{told}
use Rattle.wm_plan.specs.Views.{answer_view, seating_view}
use Rattle.wm_views.proofs.select.select.Goals as goal

pub returns-in-Some-clause-does : goal.returns-in-Some-clause-does
returns-in-Some-clause-does c = λ xs among.
    let image = c.args.ground.image.now in
    let query = c.args.query.now in
    told image xs c.args.ground.moment c.answered.result [] Stay (no_table c.in-Some.name.now) (select c.args.session.now (query_view query) c.args.empty) c.answered.ensures.edits (ap seating_view c.answered.ensures.seating)
    (ap answer_view c.answered.ensures.answer ∙ c.no_table.ensures ∙ ap no_table c.in_ok-copy.ensures)
    (select_lost image xs c.args.ground.moment c.args.session.now (query_view query) c.args.empty c.in-Some.name.now c.args.ground.rules
    (ap (λ (ss : List SrcNode). lost_source (tables_in image) (srcs_view ss)) (sym c.as_slice-sources.ensures.value) ∙ sym c.in-Some.ensures))

pub returns-in-Some-table_off-clause-does : goal.returns-in-Some-table_off-clause-does
returns-in-Some-table_off-clause-does c = λ xs among.
    let image = c.args.ground.image.now in
    let query = c.args.query.now in
    told image xs c.args.ground.moment c.answered-in-Some-table_off.result [] Stay (versioning c.in-Some-table_off.name.now false) (select c.args.session.now (query_view query) c.args.empty) c.answered-in-Some-table_off.ensures.edits
    (ap seating_view c.answered-in-Some-table_off.ensures.seating)
    (ap answer_view c.answered-in-Some-table_off.ensures.answer ∙ c.versioning.ensures ∙ ap (λ n. versioning n false) c.in_ok-copy-2.ensures)
    (select_off image xs c.args.ground.moment c.args.session.now (query_view query) c.args.empty c.in-Some-table_off.name.now c.args.ground.rules
    (ap (λ (ss : List SrcNode). lost_source (tables_in image) (srcs_view ss)) (sym c.as_slice-sources.ensures.value) ∙ sym c.in_default.ensures)
    (ap (λ (ss : List SrcNode). table_off (tables_of (tables_in image) (srcs_view ss))) (sym c.as_slice-sources.ensures.value) ∙ sym c.in-Some-table_off.ensures))

pub select_ready-requires-clause-there : goal.select_ready-requires-clause-there
select_ready-requires-clause-there c = ap (λ (ss : List SrcNode). lost_source (tables_in c.args.ground.image.now) (srcs_view ss)) (sym c.as_slice-sources.ensures.value) ∙ sym c.in_default.ensures

pub select_ready-requires-clause-on : goal.select_ready-requires-clause-on
select_ready-requires-clause-on c = ap (λ (ss : List SrcNode). table_off (tables_of (tables_in c.args.ground.image.now) (srcs_view ss))) (sym c.as_slice-sources.ensures.value) ∙ sym c.in_default-table_off.ensures

pub select_ready-requires-clause-columns : goal.select_ready-requires-clause-columns
select_ready-requires-clause-columns c = c.in_ok-columns.ensures ∙ ap (λ (ss : List SrcNode). columns_in (tables_in c.args.ground.image.now) (srcs_view ss)) c.as_slice-sources.ensures.value
