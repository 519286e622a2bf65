use Rattle.std.proofs.Common.{List, [], None, Some, sym, ap, ◌∙◌}
use Rattle.wm_syntax.specs.declared.query.Src.{Src as SrcNode}
use Rattle.wm_syntax.specs.Views.{filter_view, query_view, srcs_view}
use Rattle.wm_chosen.proofs.ChosenRows.{where_typed}
use Rattle.wm_graph.specs.Parts.{parts_of, space_of}
use Rattle.wm_model.proofs.Homes.{does_homeless}
use Rattle.wm_model.proofs.Selecting.{select_empty, select_faulty, select_historyless, select_pointless, select_spaceless, selects}
use Rattle.wm_model.specs.Planning.{Stay, tables_in}
use Rattle.wm_model.specs.Step.{answer_rows, empty_period, lost_history, no_history, no_savepoint, no_workspace, not_built, select}
use Rattle.wm_print.specs.Texts.{Refused}
use Rattle.wm_select.specs.Query.{answer_of}
use Rattle.wm_plan.proofs.Planning.{does_at_home, told}
use Rattle.wm_plan.specs.Views.{answer_view, seating_view}
use Rattle.wm_views.proofs.Losing.{point_lost_is, space_lost_is}
use Rattle.wm_views.proofs.Querying.{fault_is, own_look}
use Rattle.wm_views.specs.Looking.{look_view}
use Rattle.wm_views.proofs.select.select_ready.Goals as goal

pub returns-in-Some-clause-does : goal.returns-in-Some-clause-does
returns-in-Some-clause-does c = λ xs among.
    let image = c.args.ground.image.now in
    let query = query_view c.args.query.now in
    told image xs c.args.ground.moment c.answered.result [] Stay (Refused c.in-Some.refusal) (select c.args.session.now query c.args.empty) c.answered.ensures.edits (ap seating_view c.answered.ensures.seating)
    (ap answer_view c.answered.ensures.answer)
    (select_faulty image xs c.args.ground.moment c.args.session.now query c.args.empty c.in-Some.refusal (record { rules = c.args.ground.rules; there = c.requires.there; on = c.requires.on })
    (fault_is image query c.args.columns.now (Some c.in-Some.refusal) c.requires.columns (sym c.in_ok-refusal.ensures.exact ∙ c.in-Some.is)))

pub returns-in-Some-lost_history-clause-does : goal.returns-in-Some-lost_history-clause-does
returns-in-Some-lost_history-clause-does c = λ xs among.
    let image = c.args.ground.image.now in
    let query = query_view c.args.query.now in
    told image xs c.args.ground.moment c.answered-in-Some-lost_history.result [] Stay (no_history c.in-Some-lost_history.name.now) (select c.args.session.now query c.args.empty) c.answered-in-Some-lost_history.ensures.edits
    (ap seating_view c.answered-in-Some-lost_history.ensures.seating)
    (ap answer_view c.answered-in-Some-lost_history.ensures.answer ∙ c.no_history.ensures ∙ ap no_history c.in_ok-copy.ensures)
    (select_historyless image xs c.args.ground.moment c.args.session.now query c.args.empty c.in-Some-lost_history.name.now (record { rules = c.args.ground.rules; there = c.requires.there; on = c.requires.on })
    (fault_is image query c.args.columns.now None c.requires.columns (sym c.in_ok-refusal.ensures.exact ∙ c.in_default.is))
    (ap (λ (ss : List SrcNode). lost_history (tables_in image) (srcs_view ss)) (sym c.as_slice-sources.ensures.value) ∙ sym c.in-Some-lost_history.ensures))

pub returns-in-Some-lost_workspace-clause-does : goal.returns-in-Some-lost_workspace-clause-does
returns-in-Some-lost_workspace-clause-does c = λ xs among.
    let image = c.args.ground.image.now in
    let query = query_view c.args.query.now in
    told image xs c.args.ground.moment c.answered-in-Some-lost_workspace.result [] Stay (no_workspace c.in-Some-lost_workspace.name.now) (select c.args.session.now query c.args.empty) c.answered-in-Some-lost_workspace.ensures.edits
    (ap seating_view c.answered-in-Some-lost_workspace.ensures.seating)
    (ap answer_view c.answered-in-Some-lost_workspace.ensures.answer ∙ c.no_workspace.ensures ∙ ap no_workspace c.in_ok-copy-2.ensures)
    (select_spaceless image xs c.args.ground.moment c.args.session.now query c.args.empty c.in-Some-lost_workspace.name.now (record { rules = c.args.ground.rules; there = c.requires.there; on = c.requires.on })
    (fault_is image query c.args.columns.now None c.requires.columns (sym c.in_ok-refusal.ensures.exact ∙ c.in_default.is))
    (ap (λ (ss : List SrcNode). lost_history (tables_in image) (srcs_view ss)) (sym c.as_slice-sources.ensures.value) ∙ sym c.in_default-lost_history.ensures)
    (space_lost_is image c.args.ground.sessions.now c.args.ground.moment c.args.session.now query c.as_slice-sources.result.now (Some c.in-Some-lost_workspace.name.now) (ap srcs_view c.as_slice-sources.ensures.value) c.in-Some-lost_workspace.ensures))

pub returns-in-Some-lost_savepoint-clause-does : goal.returns-in-Some-lost_savepoint-clause-does
returns-in-Some-lost_savepoint-clause-does c = λ xs among.
    let image = c.args.ground.image.now in
    let query = query_view c.args.query.now in
    told image xs c.args.ground.moment c.answered-in-Some-lost_savepoint.result [] Stay (no_savepoint c.in-Some-lost_savepoint.name.now) (select c.args.session.now query c.args.empty) c.answered-in-Some-lost_savepoint.ensures.edits
    (ap seating_view c.answered-in-Some-lost_savepoint.ensures.seating)
    (ap answer_view c.answered-in-Some-lost_savepoint.ensures.answer ∙ c.no_savepoint.ensures ∙ ap no_savepoint c.in_ok-copy-3.ensures)
    (select_pointless image xs c.args.ground.moment c.args.session.now query c.args.empty c.in-Some-lost_savepoint.name.now (record { rules = c.args.ground.rules; there = c.requires.there; on = c.requires.on })
    (record {
      query_is = fault_is image query c.args.columns.now None c.requires.columns (sym c.in_ok-refusal.ensures.exact ∙ c.in_default.is);
      history_is = ap (λ (ss : List SrcNode). lost_history (tables_in image) (srcs_view ss)) (sym c.as_slice-sources.ensures.value) ∙ sym c.in_default-lost_history.ensures;
      space_is = space_lost_is image c.args.ground.sessions.now c.args.ground.moment c.args.session.now query c.as_slice-sources.result.now None (ap srcs_view c.as_slice-sources.ensures.value) c.in_default-lost_workspace.ensures;
      savepoint_is =
          point_lost_is image c.args.ground.sessions.now c.args.ground.moment c.args.session.now query c.as_slice-sources.result.now (Some c.in-Some-lost_savepoint.name.now) (ap srcs_view c.as_slice-sources.ensures.value)
          c.in-Some-lost_savepoint.ensures;
    }))

pub returns-then-empty-clause-does : goal.returns-then-empty-clause-does
returns-then-empty-clause-does c = λ xs among.
    let image = c.args.ground.image.now in
    let query = query_view c.args.query.now in
    told image xs c.args.ground.moment c.answered-then-empty.result [] Stay empty_period (select c.args.session.now query c.args.empty) c.answered-then-empty.ensures.edits (ap seating_view c.answered-then-empty.ensures.seating)
    (ap answer_view c.answered-then-empty.ensures.answer ∙ c.empty_period.ensures)
    (does_at_home image xs c.args.ground.moment c.args.session.now Stay empty_period (select c.args.session.now query c.args.empty) among tt (λ r there.
    select_empty image xs c.args.ground.moment c.args.session.now query c.args.empty r
    (record {
      ready = record { rules = c.args.ground.rules; there = c.requires.there; on = c.requires.on };
      good = record {
        query_is = fault_is image query c.args.columns.now None c.requires.columns (sym c.in_ok-refusal.ensures.exact ∙ c.in_default.is);
        history_is = ap (λ (ss : List SrcNode). lost_history (tables_in image) (srcs_view ss)) (sym c.as_slice-sources.ensures.value) ∙ sym c.in_default-lost_history.ensures;
        space_is = space_lost_is image c.args.ground.sessions.now c.args.ground.moment c.args.session.now query c.as_slice-sources.result.now None (ap srcs_view c.as_slice-sources.ensures.value) c.in_default-lost_workspace.ensures;
        savepoint_is = point_lost_is image c.args.ground.sessions.now c.args.ground.moment c.args.session.now query c.as_slice-sources.result.now None (ap srcs_view c.as_slice-sources.ensures.value) c.in_default-lost_savepoint.ensures;
      };
    }) there c.if-empty.true))

pub answer_over-requires-clause-typed : goal.answer_over-requires-clause-typed
answer_over-requires-clause-typed c = where_typed (filter_view c.args.query.now.filter) c.args.columns.now (c.in_ok-refusal.ensures.typed c.in_default.is)

pub answer_over-requires-clause-lasting : goal.answer_over-requires-clause-lasting
answer_over-requires-clause-lasting c = c.requires.lasting c.if-empty.false

pub answer_over-requires-clause-look : goal.answer_over-requires-clause-look
answer_over-requires-clause-look c = own_look (parts_of c.args.ground.image.now) c.look_of-look.result c.args.ground.moment c.args.session.now c.look_of-look.ensures.moment c.look_of-look.ensures.session c.look_of-look.ensures.look

pub returns-in_default-space-clause-does : goal.returns-in_default-space-clause-does
returns-in_default-space-clause-does c = λ xs among.
    let image = c.args.ground.image.now in
    let query = query_view c.args.query.now in
    told image xs c.args.ground.moment c.answered-in_default-space.result [] Stay not_built (select c.args.session.now query c.args.empty) c.answered-in_default-space.ensures.edits (ap seating_view c.answered-in_default-space.ensures.seating)
    (ap answer_view c.answered-in_default-space.ensures.answer ∙ c.not_built.ensures)
    (does_homeless image xs c.args.ground.moment c.args.session.now not_built (select c.args.session.now query c.args.empty) among (ap (space_of (parts_of image).spaces) (sym c.space.ensures) ∙ sym c.in_default-space.ensures))

pub returns-clause-does : goal.returns-clause-does
returns-clause-does c = λ xs among.
    let image = c.args.ground.image.now in
    let query = query_view c.args.query.now in
    let found = c.in_ok-found.ensures in
    told image xs c.args.ground.moment c.answered-2.result [] Stay (answer_rows (answer_of query found.listings)) (select c.args.session.now query c.args.empty) c.answered-2.ensures.edits (ap seating_view c.answered-2.ensures.seating)
    (ap answer_view c.answered-2.ensures.answer ∙ found.is)
    (selects image xs c.args.ground.moment c.args.session.now query c.args.empty (look_view (parts_of image) c.look_of-look.result) found.listings
    (record {
      ready = record { rules = c.args.ground.rules; there = c.requires.there; on = c.requires.on };
      good = record {
        query_is = fault_is image query c.args.columns.now None c.requires.columns (sym c.in_ok-refusal.ensures.exact ∙ c.in_default.is);
        history_is = ap (λ (ss : List SrcNode). lost_history (tables_in image) (srcs_view ss)) (sym c.as_slice-sources.ensures.value) ∙ sym c.in_default-lost_history.ensures;
        space_is = space_lost_is image c.args.ground.sessions.now c.args.ground.moment c.args.session.now query c.as_slice-sources.result.now None (ap srcs_view c.as_slice-sources.ensures.value) c.in_default-lost_workspace.ensures;
        savepoint_is = point_lost_is image c.args.ground.sessions.now c.args.ground.moment c.args.session.now query c.as_slice-sources.result.now None (ap srcs_view c.as_slice-sources.ensures.value) c.in_default-lost_savepoint.ensures;
      };
    }) c.look_of-look.ensures.look c.if-empty.false found.listed)
