use Rattle.std.proofs.Common.{refl, sym, ap, ◌∙◌}
use Rattle.wm_syntax.specs.Views.{exprs_view, sets_view, filter_view, query_view, statement_view}
use Rattle.wm_syntax.specs.declared.statement.Statement.TheVariants.{Insert, Update, Delete, Select, Call}
use Rattle.wm_grammar.specs.Calls.{procedure_of}
use Rattle.wm_model.specs.Step.{call_with, create_plan, delete, insert, select, statement_done, update}
use Rattle.wm_calls.proofs.Lasting.{insert_lasts, update_lasts}
use Rattle.wm_calls.specs.Empty.{has_empty_period}
use Rattle.wm_outcome.proofs.Tables.{create_fits}
use Rattle.wm_plan.proofs.Planning.{early, for_open}
use Rattle.wm_engine.proofs.Lasting.{select_lasts}
use Rattle.wm_engine.proofs.Performing.{fitting_plain, performs_alike, plain}
use Rattle.wm_engine.proofs.plan.statement.statement_done.Goals as goal

pub returns-in-Create : goal.returns-in-Create
returns-in-Create c =
    let g = c.args.ground in
    rw c.in-Create.is
    (fitting_plain g _ (create_plan c.in-Create.table c.in-Create.items) c.create_plan.result c.create_plan.ensures
    (create_fits g.image.now g.sessions.now g.moment g.rules (early g.moment g.early) c.in-Create.table c.in-Create.items) (λ s. refl))

pub returns-in-Insert : goal.returns-in-Insert
returns-in-Insert c =
    let g = c.args.ground in
    let done = rw c.as_slice.ensures.value at c.insert.ensures.does in
    rw c.in-Insert.is
    (plain g _ c.insert.result
    (for_open g.image.now g.sessions.now g.moment c.insert.result c.args.session.now (insert c.args.session.now c.in-Insert.table c.in-Insert.names (exprs_view c.in-Insert.values.items) c.has_empty_period-empty.result)
    (statement_done c.args.session.now (statement_view (Insert c.in-Insert.table c.in-Insert.names c.in-Insert.values))) c.requires.open (λ s. ap (λ b. insert c.args.session.now c.in-Insert.table c.in-Insert.names (exprs_view c.in-Insert.values.items) b s) (ap has_empty_period (ap statement_view (sym c.in-Insert.is)) ∙ sym c.has_empty_period-empty.ensures)) done) c.insert.ensures.idle)

pub returns-in-Select : goal.returns-in-Select
returns-in-Select c =
    let g = c.args.ground in
    rw c.in-Select.is
    (plain g _ c.select.result
    (for_open g.image.now g.sessions.now g.moment c.select.result c.args.session.now (select c.args.session.now (query_view c.in-Select.query) c.has_empty_period-empty.result) (statement_done c.args.session.now (statement_view (Select c.in-Select.query))) c.requires.open
    (λ s. ap (λ b. select c.args.session.now (query_view c.in-Select.query) b s) (ap has_empty_period (ap statement_view (sym c.in-Select.is)) ∙ sym c.has_empty_period-empty.ensures)) c.select.ensures.does) c.select.ensures.idle)

pub returns-in-Call : goal.returns-in-Call
returns-in-Call c =
    let session = c.args.session.now in
    let procedure = procedure_of c.in-Call.procedure in
    let condition = filter_view c.in-Call.condition in
    let done = rw c.as_slice-args.ensures at c.call.ensures in
    rw c.in-Call.is
    (performs_alike c.args.ground (call_with session procedure c.in-Call.args condition c.has_empty_period-empty.result) (statement_done session (statement_view (Call c.in-Call.procedure c.in-Call.args c.in-Call.condition))) _ _ c.call.result
    (λ s. ap (λ b. call_with session procedure c.in-Call.args condition b s) (ap has_empty_period (ap statement_view (sym c.in-Call.is)) ∙ sym c.has_empty_period-empty.ensures)) done)

pub returns-in-Update : goal.returns-in-Update
returns-in-Update c =
    let g = c.args.ground in
    let done = rw c.as_slice-in-Update.ensures.value at c.update.ensures.does in
    rw c.in-Update.is
    (plain g _ c.update.result
    (for_open g.image.now g.sessions.now g.moment c.update.result c.args.session.now (update c.args.session.now c.in-Update.table (sets_view c.in-Update.sets.items) (filter_view c.in-Update.filter) c.has_empty_period-empty.result)
    (statement_done c.args.session.now (statement_view (Update c.in-Update.table c.in-Update.sets c.in-Update.filter))) c.requires.open (λ s. ap (λ b. update c.args.session.now c.in-Update.table (sets_view c.in-Update.sets.items) (filter_view c.in-Update.filter) b s) (ap has_empty_period (ap statement_view (sym c.in-Update.is)) ∙ sym c.has_empty_period-empty.ensures)) done) c.update.ensures.idle)

pub returns-in-Delete : goal.returns-in-Delete
returns-in-Delete c =
    let g = c.args.ground in
    rw c.in-Delete.is
    (plain g _ c.delete.result
    (for_open g.image.now g.sessions.now g.moment c.delete.result c.args.session.now (delete c.args.session.now c.in-Delete.table (filter_view c.in-Delete.filter) c.has_empty_period-empty.result)
    (statement_done c.args.session.now (statement_view (Delete c.in-Delete.table c.in-Delete.filter))) c.requires.open (λ s. ap (λ b. delete c.args.session.now c.in-Delete.table (filter_view c.in-Delete.filter) b s) (ap has_empty_period (ap statement_view (sym c.in-Delete.is)) ∙ sym c.has_empty_period-empty.ensures)) c.delete.ensures.does) c.delete.ensures.idle)

-- ---- no item has an empty period, where the statement has none

pub insert-requires-clause-lasting : goal.insert-requires-clause-lasting
insert-requires-clause-lasting c = λ none.
    rw c.as_slice.ensures.value
    (insert_lasts c.in-Insert.table c.in-Insert.names (exprs_view c.in-Insert.values.items) (ap has_empty_period (ap statement_view (sym c.in-Insert.is)) ∙ sym c.has_empty_period-empty.ensures ∙ none))

pub update-requires-clause-lasting : goal.update-requires-clause-lasting
update-requires-clause-lasting c = λ none.
    rw c.as_slice-in-Update.ensures.value
    (update_lasts c.in-Update.table (sets_view c.in-Update.sets.items) (filter_view c.in-Update.filter) (ap has_empty_period (ap statement_view (sym c.in-Update.is)) ∙ sym c.has_empty_period-empty.ensures ∙ none))

pub select-requires : goal.select-requires
select-requires c = record { lasting = λ none. select_lasts (query_view c.in-Select.query) (ap has_empty_period (ap statement_view (sym c.in-Select.is)) ∙ sym c.has_empty_period-empty.ensures ∙ none) }
