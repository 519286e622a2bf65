use Rattle.std.proofs.Common.{[], false, sym, ap, ◌∙◌}
use Rattle.wm_syntax.specs.Views.{filter_view, sets_view}
use Rattle.wm_dml.specs.Changing.{all_overlap, own_columns}
use Rattle.wm_graph.specs.Parts.{parts_of, space_of}
use Rattle.wm_model.proofs.Named.{named_is, ready_keyed}
use Rattle.wm_model.proofs.Homes.{does_homeless}
use Rattle.wm_model.proofs.Newest.{newest_none, newest_off, newest_faulty, newest_empty}
use Rattle.wm_model.specs.Planning.{Stay, named}
use Rattle.wm_model.specs.Step.{update, empty_period, no_table, not_built, not_latest, versioning}
use Rattle.wm_print.specs.Texts.{Refused}
use Rattle.wm_state.specs.Standing.{latest}
use Rattle.wm_change.proofs.Acting.{does_change, newest_away}
use Rattle.wm_chosen.proofs.ChosenRows.{chosen_keyed, chosen_overlap}
use Rattle.wm_chosen.proofs.ChosenRows.{where_typed}
use Rattle.wm_plan.proofs.Planning.{told}
use Rattle.wm_change.proofs.Rowing.{update_acts, update_faults, updates, does_rows, plain_within, rows_are_full}
use Rattle.wm_chosen.specs.Chosen.{are_keyed}
use Rattle.wm_plan.specs.Views.{answer_view, seating_view}
use Rattle.wm_change.proofs.change.update.Goals as goal

pub returns-in_default-clause-does : goal.returns-in_default-clause-does
returns-in_default-clause-does c = λ xs among.
    told c.args.image.now xs c.args.moment c.answered.result [] Stay (no_table c.args.name.now) (update c.args.session.now c.args.name.now (sets_view c.args.sets.now) (filter_view c.args.filter.now) c.args.empty) c.answered.ensures.edits (ap seating_view c.answered.ensures.seating)
    (ap answer_view c.answered.ensures.answer ∙ c.no_table.ensures ∙ ap no_table c.in_ok-copy.ensures)
    (newest_none c.args.image.now xs c.args.moment c.args.session.now c.args.name.now (update_faults (sets_view c.args.sets.now) (filter_view c.args.filter.now)) c.args.empty (update_acts c.args.session.now (sets_view c.args.sets.now) (filter_view c.args.filter.now)) c.requires.rules (ap (named c.args.image.now) (sym c.as_bytes.ensures) ∙ sym c.in_default.ensures))

pub returns-then-not-table-clause-does : goal.returns-then-not-table-clause-does
returns-then-not-table-clause-does c = λ xs among.
    told c.args.image.now xs c.args.moment c.answered-then-not-table.result [] Stay (versioning c.args.name.now false) (update c.args.session.now c.args.name.now (sets_view c.args.sets.now) (filter_view c.args.filter.now) c.args.empty) c.answered-then-not-table.ensures.edits (ap seating_view c.answered-then-not-table.ensures.seating)
    (ap answer_view c.answered-then-not-table.ensures.answer ∙ c.versioning.ensures ∙ ap (λ n. versioning n false) c.in_ok-copy-2.ensures)
    (newest_off c.args.image.now xs c.args.moment c.args.session.now c.args.name.now (update_faults (sets_view c.args.sets.now) (filter_view c.args.filter.now)) c.args.empty (update_acts c.args.session.now (sets_view c.args.sets.now) (filter_view c.args.filter.now)) c.in-Some.table.now c.requires.rules (ap (named c.args.image.now) (sym c.as_bytes.ensures) ∙ sym c.in-Some.ensures) c.if-not-table.true)

pub returns-in-Some-2-clause-does : goal.returns-in-Some-2-clause-does
returns-in-Some-2-clause-does c = λ xs among.
    told c.args.image.now xs c.args.moment c.answered-in-Some-2.result [] Stay (Refused c.in-Some-2.refusal) (update c.args.session.now c.args.name.now (sets_view c.args.sets.now) (filter_view c.args.filter.now) c.args.empty) c.answered-in-Some-2.ensures.edits (ap seating_view c.answered-in-Some-2.ensures.seating)
    (ap answer_view c.answered-in-Some-2.ensures.answer)
    (newest_faulty c.args.image.now xs c.args.moment c.args.session.now c.args.name.now (update_faults (sets_view c.args.sets.now) (filter_view c.args.filter.now)) c.args.empty (update_acts c.args.session.now (sets_view c.args.sets.now) (filter_view c.args.filter.now)) c.in-Some.table.now c.in-Some-2.refusal (record { rules = c.requires.rules; some = ap (named c.args.image.now) (sym c.as_bytes.ensures) ∙ sym c.in-Some.ensures; on = c.if-not-table.false }) (sym c.in_ok-refusal.ensures.exact ∙ c.in-Some-2.is))

pub returns-in_default-space-clause-does : goal.returns-in_default-space-clause-does
returns-in_default-space-clause-does c = λ xs among.
    told c.args.image.now xs c.args.moment c.answered-in_default-space.result [] Stay not_built (update c.args.session.now c.args.name.now (sets_view c.args.sets.now) (filter_view c.args.filter.now) c.args.empty) c.answered-in_default-space.ensures.edits (ap seating_view c.answered-in_default-space.ensures.seating)
    (ap answer_view c.answered-in_default-space.ensures.answer ∙ c.not_built.ensures)
    (does_homeless c.args.image.now xs c.args.moment c.args.session.now not_built (update c.args.session.now c.args.name.now (sets_view c.args.sets.now) (filter_view c.args.filter.now) c.args.empty) among (ap (space_of (parts_of c.args.image.now).spaces) (sym c.space.ensures) ∙ sym c.in_default-space.ensures))

pub returns-in_default-stand-clause-does : goal.returns-in_default-stand-clause-does
returns-in_default-stand-clause-does c = λ xs among.
    told c.args.image.now xs c.args.moment c.answered-in_default-stand.result [] Stay not_latest (update c.args.session.now c.args.name.now (sets_view c.args.sets.now) (filter_view c.args.filter.now) c.args.empty) c.answered-in_default-stand.ensures.edits (ap seating_view c.answered-in_default-stand.ensures.seating)
    (ap answer_view c.answered-in_default-stand.ensures.answer ∙ c.not_latest.ensures)
    (newest_away c.args.image.now xs c.args.moment c.args.session.now c.args.name.now (update_faults (sets_view c.args.sets.now) (filter_view c.args.filter.now)) c.args.empty (update_acts c.args.session.now (sets_view c.args.sets.now) (filter_view c.args.filter.now)) c.in-Some.table.now c.in-Some-space.space.now c.stand.result c.in_default-stand.not-Latest (record { ready = (record { rules = c.requires.rules; some = ap (named c.args.image.now) (sym c.as_bytes.ensures) ∙ sym c.in-Some.ensures; on = c.if-not-table.false }); good = sym c.in_ok-refusal.ensures.exact ∙ c.in_default-2.is }) (ap (space_of (parts_of c.args.image.now).spaces) (sym c.space.ensures) ∙ sym c.in-Some-space.ensures) c.stand.ensures)

pub returns-then-empty-clause-does : goal.returns-then-empty-clause-does
returns-then-empty-clause-does c = λ xs among.
    told c.args.image.now xs c.args.moment c.answered-then-empty.result [] Stay empty_period (update c.args.session.now c.args.name.now (sets_view c.args.sets.now) (filter_view c.args.filter.now) c.args.empty) c.answered-then-empty.ensures.edits (ap seating_view c.answered-then-empty.ensures.seating)
    (ap answer_view c.answered-then-empty.ensures.answer ∙ c.empty_period.ensures)
    (newest_empty c.args.image.now xs c.args.moment c.args.session.now c.args.name.now (update_faults (sets_view c.args.sets.now) (filter_view c.args.filter.now)) c.args.empty (update_acts c.args.session.now (sets_view c.args.sets.now) (filter_view c.args.filter.now)) c.in-Some.table.now c.in-Some-space.space.now (record { good = (record { ready = (record { rules = c.requires.rules; some = ap (named c.args.image.now) (sym c.as_bytes.ensures) ∙ sym c.in-Some.ensures; on = c.if-not-table.false }); good = sym c.in_ok-refusal.ensures.exact ∙ c.in_default-2.is }); found = (ap (space_of (parts_of c.args.image.now).spaces) (sym c.space.ensures) ∙ sym c.in-Some-space.ensures); at = sym c.in-Latest.ensures }) c.if-empty.true)

pub chosen_rows-requires-clause-there : goal.chosen_rows-requires-clause-there
chosen_rows-requires-clause-there c = (named_is c.args.image.now c.args.name.now c.in-Some.table.now c.requires.rules (ap (named c.args.image.now) (sym c.as_bytes.ensures) ∙ sym c.in-Some.ensures)).there

pub chosen_rows-requires-clause-typed : goal.chosen_rows-requires-clause-typed
chosen_rows-requires-clause-typed c = where_typed (filter_view c.args.filter.now) (own_columns c.in-Some.table.now) (c.in_ok-refusal.ensures.typed c.in_default-2.is)

pub update_rows-requires-clause-site : goal.update_rows-requires-clause-site
update_rows-requires-clause-site c = record {
  rules = c.requires.rules;
  moment = c.requires.moment;
  there = (named_is c.args.image.now c.args.name.now c.in-Some.table.now c.requires.rules (ap (named c.args.image.now) (sym c.as_bytes.ensures) ∙ sym c.in-Some.ensures)).there;
  on = c.if-not-table.false;
  home = ap (space_of (parts_of c.args.image.now).spaces) (sym c.space.ensures) ∙ sym c.in-Some-space.ensures;
}

pub update_rows-requires-clause-keyed : goal.update_rows-requires-clause-keyed
update_rows-requires-clause-keyed c =
    ap (are_keyed c.in-Some.table.now) c.as_slice.ensures.value
    ∙ chosen_keyed c.args.image.now c.latest-version.result c.in-Some.table.now c.within-within.result (filter_view c.args.filter.now) c.in_ok-rows.rows.items c.requires.rules (named_is c.args.image.now c.args.name.now c.in-Some.table.now c.requires.rules (ap (named c.args.image.now) (sym c.as_bytes.ensures) ∙ sym c.in-Some.ensures)).there c.in_ok-rows.ensures

pub update_rows-requires-clause-full : goal.update_rows-requires-clause-full
update_rows-requires-clause-full c =
    rows_are_full c.args.image.now c.args.moment c.args.session.now c.in-Some-space.space.now (filter_view c.args.filter.now) c.in-Some.table.now c.within-within.result c.latest-version.result c.as_slice.result.now c.in_ok-rows.rows.items
    (c.latest-version.ensures ∙ ap (latest (parts_of c.args.image.now)) c.space-3.ensures) c.in_ok-rows.ensures c.as_slice.ensures.value

pub update_rows-requires-clause-overlap : goal.update_rows-requires-clause-overlap
update_rows-requires-clause-overlap c =
    ap (all_overlap c.in-Some.table.now c.within-within.result) c.as_slice.ensures.value
    ∙ chosen_overlap c.args.image.now c.latest-version.result c.in-Some.table.now c.within-within.result (filter_view c.args.filter.now) c.in_ok-rows.rows.items c.requires.rules (named_is c.args.image.now c.args.name.now c.in-Some.table.now c.requires.rules (ap (named c.args.image.now) (sym c.as_bytes.ensures) ∙ sym c.in-Some.ensures)).there
    (λ plain. c.within-within.ensures ∙ plain_within c.args.moment c.args.session.now c.in-Some.table.now plain) c.in_ok-rows.ensures

pub returns-clause-does : goal.returns-clause-does
returns-clause-does c =
    does_change c.args.image.now c.args.moment c.update_rows.result c.args.session.now c.args.name.now (update_faults (sets_view c.args.sets.now) (filter_view c.args.filter.now)) c.args.empty (update_acts c.args.session.now (sets_view c.args.sets.now) (filter_view c.args.filter.now)) c.in-Some.table.now c.in-Some-space.space.now
    (record { good = (record { ready = (record { rules = c.requires.rules; some = ap (named c.args.image.now) (sym c.as_bytes.ensures) ∙ sym c.in-Some.ensures; on = c.if-not-table.false }); good = sym c.in_ok-refusal.ensures.exact ∙ c.in_default-2.is }); found = (ap (space_of (parts_of c.args.image.now).spaces) (sym c.space.ensures) ∙ sym c.in-Some-space.ensures); at = sym c.in-Latest.ensures }) c.if-empty.false
    (does_rows c.args.image.now c.args.moment c.update_rows.result c.args.session.now c.in-Some-space.space.now (filter_view c.args.filter.now) (updates c.args.session.now (sets_view c.args.sets.now)) c.in-Some.table.now c.within-within.result c.latest-version.result c.as_slice.result.now c.in_ok-rows.rows.items
    c.within-within.ensures (c.latest-version.ensures ∙ ap (latest (parts_of c.args.image.now)) c.space-3.ensures) c.in_ok-rows.ensures c.as_slice.ensures.value c.update_rows.ensures.does)

pub update_rows-requires-clause-update : goal.update_rows-requires-clause-update
update_rows-requires-clause-update c =
    let is = (named_is c.args.image.now c.args.name.now c.in-Some.table.now c.requires.rules (ap (named c.args.image.now) (sym c.as_bytes.ensures) ∙ sym c.in-Some.ensures)) in
    record { filter = filter_view c.args.filter.now; fine = sym c.in_ok-refusal.ensures.exact ∙ c.in_default-2.is; well = is.well; keyed = ready_keyed c.in-Some.table.now is.well c.if-not-table.false; lasting = c.requires.lasting c.if-empty.false }
