use Rattle.std.proofs.Common.{◌≡◌, true, false, [], ◌∷◌, Some, sym, ap, subst, ◌∙◌}
use Rattle.std.proofs.lemmas.Option.{same_Some}
use Rattle.wm_graph.specs.Parts.{parts_of}
use Rattle.wm_graph.specs.Rules.{has_key}
use Rattle.wm_spec.specs.Records.{record_at}
use Rattle.wm_spec.specs.declared.record.counters.Counters.{Counters}
use Rattle.wm_spec.specs.declared.record.table.Table.{Table}
use Rattle.wm_state.proofs.Drafted.{drafts_enabled}
use Rattle.wm_state.specs.Batches.{create_batch}
use Rattle.wm_state.specs.Drafts.{DraftsBy}
use Rattle.wm_state.specs.Points.{moved}
use Rattle.wm_state.specs.Standing.{by_number}
use Rattle.wm_state.specs.State.{table_named}
use Rattle.wm_state.specs.declared.edit.Edit.TheVariants as edits
use Rattle.wm_changes.proofs.Placed.{counters_at, looked_up, table_at}
use Rattle.wm_lifecycle.proofs.tables.enable.Goals as goal

-- the table is that of the name
named : (c : goal.In_ok-changes) → table_named c.args.name.now (by_number (parts_of c.args.image.now).tables) ≡ Some c.unwrap-table.result.now
named c =
    ap (λ n. table_named n (by_number (parts_of c.args.image.now).tables)) (sym c.as_bytes.ensures)
    ∙ looked_up c.table.result c.unwrap-table.result (table_named c.as_bytes.result.now (by_number (parts_of c.args.image.now).tables)) c.unwrap-table.ensures c.table.ensures

same : (c : goal.In_ok-changes) → c.unwrap-table.result.now ≡ c.requires.can.table
same c = same_Some c.unwrap-table.result.now c.requires.can.table (sym (named c) ∙ c.requires.can.named)

off : (c : goal.In_ok-changes) → c.unwrap-table.result.now.versioned ≡ false
off c = ap (λ (t : Table). t.versioned) (same c) ∙ c.requires.can.off

keyed : (c : goal.In_ok-changes) → has_key c.unwrap-table.result.now ≡ true
keyed c = ap (λ (t : Table). has_key t) (same c) ∙ c.requires.can.key

pub returns : goal.returns
returns c =
    subst (DraftsBy c.args.work c.args.image.now c.args.moment (edits.Enable c.args.name.now c.args.valid c.args.history ∷ []))
    (sym
    (c.in_ok-changes.ensures
    ∙ ap (λ (k : Counters). create_batch c.id_of_counters.result k c.unwrap-id.result c.in_ok-ready.ready) c.moved-counters.ensures
    ∙ ap (create_batch c.id_of_counters.result (moved c.counters.result c.args.moment c.args.work) c.unwrap-id.result) c.in_ok-ready.ensures))
    (drafts_enabled c.args.image.now c.args.moment c.args.work c.args.name.now c.args.valid c.args.history c.unwrap-table.result.now c.counters.result c.id_of_counters.result c.unwrap-id.result c.requires.rules c.requires.work (named c) (off c) (keyed c)
    c.counters.ensures
    (counters_at c.counters.result (parts_of c.args.image.now).counters (record_at c.args.image.now c.id_of_counters.result) c.counters.ensures c.id_of_counters.ensures.there)
    (table_at c.args.image.now c.id_of_table.result c.unwrap-id.result c.unwrap-table.result.now c.unwrap-id.ensures
    (c.id_of_table.ensures.there ∙ ap (λ n. table_named n (by_number (parts_of c.args.image.now).tables)) c.as_bytes-2.ensures ∙ named c))
    c.id_of_counters.ensures.ascend)
