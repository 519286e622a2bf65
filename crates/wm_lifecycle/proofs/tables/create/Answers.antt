use Rattle.std.proofs.Common.{[], ◌∷◌, sym, ap, subst, ◌∙◌}
use Rattle.wm_graph.specs.Parts.{parts_of}
use Rattle.wm_spec.specs.Records.{record_at}
use Rattle.wm_spec.specs.declared.record.counters.Counters.{Counters}
use Rattle.wm_state.proofs.Drafted.{drafts_created}
use Rattle.wm_written.proofs.Ids.{under_next}
use Rattle.wm_state.specs.Batches.{create_batch}
use Rattle.wm_state.specs.Drafts.{DraftsBy}
use Rattle.wm_state.specs.declared.edit.Edit.TheVariants as edits
use Rattle.wm_changes.proofs.Placed.{counters_at}
use Rattle.wm_lifecycle.proofs.tables.create.Goals as goal

pub returns-clause-drafts : goal.returns-clause-drafts
returns-clause-drafts c =
    subst (DraftsBy c.args.work c.args.image.now c.args.moment (edits.Create c.args.table ∷ []))
    (sym (c.in_ok-changes.ensures ∙ ap (λ (k : Counters). create_batch c.id_of_counters.result k c.in_ok-id.id c.args.table) c.moved-counters.ensures))
    (drafts_created c.args.image.now c.args.moment c.args.work c.args.table c.counters.result c.id_of_counters.result c.in_ok-id.id c.requires.rules c.requires.work c.requires.can c.counters.ensures
    (counters_at c.counters.result (parts_of c.args.image.now).counters (record_at c.args.image.now c.id_of_counters.result) c.counters.ensures c.id_of_counters.ensures.there) c.id_of_counters.ensures.ascend
    (under_next c.in_ok-id.id c.args.image.now c.in_ok-id.ensures.above))
