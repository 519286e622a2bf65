use Rattle.std.proofs.Common.{◌≡◌, [], ◌∷◌, Some, sym, subst, ◌∙◌}
use Rattle.wm_gained.proofs.DraftedKept.{drafts_keep}
use Rattle.wm_graph.specs.Parts.{parts_of, space_of}
use Rattle.wm_state.specs.Drafts.{DraftsBy}
use Rattle.wm_state.specs.declared.edit.Edit.TheVariants as edits
use Rattle.wm_lifecycle.proofs.Born.{keeping_is}
use Rattle.wm_changes.proofs.Placed.{looked_up, places_of}
use Rattle.wm_lifecycle.specs.Points.{point_view}
use Rattle.wm_lifecycle.proofs.Priced.{keep_costs}
use Rattle.wm_lifecycle.proofs.saves.keep.Goals as goal

-- the workspace is that of the number
found : (c : goal.In_ok-changes) → space_of (parts_of c.args.image.now).spaces c.args.space ≡ Some c.unwrap-old.result.now
found c = looked_up c.space.result c.unwrap-old.result (space_of (parts_of c.args.image.now).spaces c.args.space) c.unwrap-old.ensures c.space.ensures

pub returns-clause-drafts : goal.returns-clause-drafts
returns-clause-drafts c =
    subst (DraftsBy c.args.work c.args.image.now c.args.moment (edits.Keep c.args.space ∷ []))
    (sym
    (c.in_ok-changes.ensures
    ∙ keeping_is c.args.image.now c.unwrap-old.result.now c.counters.result c.args.moment c.args.work c.in_ok-name.name c.id_of_counters-counters_id.result c.unwrap-space_id.result c.in_ok-id.id (point_view c.newest_point-point.result)
    c.moved-counters.result c.in_ok-new.new c.made_at-savepoint.result c.moved-counters.ensures c.in_ok-new.ensures c.made_at-savepoint.ensures c.in_ok-name.ensures c.newest_point-point.ensures))
    (drafts_keep c.args.image.now c.args.moment c.args.work c.args.space c.unwrap-old.result.now c.counters.result c.id_of_counters-counters_id.result c.unwrap-space_id.result c.in_ok-id.id c.requires.rules c.requires.work c.requires.can (found c)
    (places_of c.args.image.now c.args.space c.id_of_counters-counters_id.result c.id_of_space.result c.unwrap-space_id.result c.in_ok-id.id c.counters.result c.unwrap-old.result.now c.id_of_counters-counters_id.ensures.ascend
    c.counters.ensures c.id_of_counters-counters_id.ensures.there c.unwrap-space_id.ensures c.id_of_space.ensures.there (found c) c.in_ok-id.ensures.above))

pub returns-clause-costs : goal.returns-clause-costs
returns-clause-costs c =
    let at =
    places_of c.args.image.now c.args.space c.id_of_counters-counters_id.result c.id_of_space.result c.unwrap-space_id.result c.in_ok-id.id c.counters.result c.unwrap-old.result.now c.id_of_counters-counters_id.ensures.ascend
    c.counters.ensures c.id_of_counters-counters_id.ensures.there c.unwrap-space_id.ensures c.id_of_space.ensures.there (found c) c.in_ok-id.ensures.above in
    keep_costs c.args.image.now c.args.space c.id_of_counters-counters_id.result c.unwrap-space_id.result c.in_ok-id.id c.counters.result c.moved-counters.result c.unwrap-old.result.now c.in_ok-new.new c.made_at-savepoint.result
    c.in_ok-changes.changes (found c) at c.in_ok-changes.ensures
