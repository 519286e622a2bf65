use Rattle.std.proofs.Common.{◌≡◌, [], ◌∷◌, Some, sym, ap, subst, ◌∙◌}
use Rattle.std.specs.Option.{option_map}
use Rattle.wm_graph.specs.Parts.{parts_of, space_of}
use Rattle.wm_forked.proofs.DraftedBorn.{drafts_born}
use Rattle.wm_state.specs.Drafts.{DraftsBy}
use Rattle.wm_state.specs.Editing.{stand_of}
use Rattle.wm_state.specs.Points.{point_at}
use Rattle.wm_state.specs.declared.edit.Edit.TheVariants as edits
use Rattle.wm_lifecycle.proofs.Born.{bearing_is}
use Rattle.wm_changes.proofs.Placed.{looked_up, places_of, version_fits}
use Rattle.wm_lifecycle.specs.Points.{point_view}
use Rattle.wm_lifecycle.proofs.births.bear.Goals as goal

pub versioned-counted-requires-clause-versions : goal.versioned-counted-requires-clause-versions
versioned-counted-requires-clause-versions c = version_fits (parts_of c.args.image.now) c.counters-counters.result c.requires.rules c.counters-counters.ensures

-- the workspace is that of the number
found : (c : goal.In_ok-changes) → space_of (parts_of c.args.image.now).spaces c.args.parent ≡ Some c.unwrap-space.result.now
found c = looked_up c.space.result c.unwrap-space.result (space_of (parts_of c.args.image.now).spaces c.args.parent) c.unwrap-space.ensures c.space.ensures

-- the point is where one stands
stands : (c : goal.In_ok-changes) → point_at (parts_of c.args.image.now) c.unwrap-space.result.now c.args.moment (stand_of c.args.at) ≡ Some (point_view c.unwrap-point.result)
stands c = sym c.point_at.ensures ∙ ap (option_map point_view) c.unwrap-point.ensures

pub returns-clause-drafts : goal.returns-clause-drafts
returns-clause-drafts c =
    subst (DraftsBy c.args.work c.args.image.now c.args.moment (edits.Bear c.args.parent c.args.at c.args.name ∷ []))
    (sym
    (bearing_is c.args.image.now c.unwrap-space.result.now c.counters-counters.result c.args.moment c.args.work c.args.name c.in_ok-implicit.implicit (stand_of c.args.at) (point_view c.unwrap-point.result) c.next_place_at.result
    c.id_of_counters-counters_id.result c.unwrap-space_id.result c.in_ok-id.id c.versioned-counted.result c.in_ok-new.new c.born_at-born.result.child c.born_at-born.result.version c.born_at-born.result.turn c.made_at-savepoint.result c.in_ok-saved.saved
    c.in_ok-changes.changes c.versioned-counted.ensures c.in_ok-new.ensures c.next_place_at.ensures c.made_at-savepoint.ensures c.in_ok-implicit.ensures
    c.born_at-born.ensures.child c.born_at-born.ensures.version c.born_at-born.ensures.turn c.in_ok-saved.ensures c.in_ok-changes.ensures))
    (drafts_born c.args.image.now c.args.moment c.args.work c.args.parent c.args.at c.args.name c.unwrap-space.result.now (point_view c.unwrap-point.result) c.counters-counters.result c.id_of_counters-counters_id.result c.unwrap-space_id.result
    c.in_ok-id.id c.requires.rules c.requires.work c.requires.can (found c) (stands c)
    (places_of c.args.image.now c.args.parent c.id_of_counters-counters_id.result c.id_of_space.result c.unwrap-space_id.result c.in_ok-id.id c.counters-counters.result c.unwrap-space.result.now
    c.id_of_counters-counters_id.ensures.ascend c.counters-counters.ensures c.id_of_counters-counters_id.ensures.there c.unwrap-space_id.ensures c.id_of_space.ensures.there (found c) c.in_ok-id.ensures.above))
