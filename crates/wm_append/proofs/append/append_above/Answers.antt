use Rattle.std.proofs.Common.{◌+◌, map, refl}
use Rattle.wm_graph.specs.Parts.{parts_of}
use Rattle.wm_state.specs.Editing.{entry_of}
use Rattle.wm_append.proofs.Appended.{appends_own, drafts_above}
use Rattle.wm_changes.proofs.Placed.{version_fits}
use Rattle.wm_append.proofs.append.append_above.Goals as goal

pub stepped_new_by-counters-requires-clause-versions : goal.stepped_new_by-counters-requires-clause-versions
stepped_new_by-counters-requires-clause-versions c = version_fits (parts_of c.args.image.now) c.counters-old.result c.requires.rules c.counters-old.ensures

pub returns-clause-drafts : goal.returns-clause-drafts
returns-clause-drafts c =
    drafts_above c.args.image.now c.args.moment c.args.work c.requires.can.table.number c.in_ok-id.id (c.in_ok-id.id + 1) c.latest.result c.len-count.result c.args.entries c.args.space.now c.in_ok-longer.longer c.counters-old.result
    c.stepped_new_by-counters.result c.in_ok-front.front c.in_ok-made.made.dropped.items c.in_ok-made.made.news.items c.in_ok-changes.changes c.requires.rules c.requires.work
    (appends_own (parts_of c.args.image.now) c.args.space.now c.counters-old.result (map entry_of c.args.entries) c.requires.there c.requires.can c.counters-old.ensures) c.in_ok-id.ensures.above c.requires.used
    refl c.latest.ensures c.len-count.ensures c.stepped_new_by-counters.ensures c.in_ok-longer.ensures c.in_ok-front.ensures c.in_ok-made.ensures c.in_ok-changes.ensures
