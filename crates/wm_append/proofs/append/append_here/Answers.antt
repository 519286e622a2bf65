use Rattle.std.proofs.Common.{map}
use Rattle.wm_graph.specs.Parts.{parts_of}
use Rattle.wm_state.specs.Editing.{entry_of}
use Rattle.wm_append.proofs.Appended.{appends_own, drafts_here}
use Rattle.wm_append.proofs.append.append_here.Goals as goal

pub returns-clause-drafts : goal.returns-clause-drafts
returns-clause-drafts c =
    drafts_here c.args.image.now c.args.moment c.args.work c.requires.can.table.number c.latest-version.result c.in_ok-id.id c.len-count.result c.args.entries c.args.space.now c.in_ok-longer.longer c.counters.result c.stepped_by-counters.result c.new-front.result
    c.in_ok-made.made.dropped.items c.in_ok-made.made.news.items c.in_ok-changes.changes c.requires.rules c.requires.work
    (appends_own (parts_of c.args.image.now) c.args.space.now c.counters.result (map entry_of c.args.entries) c.requires.there c.requires.can c.counters.ensures) c.in_ok-id.ensures.above c.requires.leaf c.requires.free
    c.latest-version.ensures c.len-count.ensures c.stepped_by-counters.ensures c.in_ok-longer.ensures c.new-front.ensures c.in_ok-made.ensures c.in_ok-changes.ensures
