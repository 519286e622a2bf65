use Rattle.std.proofs.Common.{sym, ap, ◌∙◌}
use Rattle.wm_graph.specs.Parts.{parts_of}
use Rattle.wm_views.proofs.Narrowing.{day_seen, version_seen}
use Rattle.wm_views.specs.Looking.{look_view, reading_view}
use Rattle.wm_views.proofs.listing.rows_shown.Goals as goal

pub returns-in-Version : goal.returns-in-Version
returns-in-Version c =
    version_seen (parts_of c.args.image.now) (look_view (parts_of c.args.image.now) c.args.look.now) c.args.table.now c.args.key c.in-Version.version c.within-within.result c.version_shown.result (ap reading_view (sym c.in-Version.is) ∙ c.reading_of.ensures) c.within-within.ensures c.version_shown.ensures

pub returns-in-Day : goal.returns-in-Day
returns-in-Day c =
    day_seen (parts_of c.args.image.now) (look_view (parts_of c.args.image.now) c.args.look.now) c.args.table.now c.args.key c.in-Day.date c.within-within.result c.dated_showing.result (ap reading_view (sym c.in-Day.is) ∙ c.reading_of.ensures) c.within-within.ensures c.requires.narrow
    c.dated_showing.ensures
