use Rattle.std.proofs.Common.{ap}
use Rattle.wm_graph.specs.Parts.{parts_of}
use Rattle.wm_views.proofs.Querying.{are_family}
use Rattle.wm_views.specs.Looking.{family_view, look_view}
use Rattle.wm_views.proofs.listing.conflicts_shown.Goals as goal

pub conflict_view-requires-clause-family : goal.conflict_view-requires-clause-family
conflict_view-requires-clause-family c =
    are_family (parts_of c.args.image.now) c.args.look.now.moment c.args.look.now.session.now (look_view (parts_of c.args.image.now) c.args.look.now) (c.in-Some.family.space.now, c.in-Some.family.parent.now) c.requires.rules c.requires.look (ap family_view c.in-Some.is)
