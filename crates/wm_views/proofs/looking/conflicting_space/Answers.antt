use Rattle.std.proofs.Common.{Some, None}
use Rattle.wm_graph.specs.Parts.{parts_of}
use Rattle.wm_views.proofs.Querying.{looked_up}
use Rattle.wm_views.proofs.looking.conflicting_space.Goals as goal

pub returns-in-Some-space_named : goal.returns-in-Some-space_named
returns-in-Some-space_named c =
    looked_up (parts_of c.args.image.now).spaces c.args.session.now.conflict c.in-Some.name.now c.as_bytes.result.now c.args.home.now (Some c.in-Some-space_named.space.now) c.in-Some.ensures c.as_bytes.ensures c.in-Some-space_named.ensures

pub returns-in-None-space_named : goal.returns-in-None-space_named
returns-in-None-space_named c =
    looked_up (parts_of c.args.image.now).spaces c.args.session.now.conflict c.in-Some.name.now c.as_bytes.result.now c.args.home.now None c.in-Some.ensures c.as_bytes.ensures c.in-None-space_named.ensures
