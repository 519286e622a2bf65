use Rattle.wm_graph.specs.Parts.{parts_of}
use Rattle.wm_version_rows.proofs.Gathering.{lists_key}
use Rattle.wm_version_rows.proofs.listing.list_key.Goals as goal

pub returns : goal.returns
returns c =
    lists_key (parts_of c.args.image.now) c.args.asked.now.version c.args.asked.now.table c.args.asked.now.valid c.args.asked.now.within c.args.key.now c.new-rows.result c.push_key.new.rows c.new-rows.ensures
    (c.in_ok-push_key.ensures c.args.key.now c.versions_of-versions.ensures.held)
