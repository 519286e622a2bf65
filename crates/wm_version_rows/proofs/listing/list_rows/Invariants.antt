use Rattle.wm_graph.specs.Parts.{parts_of}
use Rattle.wm_version_rows.proofs.Gathering.{GatheredTo}
use Rattle.wm_state.specs.Standing.{seen}
use Rattle.wm_version_rows.proofs.listing.list_rows.Given as goal

abbrev pub invariant-loop-versions : goal.invariant-loop-versions
invariant-loop-versions l = GatheredTo (parts_of l.image) (seen (parts_of l.image) l.asked.version) l.asked.table l.asked.valid l.asked.within l.initial.versions-iterator l.versions-iterator l.rows
