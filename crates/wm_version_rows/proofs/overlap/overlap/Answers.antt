use Rattle.std.proofs.Common.{List, ap, ◌∙◌}
use Rattle.wm_graph.specs.Parts.{parts_of}
use Rattle.wm_period.specs.declared.piece.Piece.{Piece}
use Rattle.wm_state.specs.Listing.{first_shared}
use Rattle.wm_version_rows.proofs.Gathering.{are_rows}
use Rattle.wm_version_rows.specs.Standing.{stretches_on}
use Rattle.wm_version_rows.proofs.overlap.overlap.Goals as goal

pub returns : goal.returns
returns c = record {
  stretches = stretches_on c.in_ok-pieces.pieces;
  are = are_rows (parts_of c.args.image.now) c.args.version c.args.table c.args.key.now c.in_ok-pieces.pieces c.requires c.list.ensures.in_order c.in_ok-pieces.ensures;
  first = c.first_shared-found.ensures ∙ ap (λ (ps : List Piece). first_shared c.args.period.now (stretches_on ps)) c.list.ensures.value;
}
