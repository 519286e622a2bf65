use Rattle.std.proofs.Common.{List, ◌++◌, map, ap, ◌∙◌}
use Rattle.wm_base.specs.Period.{Span}
use Rattle.wm_graph.specs.Parts.{parts_of}
use Rattle.wm_period.specs.declared.piece.Piece.{Piece}
use Rattle.wm_state.specs.Listing.{span_on}
use Rattle.wm_version_rows.proofs.Gathering.{are_rows}
use Rattle.wm_version_rows.specs.Standing.{stretches_on}
use Rattle.wm_version_rows.proofs.overlap.spans_of_key.Goals as goal

pub returns : goal.returns
returns c = record {
  stretches = stretches_on c.in_ok-pieces.pieces;
  are = are_rows (parts_of c.args.image.now) c.args.version c.args.table c.args.key.now c.in_ok-pieces.pieces c.requires c.list.ensures.in_order c.in_ok-pieces.ensures;
  same =
      c.in_ok-push_spans.ensures ∙ ap (λ (ps : List Span). ps ++ map span_on (stretches_on c.list.result.now)) c.new-spans.ensures.items
      ∙ ap (λ (ps : List Piece). map span_on (stretches_on ps)) c.list.ensures.value;
}
