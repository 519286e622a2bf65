use Rattle.std.proofs.Common.{ap, ◌∙◌, List}
use Rattle.wm_rows.proofs.Listing.{own_at-list, in_order-list}
use Rattle.wm_rows.specs.Own.{own_at}
use Rattle.wm_rows.specs.declared.own.OwnPiece.{OwnPiece}
use Rattle.wm_rows.proofs.own.OwnPieces.of_layer.Goals as goal

pub invariant_of-result : goal.invariant_of-result
invariant_of-result c = rw c.in_ok-list.ensures.list (in_order-list c.args.layer.now.entries c.in_ok-list.ensures.rows c.in_ok-list.ensures.in_order)

pub returns : goal.returns
returns c = λ row t. ap (λ (l : List OwnPiece). own_at l row t) c.in_ok-list.ensures.list ∙ own_at-list c.args.layer.now.entries row t c.in_ok-list.ensures.rows
