use Rattle.std.proofs.Common.{◌∷◌, List, ap, sym, ◌∙◌}
use Rattle.std.specs.Option.{option_or}
use Rattle.wm_period.specs.Pieces.{held_at}
use Rattle.wm_period.specs.declared.piece.Piece.{Piece}
use Rattle.wm_rows.proofs.Laying.{laying_more}
use Rattle.wm_rows.specs.declared.row_key.RowKey.{RowKey}
use Rattle.wm_rows.proofs.layer.lay_under.Goals as goal

pub loop-row-preserved : goal.loop-row-preserved
loop-row-preserved c =
    laying_more c.loop-row.upper.entries c.insert.new.self.entries c.args.upper.now.entries c.args.lower.now.entries c.loop-row.row-iterator c.next.new.self c.in_ok-row.row c.in-Some.pieces.now c.in_ok-both.both
    c.loop-row.invariant
    (c.in-Some.ensures.steps ∙ ap (λ (r : RowKey). (r, c.in-Some.pieces.now) ∷ c.next.new.self) (sym c.in_ok-row.ensures))
    c.in_ok-insert.ensures.updates.0
    (λ t. c.in_ok-both.ensures.cells t ∙ ap (λ (l : List Piece). option_or (held_at l t) (held_at c.in-Some.pieces.now t)) c.in_ok-above.ensures)
