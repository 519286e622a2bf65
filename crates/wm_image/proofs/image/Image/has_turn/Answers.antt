use Rattle.std.proofs.Common.{ℕ, List, eqb, length, not, ap, ◌∙◌}
use Rattle.wm_image.proofs.Turned.{turn_told}
use Rattle.wm_image.proofs.image.Image.has_turn.Goals as goal

pub returns : goal.returns
returns c =
    ap not (c.is_empty.ensures ∙ ap (λ (ids : List ℕ). eqb (length ids) 0) c.ids_of.ensures)
    ∙ turn_told c.self.inside.kept c.self.inside.index c.self.invariant.0 c.args.self.now c.self.view_is c.args.space c.args.number
