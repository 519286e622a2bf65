use Rattle.std.proofs.Common.{ℕ, List, eqb, length, ap, ◌∙◌}
use Rattle.wm_index.proofs.Leaves.{leaf_told}
use Rattle.wm_image.proofs.image.Image.is_leaf.Goals as goal

pub returns : goal.returns
returns c =
    c.is_empty.ensures
    ∙ ap (λ (ids : List ℕ). eqb (length ids) 0) c.ids_of.ensures
    ∙ leaf_told c.self.inside.kept c.self.inside.index c.self.invariant.0 c.args.self.now c.self.view_is c.args.version
