use Rattle.std.proofs.Common.{◌<◌, ◌^◌, ℕ, sym, subst, ◌∙◌}
use Rattle.std.specs.Option.{option_copied}
use Rattle.wm_graph.specs.Parts.{parts_of}
use Rattle.wm_image.proofs.Locked.{lock_fits, making_is}
use Rattle.wm_image.proofs.image.Image.lock_making.Goals as goal

pub making_after-requires : goal.making_after-requires
making_after-requires c =
    subst (λ (n : ℕ). n < 2 ^ 64)
    (sym (making_is c.self.inside.kept c.self.inside.index c.self.invariant.0 c.args.self.now c.self.view_is (option_copied c.last_key.result) c.last_key.ensures.ordered c.last_key.ensures.last))
    (lock_fits (parts_of c.args.self.now) c.requires)

pub returns : goal.returns
returns c =
    c.making_after.ensures
    ∙ making_is c.self.inside.kept c.self.inside.index c.self.invariant.0 c.args.self.now c.self.view_is (option_copied c.last_key.result) c.last_key.ensures.ordered c.last_key.ensures.last
