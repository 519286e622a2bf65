use Rattle.std.proofs.Common.{◌≡◌, ℕ, List, length, vec_len, ap, ◌∙◌, arith}
use Rattle.std.specs.declared.alloc.Global.{Global}
use Rattle.std.specs.declared.vec.Vec.{Vec}
use Rattle.wm_graph.specs.Parts.{parts_of}
use Rattle.wm_image.proofs.Spaced.{spaces_counted}
use Rattle.wm_spec.specs.declared.record.stored.Stored.{Stored}
use Rattle.wm_image.proofs.image.Image.space_count.Goals as goal

counted : (v : Vec ℕ Global) → vec_len v ≡ length v.items
counted v = omega arith

pub returns : goal.returns
returns c =
    c.len.ensures ∙ counted c.self.inside.index.all_spaces ∙ spaces_counted c.self.inside.kept c.self.inside.index c.self.invariant.0 ∙ ap (λ (ss : List Stored). length (parts_of ss).spaces) c.self.view_is
