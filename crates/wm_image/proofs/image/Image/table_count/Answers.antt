use Rattle.std.proofs.Common.{◌≡◌, ℕ, List, length, vec_len, ap, ◌∙◌, arith}
use Rattle.std.specs.declared.alloc.Global.{Global}
use Rattle.std.specs.declared.vec.Vec.{Vec}
use Rattle.wm_graph.specs.Parts.{parts_of}
use Rattle.wm_image.proofs.Tabled.{tables_counted}
use Rattle.wm_index.specs.Indexed.{listed}
use Rattle.wm_index.specs.Sought.{Tables}
use Rattle.wm_spec.specs.declared.record.stored.Stored.{Stored}
use Rattle.wm_image.proofs.image.Image.table_count.Goals as goal

counted : (v : Vec ℕ Global) (n : ℕ) → length v.items ≡ n → vec_len v ≡ n
counted v n is = omega (arith, is)

pub returns : goal.returns
unfolding parts_of
returns c =
    c.len.ensures
    ∙ counted c.self.inside.index.tables _ (ap length (c.self.invariant.0.told Tables))
    ∙ tables_counted (listed c.self.inside.kept.entries)
    ∙ ap (λ (ss : List Stored). length (parts_of ss).tables) c.self.view_is
