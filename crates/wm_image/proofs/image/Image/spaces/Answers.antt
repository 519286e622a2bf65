use Rattle.std.proofs.Common.{List, sym, ap, ◌∙◌}
use Rattle.wm_graph.specs.Parts.{parts_of, as_space}
use Rattle.wm_image.proofs.Spaced.{spaces_told}
use Rattle.wm_index.specs.Indexed.{listed}
use Rattle.wm_index.specs.Kinds.{kind_at}
use Rattle.wm_spec.specs.declared.record.stored.Stored.{Stored}
use Rattle.wm_image.proofs.image.Image.spaces.Goals as goal

pub returns : goal.returns
returns c =
    ap (λ (ss : List Stored). kind_at as_space ss c.as_slice.result.now) (sym c.self.view_is)
    ∙ ap (kind_at as_space (listed c.self.inside.kept.entries)) c.as_slice.ensures.value
    ∙ spaces_told c.self.inside.kept c.self.inside.index c.self.invariant.0
    ∙ ap (λ (ss : List Stored). (parts_of ss).spaces) c.self.view_is
