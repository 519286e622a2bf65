use Rattle.std.proofs.Common.{ℕ, List, ap, ◌∙◌}
use Rattle.std.specs.List.{find}
use Rattle.std.specs.Str.{bytes_eq}
use Rattle.wm_graph.specs.Parts.{parts_of, as_space}
use Rattle.wm_image.proofs.Spaced.{spaces_told}
use Rattle.wm_index.specs.Indexed.{listed}
use Rattle.wm_index.specs.Kinds.{kind_at}
use Rattle.wm_spec.specs.declared.record.space.Space.{Space}
use Rattle.wm_spec.specs.declared.record.stored.Stored.{Stored}
use Rattle.wm_image.proofs.image.Image.space_named.Goals as goal

pub returns : goal.returns
returns c =
    c.space_of_name.ensures
    ∙ ap (λ (ids : List ℕ). find (λ (r : Space). bytes_eq c.args.name.now r.name) (kind_at as_space (listed c.self.inside.kept.entries) ids)) c.as_slice.ensures.value
    ∙ ap (find (λ (r : Space). bytes_eq c.args.name.now r.name)) (spaces_told c.self.inside.kept c.self.inside.index c.self.invariant.0)
    ∙ ap (λ (ss : List Stored). find (λ (r : Space). bytes_eq c.args.name.now r.name) (parts_of ss).spaces) c.self.view_is
