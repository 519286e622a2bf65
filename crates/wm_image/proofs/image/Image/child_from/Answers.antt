use Rattle.std.proofs.Common.{ℕ, List, ap, ◌∙◌}
use Rattle.wm_graph.specs.Parts.{parts_of, as_space}
use Rattle.wm_image.proofs.Least.{least_told}
use Rattle.wm_image.proofs.Spaced.{spaces_told}
use Rattle.wm_index.specs.Indexed.{listed}
use Rattle.wm_index.specs.Kinds.{kind_at}
use Rattle.wm_image.specs.Shown.{is_child_from, least}
use Rattle.wm_spec.specs.declared.record.stored.Stored.{Stored}
use Rattle.wm_image.proofs.image.Image.child_from.Goals as goal

pub returns : goal.returns
returns c =
    c.least_child.ensures
    ∙ ap (λ (ids : List ℕ). least (is_child_from c.args.parent c.args.place c.args.log_length) (kind_at as_space (listed c.self.inside.kept.entries) ids)) c.as_slice.ensures.value
    ∙ ap (least (is_child_from c.args.parent c.args.place c.args.log_length)) (spaces_told c.self.inside.kept c.self.inside.index c.self.invariant.0)
    ∙ ap (λ (ss : List Stored). least (is_child_from c.args.parent c.args.place c.args.log_length) (parts_of ss).spaces) c.self.view_is
    ∙ least_told (parts_of c.args.self.now) c.requires (is_child_from c.args.parent c.args.place c.args.log_length)
