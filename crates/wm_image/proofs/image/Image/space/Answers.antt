use Rattle.std.proofs.Common.{List, ap, ◌∙◌}
use Rattle.std.specs.Option.{option_and_then}
use Rattle.wm_graph.specs.Parts.{parts_of, as_space, space_of}
use Rattle.wm_index.proofs.Finding.{space_found}
use Rattle.wm_index.specs.Indexed.{listed}
use Rattle.wm_index.specs.Sought.{first_of}
use Rattle.wm_spec.specs.declared.record.stored.Stored.{Stored}
use Rattle.wm_image.proofs.image.Image.space.Goals as goal

pub returns : goal.returns
returns c =
    c.space_of.ensures
    ∙ ap (option_and_then as_space) (c.first.ensures ∙ ap (first_of (listed c.self.inside.kept.entries)) c.ids_of.ensures)
    ∙ space_found c.self.inside.kept c.self.inside.index c.self.invariant.0 c.args.number
    ∙ ap (λ (ss : List Stored). space_of (parts_of ss).spaces c.args.number) c.self.view_is
