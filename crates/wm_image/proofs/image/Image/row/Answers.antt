use Rattle.std.proofs.Common.{List, ap, ◌∙◌}
use Rattle.std.specs.Option.{option_and_then}
use Rattle.wm_graph.specs.Parts.{parts_of, as_row, row_of}
use Rattle.wm_index.proofs.Finding.{row_found}
use Rattle.wm_index.specs.Indexed.{listed}
use Rattle.wm_index.specs.Sought.{first_of}
use Rattle.wm_spec.specs.declared.record.stored.Stored.{Stored}
use Rattle.wm_image.proofs.image.Image.row.Goals as goal

pub returns : goal.returns
returns c =
    c.row_of.ensures
    ∙ ap (option_and_then as_row) (c.first.ensures ∙ ap (first_of (listed c.self.inside.kept.entries)) c.ids_of_stamp.ensures)
    ∙ row_found c.self.inside.kept c.self.inside.index c.self.invariant.0 c.args.stamp
    ∙ ap (λ (ss : List Stored). row_of (parts_of ss).rows c.args.stamp) c.self.view_is
