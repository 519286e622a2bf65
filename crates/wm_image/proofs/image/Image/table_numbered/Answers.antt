use Rattle.std.proofs.Common.{ℕ, ◌==◌, List, ap, ◌∙◌}
use Rattle.std.specs.List.{find}
use Rattle.wm_graph.specs.Parts.{as_table, parts_of, table_of}
use Rattle.wm_records.proofs.Cataloguing.{tables_told}
use Rattle.wm_index.specs.Indexed.{listed}
use Rattle.wm_index.specs.Kinds.{kind_at}
use Rattle.wm_spec.specs.declared.record.stored.Stored.{Stored}
use Rattle.wm_spec.specs.declared.record.table.Table.{Table}
use Rattle.wm_image.proofs.image.Image.table_numbered.Goals as goal

pub returns : goal.returns
returns c =
    c.table_of_number.ensures
    ∙ ap (λ (ids : List ℕ). find (λ (t : Table). t.number == c.args.number) (kind_at as_table (listed c.self.inside.kept.entries) ids)) c.as_slice.ensures.value
    ∙ ap (find (λ (t : Table). t.number == c.args.number)) (tables_told c.self.inside.kept c.self.inside.index c.self.invariant.0)
    ∙ ap (λ (ss : List Stored). table_of (parts_of ss).tables c.args.number) c.self.view_is
