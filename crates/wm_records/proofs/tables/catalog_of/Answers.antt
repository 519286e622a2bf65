use Rattle.std.proofs.Common.{◌≡◌, ℕ, List, ap, ◌∙◌}
use Rattle.wm_catalog.specs.Catalog.{same_name}
use Rattle.wm_graph.specs.Parts.{parts_of, as_table}
use Rattle.wm_graph.specs.Rules.{differ}
use Rattle.wm_records.proofs.Cataloguing.{differ_sorted}
use Rattle.wm_records.proofs.Cataloguing.{tables_told}
use Rattle.wm_index.specs.Indexed.{listed}
use Rattle.wm_index.specs.Kinds.{kind_at}
use Rattle.wm_spec.specs.declared.record.table.Table.{Table}
use Rattle.wm_state.specs.Standing.{by_number}
use Rattle.wm_records.proofs.tables.catalog_of.Goals as goal

pub returns : goal.returns
returns c = λ differs.
    let ss = listed c.args.kept.now.entries in
    let are : c.in_ok-tables-2.tables.items ≡ by_number (parts_of ss).tables =
    c.in_ok-tables-2.ensures
    ∙ ap by_number (c.in_ok-tables.ensures ∙ ap (λ (ids : List ℕ). kind_at as_table ss ids) c.as_slice.ensures.value ∙ tables_told c.args.kept.now c.args.index.now c.requires) in
    c.in_ok-catalog.ensures (ap (λ (ts : List Table). differ same_name ts) are ∙ differ_sorted (parts_of ss).tables differs) ∙ are
