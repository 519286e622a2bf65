use Rattle.wm_rules.proofs.IndexLemmas.{finds_by, differ_by, has_by}
use Rattle.wm_rules.proofs.indexes.indexes_of.Goals as goal
use Rattle.wm_spec.specs.declared.record.table.Table.{Table}
use Rattle.wm_spec.specs.declared.record.space.Space.{Space}
use Rattle.wm_spec.specs.declared.record.version.Version.{Version}
use Rattle.wm_spec.specs.declared.record.row.RowRecord.{RowRecord}

pub returns : goal.returns
returns c = record {
  tables = finds_by (λ (t : Table). t.number) _ _ _ c.as_slice.ensures.value c.in_ok-tables.ensures.finds;
  spaces = finds_by (λ (s : Space). s.number) _ _ _ c.as_slice-2.ensures.value c.in_ok-spaces.ensures.finds;
  versions = finds_by (λ (v : Version). v.number) _ _ _ c.as_slice-3.ensures.value c.in_ok-versions.ensures.finds;
  rows = finds_by (λ (r : RowRecord). r.stamp) _ _ _ c.as_slice-4.ensures.value c.in_ok-rows.ensures.finds;
  having = has_by _ _ _ c.as_slice-5.ensures.value c.in_ok-having.ensures;
  tables_differ = differ_by (λ (t : Table). t.number) _ _ _ c.as_slice.ensures.value c.in_ok-tables.ensures.differ;
  spaces_differ = differ_by (λ (s : Space). s.number) _ _ _ c.as_slice-2.ensures.value c.in_ok-spaces.ensures.differ;
  versions_differ = differ_by (λ (v : Version). v.number) _ _ _ c.as_slice-3.ensures.value c.in_ok-versions.ensures.differ;
  rows_differ = differ_by (λ (r : RowRecord). r.stamp) _ _ _ c.as_slice-4.ensures.value c.in_ok-rows.ensures.differ;
}
