-- What the indexes of the records tell.
use Rattle.std.specs.Prelude.{◌≡◌, ◌==◌}
use Rattle.std.specs.BTreeSet.{contains}
use Rattle.std.specs.Ordering.{nat_cmp}
use Rattle.wm_cells.specs.Lookups.{found}
use Rattle.wm_graph.specs.Parts.{Parts, table_of, space_of, version_of, row_of, has_version}
use Rattle.wm_graph.specs.Rules.{differ}
use Rattle.wm_rules.specs.declared.indexes.Indexes.{Indexes}
use Rattle.wm_spec.specs.declared.record.table.Table.{Table}
use Rattle.wm_spec.specs.declared.record.space.Space.{Space}
use Rattle.wm_spec.specs.declared.record.version.Version.{Version}
use Rattle.wm_spec.specs.declared.record.row.RowRecord.{RowRecord}

-- they find what the parts have, and know whether numbers differ
pub record IndexesOf (p : Parts) (i : Indexes) : Type 0 where
  pub tables : found i.tables.index.entries ≡ table_of p.tables
  pub spaces : found i.spaces.index.entries ≡ space_of p.spaces
  pub versions : found i.versions.index.entries ≡ version_of p.versions
  pub rows : found i.rows.index.entries ≡ row_of p.rows
  pub having : contains nat_cmp i.having ≡ has_version p.versions
  pub tables_differ : i.tables.differ ≡ differ (λ (t u : Table). t.number == u.number) p.tables
  pub spaces_differ : i.spaces.differ ≡ differ (λ (s t : Space). s.number == t.number) p.spaces
  pub versions_differ : i.versions.differ ≡ differ (λ (v w : Version). v.number == w.number) p.versions
  pub rows_differ : i.rows.differ ≡ differ (λ (r q : RowRecord). r.stamp == q.stamp) p.rows
