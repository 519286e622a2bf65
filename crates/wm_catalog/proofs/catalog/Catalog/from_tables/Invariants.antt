-- those that were gone through are there
use Rattle.std.proofs.Common.{◌≡◌, true, ◌++◌, drop, length}
use Rattle.wm_graph.specs.Rules.{differ}
use Rattle.wm_catalog.specs.Catalog.{same_name}
use Rattle.wm_catalog.proofs.catalog.Catalog.from_tables.Given as goal

abbrev pub invariant-loop-table : goal.invariant-loop-table
invariant-loop-table l = differ same_name l.fn.tables.items ≡ true → l.catalog ++ drop (length l.yielded) l.fn.tables.items ≡ l.fn.tables.items
