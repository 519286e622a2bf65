use Rattle.wm_cells.proofs.Pairing.{Pairing}
use Rattle.wm_graph.specs.Rules.{fits_column}
use Rattle.wm_cells.proofs.columns.fit_columns.Given as goal

abbrev pub invariant-loop-column : goal.invariant-loop-column
invariant-loop-column l = Pairing fits_column l.columns l.values l.column-iterator.a.rest.now l.column-iterator.b.rest.now
