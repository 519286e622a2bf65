use Rattle.std.proofs.Common.{length}
use Rattle.wm_grammar.specs.Statements.{also, all_also}
use Rattle.wm_grammar.specs.StatementReaders.{column_option_at, option_sorts, column_options_at}
use Rattle.wm_grammar.proofs.Loops.{Going}
use Rattle.wm_statements.proofs.statements.column_options.Given as goal

abbrev pub invariant-options : goal.invariant-options
invariant-options l =
    Going also (λ given. option_sorts given.0 given.1) (λ given. column_option_at given.0 given.1) all_also l.given l.given l.cursor (column_options_at l.fn.keyed l.fn.cursor)

abbrev pub decreases-options : goal.decreases-options
decreases-options l = length l.cursor
