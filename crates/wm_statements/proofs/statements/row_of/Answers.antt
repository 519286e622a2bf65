use Rattle.std.proofs.Common.{rules}
use Rattle.wm_syntax.specs.Trees as trees
use Rattle.wm_statements.proofs.statements.row_of.Goals as goal

pub returns-in_err-values : goal.returns-in_err-values
returns-in_err-values c = let told = c.in_err-values.ensures (trees.Insert c.args.table c.in_ok-names.names) in search rules

pub returns : goal.returns
returns c = let told = c.in_ok-values.ensures (trees.Insert c.args.table c.in_ok-names.names) in search rules
