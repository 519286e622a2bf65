use Rattle.std.proofs.Common.{rules}
use Rattle.wm_syntax.specs.declared.statement.CreateItem.TheVariants as items
use Rattle.wm_grammar.specs.StatementReaders.{key_columns_at}
use Rattle.wm_statements.proofs.statements.key_columns.Goals as goal

pub returns-in_err-columns : goal.returns-in_err-columns
unfolding key_columns_at
returns-in_err-columns c = let told = c.in_err-columns.ensures (items.Primary c.args.constraint) in search rules

pub returns : goal.returns
unfolding key_columns_at
returns c = let told = c.in_ok-columns.ensures (items.Primary c.args.constraint) in search rules
