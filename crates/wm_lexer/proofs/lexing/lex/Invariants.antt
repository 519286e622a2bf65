use Rattle.std.proofs.Common.{length}
use Rattle.wm_lexer.proofs.Line.{Lexes}
use Rattle.wm_lexer.proofs.lexing.lex.Given as goal

abbrev pub invariant-tokens : goal.invariant-tokens
invariant-tokens l = Lexes l.line l.tokens l.rest

abbrev pub decreases-tokens : goal.decreases-tokens
decreases-tokens l = length l.rest
