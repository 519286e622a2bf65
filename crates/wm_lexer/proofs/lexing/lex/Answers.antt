use Rattle.wm_lexer.proofs.Line.{lex_starts, lex_step, lex_done}
use Rattle.wm_lexer.proofs.lexing.lex.Goals as goal

pub tokens-init : goal.tokens-init
tokens-init c = rw (c.new-tokens.ensures, c.skipped-rest.ensures.value) (lex_starts c.args.line.now)

pub tokens-preserved : goal.tokens-preserved
tokens-preserved c =
    lex_step c.args.line.now c.tokens.tokens c.tokens.rest.now c.in-Some.b.now c.in-Some.more.now c.token_here-kind.result c.push.new.self c.skipped_behind-rest.result.now c.tokens.invariant c.in-Some.ensures.cases.0
    c.token_here-kind.ensures.value c.in_ok-push.ensures.ok c.skipped_behind-rest.ensures.value

pub returns : goal.returns
returns c = lex_done c.args.line.now c.tokens.tokens c.tokens.rest.now c.tokens.invariant c.in_default.ensures.cases
