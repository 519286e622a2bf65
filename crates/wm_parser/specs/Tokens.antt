-- What the grammar sees of a line.
use Rattle.std.specs.Prelude.{◌≡◌, ℕ, List, map}
use Rattle.wm_lexer.specs.declared.token.Token.{Token}
use Rattle.wm_lexer.specs.Tokens.{AreTokens}
use Rattle.wm_grammar.specs.Symbols.{Symbol}
use Rattle.wm_grammar.specs.Scanned.{symbol_of}

-- the symbols are those of the line's tokens, each of which is the longest that begins at its place
abbrev pub AreOfTokens : List ℕ → List Symbol → Type 0
AreOfTokens line symbols = (tokens : List Token) × AreTokens 0 line tokens × (symbols ≡ map (symbol_of line) tokens)
