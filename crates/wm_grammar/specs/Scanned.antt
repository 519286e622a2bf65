-- The symbols of a line.
use Rattle.std.specs.Prelude.{ℕ, zero, suc, ◌-◌, List, [], ◌∷◌, length, take, drop}
use Rattle.wm_lexer.specs.Scanning.{skipped, token_from}
use Rattle.wm_lexer.specs.declared.token.Token.{Token}
use Rattle.wm_grammar.specs.Symbols.{Symbol}
use Rattle.wm_grammar.specs.Words.{sort_of}

-- the bytes of the token that begins with b and goes on with bs
abbrev pub word_from : ℕ → List ℕ → List ℕ
word_from b bs = take (token_from b bs).1 (b ∷ bs)

abbrev pub symbol_from : ℕ → List ℕ → Symbol
symbol_from b bs = record { sort = sort_of (token_from b bs).0 (word_from b bs); text = word_from b bs; left = length (b ∷ bs) }

-- the symbols of bytes that begin with no blank; there are no more of them than bytes
unfoldable pub scan : ℕ → List ℕ → List Symbol
scan zero bytes = []
scan (suc n) [] = []
scan (suc n) (b ∷ bs) = symbol_from b bs ∷ scan n (skipped (drop (token_from b bs).1 (b ∷ bs)))

unfoldable pub scanned : List ℕ → List Symbol
scanned bytes = scan (length bytes) bytes

-- the symbols of a line
abbrev pub symbols_of : List ℕ → List Symbol
symbols_of line = scanned (skipped line)

-- the symbol of a token of the line
abbrev pub symbol_of : List ℕ → Token → Symbol
symbol_of line t =
    let word = take (t.till - t.from) (drop t.from line) in
    record { sort = sort_of t.kind word; text = word; left = length line - t.from }
