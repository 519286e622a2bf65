-- What the tokens of a line are.
use Rattle.std.specs.Prelude.{◌≡◌, ◌≢◌, ℕ, ◌+◌, ◌≤◌, ◌⊎◌, Bool, true, false, ◌&&◌, List, [], ◌∷◌, ◌++◌, length, codes}
use Rattle.std.specs.Char.{is_ascii_alphabetic, is_ascii_digit}
use Rattle.wm_lexer.specs.declared.token.TokenKind.{TokenKind}
use Rattle.wm_lexer.specs.declared.token.TokenKind.TheVariants.{Id, Int, Text, Mark, Bad}
use Rattle.wm_lexer.specs.declared.token.Token.{Token}
use Rattle.wm_lexer.specs.Scanning.{is_blank, is_word_byte}

abbrev pub all_pass : (ℕ → Bool) → List ℕ → Bool
all_pass p [] = true
all_pass p (b ∷ bs) = p b && all_pass p bs

-- a letter, and then letters, digits, '_', '$' and '#'
abbrev pub IsId : List ℕ → Type 0
IsId [] = ⊥
IsId (b ∷ bs) = (is_ascii_alphabetic b ≡ true) × (all_pass is_word_byte bs ≡ true)

-- digits
abbrev pub IsInt : List ℕ → Type 0
IsInt [] = ⊥
IsInt (b ∷ bs) = all_pass is_ascii_digit (b ∷ bs) ≡ true

abbrev pub NoQuote : List ℕ → Type 0
NoQuote [] = Unit {0}
NoQuote (b ∷ bs) = b ≢ 39

-- What stands behind the first quote of a text, read from the left: two quotes are always a quote of it, one ends it.
abbrev pub Quoted : List ℕ → List ℕ → Type 0
Quoted [] rest = ⊥
Quoted (b ∷ []) rest = (b ≡ 39) × NoQuote rest
Quoted (b ∷ c ∷ bs) rest = ((b ≡ 39) × (c ≡ 39) × Quoted bs rest) ⊎ ((b ≢ 39) × Quoted (c ∷ bs) rest)

abbrev pub IsText : List ℕ → List ℕ → Type 0
IsText [] rest = ⊥
IsText (b ∷ bs) rest = (b ≡ 39) × Quoted bs rest

abbrev pub Among : List (List ℕ) → List ℕ → Type 0
Among [] m = ⊥
Among (w ∷ ws) m = (m ≡ w) ⊎ Among ws m

abbrev pub marks : List (List ℕ)
marks = codes "(" ∷ codes ")" ∷ codes "," ∷ codes "." ∷ codes ":" ∷ codes ";" ∷ codes "*" ∷ codes "+" ∷ codes "-" ∷ codes "=" ∷ codes "<>" ∷ codes "!=" ∷ codes "<" ∷ codes "<=" ∷ codes ">" ∷ codes ">=" ∷ codes "=>" ∷ []

-- these bytes, before such a rest, are a token of the kind
abbrev pub IsToken : TokenKind → List ℕ → List ℕ → Type 0
IsToken Id word rest = IsId word
IsToken Int word rest = IsInt word
IsToken Text word rest = IsText word rest
IsToken Mark word rest = Among marks word
IsToken Bad word rest = ⊥

-- a byte that begins no token and is no blank, or, behind a quote, all that follows it
abbrev pub IsBad : List ℕ → List ℕ → Type 0
IsBad [] rest = ⊥
IsBad (b ∷ bs) rest = (is_blank b ≡ false) × (b ≡ 39 → rest ≡ []) × (b ≢ 39 → bs ≡ [])

abbrev pub IsOne : TokenKind → List ℕ → List ℕ → Type 0
IsOne Id word rest = IsId word
IsOne Int word rest = IsInt word
IsOne Text word rest = IsText word rest
IsOne Mark word rest = Among marks word
IsOne Bad word rest = IsBad word rest

-- the word is a token of the kind, and no longer token, of whatever kind, begins there; where the kind is Bad, none begins there at all
pub record IsNext (kind : TokenKind) (word rest : List ℕ) : Type 0 where
  pub is : IsOne kind word rest
  pub longest : (k : TokenKind) (u v : List ℕ) → word ++ rest ≡ u ++ v → IsToken k u v → length u ≤ length word
  pub bad : kind ≡ Bad → (k : TokenKind) (u v : List ℕ) → word ++ rest ≡ u ++ v → IsToken k u v → ⊥

-- the tokens of the bytes from `place` on, which blanks separate, as slices in order
abbrev pub AreTokens : ℕ → List ℕ → List Token → Type 0
AreTokens place bytes [] = all_pass is_blank bytes ≡ true
AreTokens place bytes (t ∷ ts) =
    (blanks : List ℕ) × (word : List ℕ) × (rest : List ℕ) × (bytes ≡ blanks ++ (word ++ rest)) × (all_pass is_blank blanks ≡ true)
    × (t.from ≡ place + length blanks) × (t.till ≡ t.from + length word) × IsNext t.kind word rest × AreTokens t.till rest ts
