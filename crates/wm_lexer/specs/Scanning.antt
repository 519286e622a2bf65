-- Which token stands at the front of the bytes, as functions.
use Rattle.std.specs.Prelude.{ℕ, ◌+◌, ◌-◌, Bool, false, not, ◌||◌, ◌==◌, if◌then◌else◌, List, [], ◌∷◌, length, take_while, Option, Some, None, codes}
use Rattle.std.specs.Char.{is_ascii_alphabetic, is_ascii_alphanumeric, is_ascii_digit}
use Rattle.wm_lexer.specs.declared.token.TokenKind.{TokenKind}
use Rattle.wm_lexer.specs.declared.token.TokenKind.TheVariants.{Id, Int, Text, Mark, Bad}

-- a space or a tab
abbrev pub is_blank : ℕ → Bool
is_blank b = (b == 32) || (b == 9)

-- a letter, a digit, '_', '$' or '#'
abbrev pub is_word_byte : ℕ → Bool
is_word_byte b = is_ascii_alphanumeric b || (b == 95) || (b == 36) || (b == 35)

abbrev pub has_byte : List ℕ → ℕ → Bool
has_byte [] b = false
has_byte (x ∷ xs) b = (b == x) || has_byte xs b

-- one of the marks of one byte that begin no longer mark
abbrev pub is_single : ℕ → Bool
is_single b = has_byte (codes "(),.:;*+-") b

abbrev pub next_is : ℕ → List ℕ → Bool
next_is b [] = false
next_is b (c ∷ cs) = c == b

-- how many bytes the longest mark has that begins with b and goes on with bs; 0 where none does
abbrev pub mark_len : ℕ → List ℕ → ℕ
mark_len b bs =
    if is_single b then 1 else
    (if b == 61 then (if next_is 62 bs then 2 else 1) else
    (if b == 60 then (if next_is 62 bs || next_is 61 bs then 2 else 1) else
    (if b == 62 then (if next_is 61 bs then 2 else 1) else
    (if b == 33 then (if next_is 61 bs then 2 else 0) else 0))))

abbrev pub plus : ℕ → Option ℕ → Option ℕ
plus n None = None
plus n (Some m) = Some (n + m)

-- how many bytes go on to the end of a text, the byte before them being a quote that may end it, or not
abbrev pub text_rest : Bool → List ℕ → Option ℕ
text_rest quote [] = if quote then Some 0 else None
text_rest quote (b ∷ bs) = if b == 39 then plus 1 (text_rest (not quote) bs) else (if quote then Some 0 else plus 1 (text_rest false bs))

-- how many bytes behind its first quote a text has, its last quote too, where it has a last one
abbrev pub text_len : List ℕ → Option ℕ
text_len bs = text_rest false bs

abbrev pub quoted : Option ℕ → ℕ → TokenKind × ℕ
quoted (Some n) len = (Text, n + 1)
quoted None len = (Bad, len + 1)

abbrev pub marked : ℕ → TokenKind × ℕ
marked n = if n == 0 then (Bad, 1) else (Mark, n)

-- the token that begins with b and goes on with bs, and how many bytes it has
unfoldable pub token_from : ℕ → List ℕ → TokenKind × ℕ
token_from b bs =
    if is_ascii_alphabetic b then (Id, length (take_while is_word_byte bs) + 1) else
    (if is_ascii_digit b then (Int, length (take_while is_ascii_digit bs) + 1) else
    (if b == 39 then quoted (text_len bs) (length bs) else marked (mark_len b bs)))

-- the bytes from the first on that is no blank
abbrev pub skipped : List ℕ → List ℕ
skipped [] = []
skipped (b ∷ bs) = if is_blank b then skipped bs else b ∷ bs
