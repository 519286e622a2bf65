-- The sort of a token.
use Rattle.std.specs.Prelude.{ℕ, ◌==◌, ◌&&◌, if◌then◌else◌, List, [], ◌∷◌, codes}
use Rattle.std.specs.Str.{str_eq_ignore_ascii_case}
use Rattle.wm_lexer.specs.declared.token.TokenKind.{TokenKind}
use Rattle.wm_lexer.specs.declared.token.TokenKind.TheVariants.{Id, Int, Text, Mark, Bad}
use Rattle.wm_grammar.specs.Sorts as sorts

-- the reserved words, whatever their case; every other word is an ID
unfoldable pub word_sort7 : List ℕ → ℕ
word_sort7 w =
    if str_eq_ignore_ascii_case w (codes "AND") then sorts.AND else
    (if str_eq_ignore_ascii_case w (codes "IS") then sorts.IS else
    (if str_eq_ignore_ascii_case w (codes "IN") then sorts.IN else
    (if str_eq_ignore_ascii_case w (codes "BETWEEN") then sorts.BETWEEN else
    (if str_eq_ignore_ascii_case w (codes "EXECUTE") then sorts.EXECUTE else
    (if str_eq_ignore_ascii_case w (codes "EXEC") then sorts.EXEC else
    (if str_eq_ignore_ascii_case w (codes "TRUE") then sorts.TRUE else
    (if str_eq_ignore_ascii_case w (codes "FALSE") then sorts.FALSE else
    sorts.ID)))))))

unfoldable pub word_sort6 : List ℕ → ℕ
word_sort6 w =
    if str_eq_ignore_ascii_case w (codes "WM_VALID") then sorts.WM_VALID else
    (if str_eq_ignore_ascii_case w (codes "SYSDATE") then sorts.SYSDATE else
    (if str_eq_ignore_ascii_case w (codes "DBMS_WM") then sorts.DBMS_WM else
    (if str_eq_ignore_ascii_case w (codes "UNTIL_CHANGED") then sorts.UNTIL_CHANGED else
    (if str_eq_ignore_ascii_case w (codes "TO_DATE") then sorts.TO_DATE else
    (if str_eq_ignore_ascii_case w (codes "WMSYS") then sorts.WMSYS else
    (if str_eq_ignore_ascii_case w (codes "WM_PERIOD") then sorts.WM_PERIOD else
    (if str_eq_ignore_ascii_case w (codes "OR") then sorts.OR else
    word_sort7 w)))))))

unfoldable pub word_sort5 : List ℕ → ℕ
word_sort5 w =
    if str_eq_ignore_ascii_case w (codes "COUNT") then sorts.COUNT else
    (if str_eq_ignore_ascii_case w (codes "SUM") then sorts.SUM else
    (if str_eq_ignore_ascii_case w (codes "MIN") then sorts.MIN else
    (if str_eq_ignore_ascii_case w (codes "MAX") then sorts.MAX else
    (if str_eq_ignore_ascii_case w (codes "ASC") then sorts.ASC else
    (if str_eq_ignore_ascii_case w (codes "DESC") then sorts.DESC else
    (if str_eq_ignore_ascii_case w (codes "VALIDFROM") then sorts.VALIDFROM else
    (if str_eq_ignore_ascii_case w (codes "VALIDTILL") then sorts.VALIDTILL else
    word_sort6 w)))))))

unfoldable pub word_sort4 : List ℕ → ℕ
word_sort4 w =
    if str_eq_ignore_ascii_case w (codes "DISTINCT") then sorts.DISTINCT else
    (if str_eq_ignore_ascii_case w (codes "INNER") then sorts.INNER else
    (if str_eq_ignore_ascii_case w (codes "JOIN") then sorts.JOIN else
    (if str_eq_ignore_ascii_case w (codes "ON") then sorts.ON else
    (if str_eq_ignore_ascii_case w (codes "GROUP") then sorts.GROUP else
    (if str_eq_ignore_ascii_case w (codes "BY") then sorts.BY else
    (if str_eq_ignore_ascii_case w (codes "ORDER") then sorts.ORDER else
    (if str_eq_ignore_ascii_case w (codes "AS") then sorts.AS else
    word_sort5 w)))))))

unfoldable pub word_sort3 : List ℕ → ℕ
word_sort3 w =
    if str_eq_ignore_ascii_case w (codes "INTO") then sorts.INTO else
    (if str_eq_ignore_ascii_case w (codes "VALUES") then sorts.VALUES else
    (if str_eq_ignore_ascii_case w (codes "UPDATE") then sorts.UPDATE else
    (if str_eq_ignore_ascii_case w (codes "SET") then sorts.SET else
    (if str_eq_ignore_ascii_case w (codes "WHERE") then sorts.WHERE else
    (if str_eq_ignore_ascii_case w (codes "DELETE") then sorts.DELETE else
    (if str_eq_ignore_ascii_case w (codes "FROM") then sorts.FROM else
    (if str_eq_ignore_ascii_case w (codes "SELECT") then sorts.SELECT else
    word_sort4 w)))))))

unfoldable pub word_sort2 : List ℕ → ℕ
word_sort2 w =
    if str_eq_ignore_ascii_case w (codes "NULL") then sorts.NULL else
    (if str_eq_ignore_ascii_case w (codes "CONSTRAINT") then sorts.CONSTRAINT else
    (if str_eq_ignore_ascii_case w (codes "NUMBER") then sorts.NUMBER else
    (if str_eq_ignore_ascii_case w (codes "INTEGER") then sorts.INTEGER else
    (if str_eq_ignore_ascii_case w (codes "VARCHAR2") then sorts.VARCHAR2 else
    (if str_eq_ignore_ascii_case w (codes "DATE") then sorts.DATE else
    (if str_eq_ignore_ascii_case w (codes "TIMESTAMP") then sorts.TIMESTAMP else
    (if str_eq_ignore_ascii_case w (codes "INSERT") then sorts.INSERT else
    word_sort3 w)))))))

unfoldable pub word_sort : List ℕ → ℕ
word_sort w =
    if str_eq_ignore_ascii_case w (codes "CONNECT") then sorts.CONNECT else
    (if str_eq_ignore_ascii_case w (codes "DISCONNECT") then sorts.DISCONNECT else
    (if str_eq_ignore_ascii_case w (codes "AT") then sorts.AT else
    (if str_eq_ignore_ascii_case w (codes "CREATE") then sorts.CREATE else
    (if str_eq_ignore_ascii_case w (codes "TABLE") then sorts.TABLE else
    (if str_eq_ignore_ascii_case w (codes "PRIMARY") then sorts.PRIMARY else
    (if str_eq_ignore_ascii_case w (codes "KEY") then sorts.KEY else
    (if str_eq_ignore_ascii_case w (codes "NOT") then sorts.NOT else
    word_sort2 w)))))))

-- the marks of one byte
unfoldable pub single_sort : ℕ → ℕ
single_sort b =
    if b == 40 then sorts.OPEN else (if b == 41 then sorts.CLOSE else (if b == 44 then sorts.COMMA else (if b == 46 then sorts.DOT else (if b == 58 then sorts.COLON else (if b == 59 then sorts.SEMICOLON else (if b == 42 then sorts.STAR else (if b == 43 then sorts.PLUS else (if b == 45 then sorts.MINUS else (if b == 61 then sorts.EQ else (if b == 60 then sorts.LT else (if b == 62 then sorts.GT else sorts.BAD)))))))))))

-- the marks of two bytes
unfoldable pub pair_sort : ℕ → ℕ → ℕ
pair_sort b c =
    if (b == 60) && (c == 62) then sorts.NOT_EQ else (if (b == 33) && (c == 61) then sorts.BANG_EQ else (if (b == 60) && (c == 61) then sorts.LE else (if (b == 62) && (c == 61) then sorts.GE else (if (b == 61) && (c == 62) then sorts.ARROW else sorts.BAD))))

abbrev pub mark_sort : List ℕ → ℕ
mark_sort [] = sorts.BAD
mark_sort (b ∷ []) = single_sort b
mark_sort (b ∷ c ∷ w) = pair_sort b c

abbrev pub sort_of : TokenKind → List ℕ → ℕ
sort_of Id w = word_sort w
sort_of Int w = sorts.INT
sort_of Text w = sorts.TEXT
sort_of Mark w = mark_sort w
sort_of Bad w = sorts.BAD
