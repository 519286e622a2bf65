-- What reads the ends of lines, and those that begin with CONNECT, DISCONNECT or AT.
use Rattle.std.specs.Prelude.{Bool, true, false, [], ◌∷◌, Option, Some, None}
use Rattle.wm_syntax.specs.Trees.{Line}
use Rattle.wm_syntax.specs.Trees as trees
use Rattle.wm_grammar.specs.Sorts as sorts
use Rattle.wm_grammar.specs.Reading.{Reader, gives_at, mark_at, ◌>>=◌, choose_at, optional_at}
use Rattle.wm_grammar.specs.OperandReaders.{id_at, word_at, instant_at}
use Rattle.wm_grammar.specs.StatementReaders.{run_at}

-- [";"]
abbrev pub semicolon_at : Reader (Option (Unit {0}))
semicolon_at = optional_at (sorts.SEMICOLON ∷ []) (mark_at sorts.SEMICOLON)

abbrev pub some_if : Bool → Option (Unit {0})
some_if true = Some tt
some_if false = None

-- the names of a session and a user
abbrev pub names_at : Reader Line
names_at = do s ← id_at; u ← id_at; gives_at (trees.Connect s u)

abbrev pub connect_at : Reader Line
connect_at = do w ← word_at sorts.CONNECT; choose_at (sorts.COLON ∷ []) (run_at 64 w) names_at

abbrev pub disconnect_at : Reader Line
disconnect_at = do w ← word_at sorts.DISCONNECT; choose_at (sorts.COLON ∷ []) (run_at 64 w) (do s ← id_at; gives_at (trees.Disconnect s))

abbrev pub moment_at : Reader Line
moment_at = do w ← word_at sorts.AT; choose_at (sorts.COLON ∷ []) (run_at 64 w) (do t ← instant_at; gives_at (trees.At t))

abbrev pub session_at : Reader Line
session_at = do s ← id_at; run_at 64 s
