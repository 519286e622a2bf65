-- What a line says, or why it says nothing, as a value.
use Rattle.std.specs.Prelude.{ℕ, ◌+◌, ◌-◌, List, length, Option, Some, None, Result, Ok, Err}
use Rattle.wm_syntax.specs.Trees.{Line}
use Rattle.wm_grammar.specs.Scanned.{symbols_of}
use Rattle.wm_grammar.specs.Faults.{all_of}
use Rattle.wm_grammar.specs.StatementReaders.{line_at}
use Rattle.wm_grammar.specs.Literals.{bad_literal}

-- the column, from 1, of a symbol from which so many bytes of the line are left
abbrev pub column_of : List ℕ → ℕ → ℕ
column_of line left = length line - left + 1

-- why a line has no tree, and the column of its fault
pub data Bad : Type 0 where
  Syntax : ℕ → Bad
  Literal : ℕ → Bad

-- the tree, unless a literal is out of range
abbrev pub within_range : List ℕ → Line → Option ℕ → Result Line Bad
within_range text tree None = Ok tree
within_range text tree (Some left) = Err (Literal (column_of text left))

-- what was read of all the symbols, where this literal is out of range
abbrev pub read_line : List ℕ → Result Line ℕ → Option ℕ → Result Line Bad
read_line text (Ok tree) bad = within_range text tree bad
read_line text (Err left) bad = Err (Syntax (column_of text left))

-- the tree of the line, or why it has none
unfoldable pub parsed : List ℕ → Result Line Bad
parsed text = read_line text (all_of (line_at 64 (symbols_of text))) (bad_literal text)
