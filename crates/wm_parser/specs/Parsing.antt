-- What the parser says of a whole line.
use Rattle.std.specs.Prelude.{◌≡◌, ◌⊎◌, ℕ, List, Option, Some, None, Result, Ok, Err}
use Rattle.wm_syntax.specs.declared.line.Line.{Line as LineNode}
use Rattle.wm_syntax.specs.Trees.{Line}
use Rattle.wm_grammar.specs.Scanned.{symbols_of}
use Rattle.wm_grammar.specs.Faults.{Fault}
use Rattle.wm_grammar.specs.Statements.{line}
use Rattle.wm_grammar.specs.Literals.{bad_literal}
use Rattle.wm_grammar.specs.Parsed.{column_of}
use Rattle.wm_parser.specs.declared.fault.ParseFault.{ParseFault}
use Rattle.wm_parser.specs.declared.fault.ParseFault.TheVariants as faults

-- the tree, or the fault of the first literal out of range
abbrev pub judged : List ℕ → LineNode → Option ℕ → Result LineNode ParseFault
judged line tree None = Ok tree
judged line tree (Some left) = Err (faults.Literal (column_of line left))

-- the line is one of the grammar, and this is its tree
abbrev pub IsLine : List ℕ → Line → Type 0
IsLine text tree = (line 64).Whole (symbols_of text) tree

-- at this column is the first symbol that no form continues
abbrev pub IsSyntax : List ℕ → ℕ → Type 0
IsSyntax text column = (left : ℕ) × Fault (line 64) (symbols_of text) left × (column ≡ column_of text left)

-- the line is one of the grammar, and at this column is its first literal out of range
abbrev pub IsLiteral : List ℕ → ℕ → Type 0
IsLiteral text column = (tree : Line) × (left : ℕ) × IsLine text tree × (bad_literal text ≡ Some left) × (column ≡ column_of text left)

abbrev pub IsFault : List ℕ → ParseFault → Type 0
IsFault text (faults.Syntax column) = IsSyntax text column
IsFault text (faults.Literal column) = IsLiteral text column
IsFault text faults.Memory = Unit {0}

-- the answer is this fault, unless memory ran out
abbrev pub Refuses : {X : Type 0} → Result X ParseFault → ParseFault → Type 0
Refuses (Ok x) fault = ⊥
Refuses (Err e) fault = (e ≡ fault) ⊎ (e ≡ faults.Memory)
