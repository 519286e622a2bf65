-- That an answer of the parser is what the line says.
use Rattle.std.specs.Prelude.{◌≡◌, Result, Ok, Err}
use Rattle.wm_syntax.specs.declared.line.Line.{Line as LineNode}
use Rattle.wm_syntax.specs.Trees.{Line}
use Rattle.wm_syntax.specs.Views.{line_view}
use Rattle.wm_parser.specs.declared.fault.ParseFault.{ParseFault}
use Rattle.wm_parser.specs.declared.fault.ParseFault.TheVariants as faults
use Rattle.wm_grammar.specs.Parsed.{Bad, Syntax, Literal}

abbrev pub GivesFault : ParseFault → Result Line Bad → Type 0
GivesFault (faults.Syntax column) answer = answer ≡ Err (Syntax column)
GivesFault (faults.Literal column) answer = answer ≡ Err (Literal column)
GivesFault faults.Memory answer = Unit {0}

-- what is returned is that answer, unless memory ran out
abbrev pub Gives : Result LineNode ParseFault → Result Line Bad → Type 0
Gives (Ok tree) answer = answer ≡ Ok (line_view tree)
Gives (Err fault) answer = GivesFault fault answer
