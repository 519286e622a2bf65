-- The answer to a line is the one that its symbols and its literals give.
use Rattle.std.proofs.Common.{◌≡◌, ℕ, List, refl, sym, ap, subst, ◌∙◌, Option, Some, None, Result, Ok, Err}
use Rattle.wm_syntax.specs.declared.line.Line.{Line as LineNode}
use Rattle.wm_syntax.specs.Views.{line_view}
use Rattle.wm_syntax.specs.Trees.{Line}
use Rattle.wm_grammar.specs.Scanned.{symbols_of}
use Rattle.wm_grammar.specs.Faults.{all_of}
use Rattle.wm_grammar.specs.StatementReaders.{line_at}
use Rattle.wm_grammar.specs.Literals.{bad_literal}
use Rattle.wm_parser.specs.declared.fault.ParseFault.{ParseFault}
use Rattle.wm_parser.specs.Parsing.{judged}
use Rattle.wm_grammar.specs.Parsed.{column_of, Bad, within_range, read_line, parsed}
use Rattle.wm_grammar.specs.Parsed as bads
use Rattle.wm_parser.specs.Parsed.{Gives}

parsed_of : (text : List ℕ) (read : Result Line ℕ) (bad : Option ℕ) → all_of (line_at 64 (symbols_of text)) ≡ read → bad ≡ bad_literal text → parsed text ≡ read_line text read bad
unfolding parsed
parsed_of text read bad e b = ap (λ (r : Result Line ℕ). read_line text r (bad_literal text)) e ∙ ap (λ (o : Option ℕ). read_line text read o) (sym b)

judged_gives : (text : List ℕ) (tree : LineNode) (bad : Option ℕ) → Gives (judged text tree bad) (within_range text (line_view tree) bad)
judged_gives text tree None = refl
judged_gives text tree (Some left) = refl

pub answered : (text : List ℕ) (tree : LineNode) (bad : Option ℕ) (result : Result LineNode ParseFault) → all_of (line_at 64 (symbols_of text)) ≡ Ok (line_view tree) → bad ≡ bad_literal text → result ≡ judged text tree bad → Gives result (parsed text)
answered text tree bad result e b r =
    let there : Gives (judged text tree bad) (parsed text) = subst (λ (a : Result Line Bad). Gives (judged text tree bad) a) (sym (parsed_of text (Ok (line_view tree)) bad e b)) (judged_gives text tree bad) in
    subst (λ (x : Result LineNode ParseFault). Gives x (parsed text)) (sym r) there

pub refused : (text : List ℕ) (left column : ℕ) → all_of (line_at 64 (symbols_of text)) ≡ Err left → column ≡ column_of text left → parsed text ≡ Err (bads.Syntax column)
refused text left column e c = parsed_of text (Err left) (bad_literal text) e refl ∙ ap (λ (n : ℕ). Err (bads.Syntax n)) (sym c)
