-- Symbols that are left at the end.
use Rattle.std.proofs.Common.{◌≡◌, ℕ, true, false, List, [], ◌∷◌, refl, sym, ap, subst, ◌∙◌, inl, Option, Some, None, Result, Ok, Err}
use Rattle.std.proofs.lemmas.Option.{same_Some}
use Rattle.std.specs.Prelude.{MatchResult, IfOk, IfErr}
use Rattle.wm_syntax.specs.declared.line.Line.{Line as LineNode}
use Rattle.wm_syntax.specs.Views.{line_view}
use Rattle.wm_syntax.specs.Trees.{Line}
use Rattle.wm_grammar.specs.Symbols.{Symbol, left_of}
use Rattle.wm_grammar.specs.Scanned.{symbols_of}
use Rattle.wm_grammar.specs.Faults.{Fault, ended, all_of}
use Rattle.wm_grammar.specs.Statements.{line}
use Rattle.wm_grammar.specs.StatementReaders.{line_at}
use Rattle.wm_grammar.proofs.Whole.{all_exact, all_complete, fault_not_whole}
use Rattle.wm_grammar.proofs.StatementLaws.{line_exact}
use Rattle.wm_grammar.specs.Next.{no_more}
use Rattle.wm_parser.proofs.Unique.{one_fault}
use Rattle.wm_grammar.specs.Literals.{bad_literal}
use Rattle.wm_parser.specs.declared.fault.ParseFault.{ParseFault}
use Rattle.wm_grammar.specs.Parsed.{column_of}
use Rattle.wm_parser.specs.Parsing.{judged, IsLine, IsSyntax, IsLiteral, IsFault, Refuses}
use Rattle.wm_parser.specs.declared.fault.ParseFault.TheVariants as faults

-- no literal
abbrev pub none : Option ℕ
none = None

pub ended_all : {A : Type 0} (x : A) (ts : List Symbol) → no_more ts ≡ true → ended x ts ≡ Ok x
ended_all x [] e = refl
ended_all x (t ∷ ts) e = absurd cc

pub ended_more : {A : Type 0} (x : A) (ts : List Symbol) → no_more ts ≡ false → ended x ts ≡ Err (left_of ts)
ended_more x [] e = absurd cc
ended_more x (t ∷ ts) e = refl

-- what is read of all the symbols is a line
pub line_found : (text : List ℕ) (tree : Line) → all_of (line_at 64 (symbols_of text)) ≡ Ok tree → (line 64).Whole (symbols_of text) tree
line_found text tree e = subst (λ (o : Result Line ℕ). MatchResult o (λ y. (line 64).Whole (symbols_of text) y) (λ n. Fault (line 64) (symbols_of text) n)) e (all_exact (line_exact 64) (symbols_of text))

-- and a fault is the first symbol that no form continues
pub line_bad : (text : List ℕ) (left : ℕ) → all_of (line_at 64 (symbols_of text)) ≡ Err left → Fault (line 64) (symbols_of text) left
line_bad text left e = subst (λ (o : Result Line ℕ). MatchResult o (λ y. (line 64).Whole (symbols_of text) y) (λ n. Fault (line 64) (symbols_of text) n)) e (all_exact (line_exact 64) (symbols_of text))

pub line_complete : (text : List ℕ) (tree : Line) → (line 64).Whole (symbols_of text) tree → all_of (line_at 64 (symbols_of text)) ≡ Ok tree
line_complete text tree w = all_complete (line_exact 64) (symbols_of text) tree w

-- the tree of a line is the one that is read
pub one_tree : (text : List ℕ) (read tree : Line) → all_of (line_at 64 (symbols_of text)) ≡ Ok read → (line 64).Whole (symbols_of text) tree → read ≡ tree
one_tree text read tree e w = let k : all_of (line_at 64 (symbols_of text)) ≡ Ok tree = line_complete text tree w in cc

-- where a fault is read, there is none
pub no_tree : (text : List ℕ) (left : ℕ) (tree : Line) → all_of (line_at 64 (symbols_of text)) ≡ Err left → (line 64).Whole (symbols_of text) tree → ⊥
no_tree text left tree e w = let k : all_of (line_at 64 (symbols_of text)) ≡ Ok tree = line_complete text tree w in cc

pub syntax_is : (text : List ℕ) (left column : ℕ) → all_of (line_at 64 (symbols_of text)) ≡ Err left → column ≡ column_of text left → IsSyntax text column
syntax_is text left column e c = (left, line_bad text left e, c)

pub literal_is : (text : List ℕ) (tree : Line) (left column : ℕ) → all_of (line_at 64 (symbols_of text)) ≡ Ok tree → Some left ≡ bad_literal text → column ≡ column_of text left → IsLiteral text column
literal_is text tree left column e b c = (tree, left, line_found text tree e, sym b, c)

pub found_is : (text : List ℕ) (tree : Line) → all_of (line_at 64 (symbols_of text)) ≡ Ok tree → none ≡ bad_literal text → IsLine text tree × (bad_literal text ≡ none)
found_is text tree e b = (line_found text tree e, sym b)

-- a literal out of range is not none
pub some_literal : (text : List ℕ) (left : ℕ) → Some left ≡ bad_literal text → bad_literal text ≡ none → ⊥
some_literal text left b n = let k : Some left ≡ none = b ∙ n in cc

-- a line has one column at which it is refused
pub same_column : (text : List ℕ) (left read column : ℕ) → all_of (line_at 64 (symbols_of text)) ≡ Err left → read ≡ column_of text left → IsSyntax text column → read ≡ column
same_column text left read column e c s = c ∙ ap (λ (n : ℕ). column_of text n) (one_fault (line_exact 64).orderly (symbols_of text) left s.0 (line_bad text left e) s.1) ∙ sym s.2

-- a line of the grammar has no token that no form continues
pub no_syntax : (text : List ℕ) (tree : Line) (column : ℕ) → all_of (line_at 64 (symbols_of text)) ≡ Ok tree → IsSyntax text column → ⊥
no_syntax text tree column e s = fault_not_whole (line_exact 64).orderly (symbols_of text) s.0 tree s.1 (line_found text tree e)

pub no_literal_tree : (text : List ℕ) (left column : ℕ) → all_of (line_at 64 (symbols_of text)) ≡ Err left → IsLiteral text column → ⊥
no_literal_tree text left column e l = no_tree text left l.0 e l.2

pub no_literal : (text : List ℕ) (column : ℕ) → none ≡ bad_literal text → IsLiteral text column → ⊥
no_literal text column b l = some_literal text l.1 (sym l.3) (sym b)

pub same_literal : (text : List ℕ) (left read column : ℕ) → Some left ≡ bad_literal text → read ≡ column_of text left → IsLiteral text column → read ≡ column
same_literal text left read column b c l =
    let same : left ≡ l.1 = same_Some left l.1 (b ∙ l.3) in
    c ∙ ap (λ (n : ℕ). column_of text n) same ∙ sym l.4

pub syntax_same : (read column : ℕ) → read ≡ column → faults.Syntax read ≡ faults.Syntax column
syntax_same read column e = ap (λ (n : ℕ). faults.Syntax n) e

pub literal_same : (read column : ℕ) → read ≡ column → faults.Literal read ≡ faults.Literal column
literal_same read column e = ap (λ (n : ℕ). faults.Literal n) e

-- ---- what is said of a line that is read to the end

abbrev pub Judged : List ℕ → Result LineNode ParseFault → Type 0
Judged text result =
    IfOk result (λ tree. IsLine text (line_view tree) × (bad_literal text ≡ none))
    × ((tree : Line) → IsLine text tree → bad_literal text ≡ none → MatchResult result (λ t. line_view t ≡ tree) (λ e. e ≡ faults.Memory))
    × IfErr result (λ e. IsFault text e)
    × ((column : ℕ) → IsSyntax text column → Refuses result (faults.Syntax column))
    × ((column : ℕ) → IsLiteral text column → Refuses result (faults.Literal column))

judged_of : (text : List ℕ) (tree : LineNode) (bad : Option ℕ) → all_of (line_at 64 (symbols_of text)) ≡ Ok (line_view tree) → bad ≡ bad_literal text → Judged text (judged text tree bad)
judged_of text tree None e b = (
  found_is text (line_view tree) e b,
  λ other w n. one_tree text (line_view tree) other e w,
  tt,
  λ column s. no_syntax text (line_view tree) column e s,
  λ column l. no_literal text column b l,
)
judged_of text tree (Some left) e b = (
  tt,
  λ other w n. absurd (some_literal text left b n),
  literal_is text (line_view tree) left (column_of text left) e b refl,
  λ column s. absurd (no_syntax text (line_view tree) column e s),
  λ column l. inl (literal_same (column_of text left) column (same_literal text left (column_of text left) column b refl l)),
)

pub judged_is : (text : List ℕ) (tree : LineNode) (bad : Option ℕ) (result : Result LineNode ParseFault) → all_of (line_at 64 (symbols_of text)) ≡ Ok (line_view tree) → bad ≡ bad_literal text → result ≡ judged text tree bad → Judged text result
judged_is text tree bad result e b r = subst (λ (x : Result LineNode ParseFault). Judged text x) (sym r) (judged_of text tree bad e b)

pub refused_is : (text : List ℕ) (left column : ℕ) → all_of (line_at 64 (symbols_of text)) ≡ Err left → column ≡ column_of text left → Judged text (Err (faults.Syntax column))
refused_is text left column e c = (
  tt,
  λ tree w n. absurd (no_tree text left tree e w),
  syntax_is text left column e c,
  λ other s. inl (syntax_same column other (same_column text left column other e c s)),
  λ other l. absurd (no_literal_tree text left other e l),
)
