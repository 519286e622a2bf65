-- A semicolon is passed, or none is there.
use Rattle.std.proofs.Common.{◌≡◌, ℕ, Bool, true, false, cond, List, [], ◌∷◌, sym, ap, ◌∙◌, Option, Some, None, Result, Ok, Err}
use Rattle.std.proofs.Math.Bool.{or-false}
use Rattle.std.specs.Prelude.{◌==◌}
use Rattle.wm_grammar.specs.Symbols.{Symbol, next_in}
use Rattle.wm_grammar.specs.Sorts as sorts
use Rattle.wm_grammar.specs.Reading.{mark_at, bind}
use Rattle.wm_grammar.specs.Next.{behind}
use Rattle.wm_parser.specs.Lines.{semicolon_at}

abbrev pub Read : Type 0
Read = Result (Option (Unit {0}) × List Symbol) ℕ

abbrev pub mark_read : Symbol → List Symbol → Bool → Result (Unit {0} × List Symbol) ℕ
mark_read t ts z = cond z (Ok (tt, ts)) (Err t.left)

marked : (ts : List Symbol) → next_in (sorts.SEMICOLON ∷ []) ts ≡ true → mark_at sorts.SEMICOLON ts ≡ Ok (tt, behind ts)
marked [] e = absurd cc
marked (t ∷ ts) e = ap (mark_read t ts) (sym (or-false (t.sort == sorts.SEMICOLON)) ∙ e)

abbrev pub else_read : List Symbol → Bool → Read
else_read ts z = cond z (bind {B = Option (Unit {0}) × List Symbol} (mark_at sorts.SEMICOLON ts) (λ q. Ok (Some q.0, q.1))) (Ok (None, ts))

pub semicolon_passed : (ts : List Symbol) → true ≡ next_in (sorts.SEMICOLON ∷ []) ts → semicolon_at ts ≡ Ok (Some tt, behind ts)
semicolon_passed ts e = ap (else_read ts) (sym e) ∙ ap (λ (o : Result (Unit {0} × List Symbol) ℕ). bind {B = Option (Unit {0}) × List Symbol} o (λ q. Ok (Some q.0, q.1))) (marked ts (sym e))

pub no_semicolon : (ts : List Symbol) → false ≡ next_in (sorts.SEMICOLON ∷ []) ts → semicolon_at ts ≡ Ok (None, ts)
no_semicolon ts e = ap (else_read ts) (sym e)
