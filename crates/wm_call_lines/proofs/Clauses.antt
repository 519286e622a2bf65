-- What a text is as a where_clause.
use Rattle.std.proofs.Common.{◌≡◌, ℕ, Bool, true, false, cond, List, [], ◌∷◌, length, refl, sym, ap, subst, ◌∙◌, arith, Option, Some, None, Result, Ok, Err}
use Rattle.std.specs.Prelude.{◌==◌}
use Rattle.std.proofs.lemmas.Bool.{eqb-true}
use Rattle.std.proofs.Math.Bool.{or-false}
use Rattle.wm_syntax.specs.declared.constant.Const.TheVariants as consts
use Rattle.wm_syntax.specs.declared.statement.ArgValue.{ArgValue}
use Rattle.wm_syntax.specs.declared.statement.ArgValue.TheVariants as values
use Rattle.wm_syntax.specs.Trees.{Cond}
use Rattle.wm_grammar.specs.Symbols.{Symbol, left_of, next_in}
use Rattle.wm_grammar.specs.Sorts as sorts
use Rattle.wm_grammar.specs.Scanned.{symbols_of}
use Rattle.wm_grammar.specs.Meaning.{unquoted}
use Rattle.wm_grammar.specs.Faults.{all_of}
use Rattle.wm_grammar.specs.Reading.{taken}
use Rattle.wm_grammar.specs.ExpressionReaders.{condition_at}
use Rattle.wm_grammar.specs.Calls.{condition_of, clause_by, clause_in, clause}
use Rattle.wm_grammar.specs.CallReaders.{clause_at}
use Rattle.wm_grammar.specs.Next.{next_text, behind}
use Rattle.wm_terms.specs.Telling.{Fails}
use Rattle.wm_terms.specs.declared.error.ParseError.{ParseError}
use Rattle.wm_terms.specs.declared.error.ParseError.TheVariants as errors

abbrev pub Value : Type 0
Value = ArgValue × Option Cond

pub clause_other : (ts : List Symbol) → next_in (sorts.TEXT ∷ []) ts ≡ false → clause_at ts ≡ Err (left_of ts)
clause_other [] e = refl
clause_other (t ∷ ts) e = ap (λ (z : Bool). cond z (taken (clause t) t ts) (Err t.left)) (sym (or-false (t.sort == sorts.TEXT)) ∙ e)

-- what a text is taken for
takes : (ts : List Symbol) (o : Option Value) → next_in (sorts.TEXT ∷ []) ts ≡ true → clause_in (unquoted (next_text ts)) ≡ o → clause_at ts ≡ elim o as (λ _. Result (Value × List Symbol) ℕ) [ None ↦ Err (left_of ts) | Some v ↦ Ok (v, behind ts) ]
unfolding clause
takes [] o e f = absurd cc
takes (t ∷ ts) None e f = ap (λ (z : Bool). cond z (taken (clause t) t ts) (Err t.left)) (sym (or-false (t.sort == sorts.TEXT)) ∙ e) ∙ ap (λ (v : Option Value). taken v t ts) f
takes (t ∷ ts) (Some v) e f = ap (λ (z : Bool). cond z (taken (clause t) t ts) (Err t.left)) (sym (or-false (t.sort == sorts.TEXT)) ∙ e) ∙ ap (λ (v : Option Value). taken v t ts) f

pub clause_empty : (ts : List Symbol) (bytes : List ℕ) → next_in (sorts.TEXT ∷ []) ts ≡ true → bytes ≡ unquoted (next_text ts) → (length bytes == 0) ≡ true → clause_at ts ≡ Ok ((values.Const consts.Null, None), behind ts)
clause_empty ts [] e same none = takes ts (Some (values.Const consts.Null, None)) e (ap clause_in (sym same))
clause_empty ts (b ∷ bs) e same none = absurd (some_byte bs none)
  where
    some_byte : (bs : List ℕ) → (length (b ∷ bs) == 0) ≡ true → ⊥
    some_byte bs e = omega (arith, eqb-true (length (b ∷ bs)) 0 e)

read_in : (bytes : List ℕ) (o : Result Cond ℕ) → (length bytes == 0) ≡ false → all_of (condition_at 64 (symbols_of bytes)) ≡ o → clause_in bytes ≡ clause_by bytes (condition_of o)
read_in [] o some read = absurd cc
read_in (b ∷ bs) o some read = ap (λ (x : Result Cond ℕ). clause_by (b ∷ bs) (condition_of x)) read

pub clause_full : (ts : List Symbol) (bytes : List ℕ) (c : Cond) → next_in (sorts.TEXT ∷ []) ts ≡ true → bytes ≡ unquoted (next_text ts) → (length bytes == 0) ≡ false → all_of (condition_at 64 (symbols_of bytes)) ≡ Ok c
    → clause_at ts ≡ Ok ((values.Const (consts.Text bytes), Some c), behind ts)
clause_full ts bytes c e same some read = takes ts (Some (values.Const (consts.Text bytes), Some c)) e (ap clause_in (sym same) ∙ read_in bytes (Ok c) some read)

pub clause_bad : (ts : List Symbol) (bytes : List ℕ) (n : ℕ) → next_in (sorts.TEXT ∷ []) ts ≡ true → bytes ≡ unquoted (next_text ts) → (length bytes == 0) ≡ false → all_of (condition_at 64 (symbols_of bytes)) ≡ Err n → clause_at ts ≡ Err (left_of ts)
clause_bad ts bytes n e same some read = takes ts None e (ap clause_in (sym same) ∙ read_in bytes (Err n) some read)

-- ---- what a function that reads a where_clause tells

abbrev pub Read : Type 0
Read = Result (Value × List Symbol) ℕ

pub at_advanced : (ts : List Symbol) (v : Value) (now : List Symbol) → now ≡ behind ts → clause_at ts ≡ Ok (v, behind ts) → clause_at ts ≡ Ok (v, now)
at_advanced ts v now e r = r ∙ ap (λ (x : List Symbol). Ok (v, x)) (sym e)

pub at_text : (ts : List Symbol) (bytes text : List ℕ) (c : Cond) (now : List Symbol) → text ≡ bytes → now ≡ behind ts → clause_at ts ≡ Ok ((values.Const (consts.Text bytes), Some c), behind ts) → clause_at ts ≡ Ok ((values.Const (consts.Text text), Some c), now)
at_text ts bytes text c now t e r = at_advanced ts (values.Const (consts.Text text), Some c) now e (r ∙ ap (λ (x : List ℕ). Ok ((values.Const (consts.Text x), Some c), behind ts)) (sym t))

pub at_fault : (ts : List Symbol) (e : ParseError) → e ≡ errors.Syntax (left_of ts) → clause_at ts ≡ Err (left_of ts) → Fails e (clause_at ts)
at_fault ts e same r = subst (λ (x : ParseError). Fails x (clause_at ts)) (sym same) r

-- what is read of the bytes
pub read_same : (read bytes : List ℕ) (o : Result Cond ℕ) → read ≡ bytes → all_of (condition_at 64 (symbols_of read)) ≡ o → all_of (condition_at 64 (symbols_of bytes)) ≡ o
read_same read bytes o e r = subst (λ (x : List ℕ). all_of (condition_at 64 (symbols_of x)) ≡ o) e r
