-- Arguments with commas, read by a loop.
use Rattle.std.proofs.Common.{◌≡◌, ℕ, ◌<◌, true, List, [], ◌∷◌, ◌++◌, length, refl, sym, subst, Option, Result, Ok}
use Rattle.wm_syntax.specs.declared.statement.Arg.{Arg}
use Rattle.wm_syntax.specs.Trees.{Cond}
use Rattle.wm_grammar.specs.declared.procedure.Procedure.{Procedure}
use Rattle.wm_grammar.specs.Symbols.{Symbol, next_in}
use Rattle.wm_grammar.specs.Sorts as sorts
use Rattle.wm_grammar.specs.Calls.{first_some, gathered, one_more}
use Rattle.wm_grammar.specs.CallReaders.{next_arg_at}
use Rattle.wm_grammar.proofs.CallLaws.{next_arg_exact}
use Rattle.wm_grammar.proofs.Loops.{Going, going_on, takes_one}
use Rattle.wm_call_lines.specs.Gathering.{Grown}

abbrev pub Found : Type 0
Found = List Arg × Option Cond

-- all that is read is what was gathered so far, and the arguments behind further commas
abbrev pub Goes : Procedure → Found → List Symbol → Result (Found × List Symbol) ℕ → Type 0
Goes procedure found now all = Going {S = List Arg} {B = Arg × Option Cond} {R = Found} one_more (λ _. sorts.COMMA ∷ []) (next_arg_at procedure) gathered found.0 found now all

pub args_less : (procedure : Procedure) (old new : Found) (now rest : List Symbol) → Grown procedure old new now rest → length rest < length now
args_less procedure old new now rest g = takes_one (next_arg_exact procedure old.0) refl now (g.arg, g.condition) rest g.reads

pub args_on : (procedure : Procedure) (old new : Found) (now rest : List Symbol) (all : Result (Found × List Symbol) ℕ) → true ≡ next_in (sorts.COMMA ∷ []) now → Grown procedure old new now rest → Goes procedure old now all → Goes procedure new rest all
args_on procedure old new now rest all t w g =
    let stepped : Going {S = List Arg} {B = Arg × Option Cond} {R = Found} one_more (λ _. sorts.COMMA ∷ []) (next_arg_at procedure) gathered (old.0 ++ w.arg ∷ []) (old.0 ++ w.arg ∷ [], first_some old.1 w.condition) rest all
    = going_on {S = List Arg} {B = Arg × Option Cond} {R = Found} one_more (λ _. sorts.COMMA ∷ []) (next_arg_at procedure) gathered old.0 old now all (w.arg, w.condition) rest (old.0 ++ w.arg ∷ [], first_some old.1 w.condition) (sym t) w.reads
    (args_less procedure old new now rest w) (λ xs. refl) g in
    moved procedure (old.0 ++ w.arg ∷ []) new.0 (first_some old.1 w.condition) new.1 rest all (sym w.list) (sym w.first) stepped
  where
    moved : (procedure : Procedure) (a b : List Arg) (x y : Option Cond) (rest : List Symbol) (all : Result (Found × List Symbol) ℕ) → a ≡ b → x ≡ y
        → Going {S = List Arg} {B = Arg × Option Cond} {R = Found} one_more (λ _. sorts.COMMA ∷ []) (next_arg_at procedure) gathered a (a, x) rest all
        → Going {S = List Arg} {B = Arg × Option Cond} {R = Found} one_more (λ _. sorts.COMMA ∷ []) (next_arg_at procedure) gathered b (b, y) rest all
    moved procedure a b x y rest all e f g =
        subst (λ (z : List Arg). Going {S = List Arg} {B = Arg × Option Cond} {R = Found} one_more (λ _. sorts.COMMA ∷ []) (next_arg_at procedure) gathered z (z, y) rest all) e
        (subst (λ (z : Option Cond). Going {S = List Arg} {B = Arg × Option Cond} {R = Found} one_more (λ _. sorts.COMMA ∷ []) (next_arg_at procedure) gathered a (a, z) rest all) f g)

-- an argument that is read behind a list is gathered with it
pub grown : (procedure : Procedure) (old new : Found) (list : List Arg) (now rest : List Symbol) (x : Arg) (other : Option Cond) → list ≡ old.0 → next_arg_at procedure list now ≡ Ok ((x, other), rest) → new.0 ≡ old.0 ++ x ∷ [] → new.1 ≡ first_some old.1 other
    → Grown procedure old new now rest
grown procedure old new list now rest x other e r l f = record {
  arg = x;
  condition = other;
  reads = subst (λ (z : List Arg). next_arg_at procedure z now ≡ Ok ((x, other), rest)) e r;
  list = l;
  first = f;
}
