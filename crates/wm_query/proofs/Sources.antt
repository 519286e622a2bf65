-- The sources of a query, read by a loop that keeps how many may still come.
use Rattle.std.proofs.Common.{◌≡◌, ℕ, ◌-◌, true, List, [], ◌∷◌, ◌++◌, refl, sym, ap, subst, ◌∙◌, Result, Ok}
use Rattle.wm_syntax.specs.Trees.{Src}
use Rattle.wm_grammar.specs.Symbols.{Symbol, next_in}
use Rattle.wm_grammar.specs.Queries.{one_less}
use Rattle.wm_grammar.specs.QueryReaders.{next_source_at, separators}
use Rattle.wm_grammar.proofs.Loops.{Going, going_on, takes_one, pushed}
use Rattle.wm_grammar.proofs.QueryLaws.{next_source_exact}

abbrev pub Sources : ℕ → List Src → List Symbol → Result (List Src × List Symbol) ℕ → Type 0
Sources room kept now all = Going one_less separators (next_source_at 64) (λ kept xs. kept ++ xs) room kept now all

pub sources_on : (room then : ℕ) (kept more : List Src) (now rest : List Symbol) (all : Result (List Src × List Symbol) ℕ) (x : Src) → then ≡ room - 1 → more ≡ kept ++ x ∷ []
    → true ≡ next_in (separators room) now → next_source_at 64 room now ≡ Ok (x, rest) → Sources room kept now all → Sources then more rest all
sources_on room then kept more now rest all x k e t read g =
    subst (λ (s : ℕ). Sources s more rest all) (sym k)
    (going_on one_less separators (next_source_at 64) (λ kept xs. kept ++ xs) room kept now all x rest more (sym t) read (takes_one (next_source_exact 64 room) refl now x rest read)
    (λ xs. pushed kept x xs ∙ ap (λ (k : List Src). k ++ xs) (sym e)) g)
