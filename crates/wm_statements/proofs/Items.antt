-- The items of a table, read by a loop that keeps whether a key was given.
use Rattle.std.proofs.Common.{◌≡◌, ℕ, Bool, true, List, [], ◌∷◌, ◌++◌, refl, sym, ap, subst, ◌∙◌, Result, Ok}
use Rattle.wm_syntax.specs.declared.statement.CreateItem.{CreateItem}
use Rattle.wm_grammar.specs.Symbols.{Symbol, next_in}
use Rattle.wm_grammar.specs.Sorts as sorts
use Rattle.wm_grammar.specs.Statements.{keyed_by}
use Rattle.wm_grammar.specs.StatementReaders.{next_item_at}
use Rattle.wm_grammar.proofs.Loops.{Going, going_on, takes_one, pushed}
use Rattle.wm_grammar.proofs.StatementLaws.{next_item_exact}

abbrev pub Items : Bool → List CreateItem → List Symbol → Result (List CreateItem × List Symbol) ℕ → Type 0
Items keyed kept now all = Going keyed_by (λ _. sorts.COMMA ∷ []) next_item_at (λ kept xs. kept ++ xs) keyed kept now all

pub items_on : (keyed then : Bool) (kept more : List CreateItem) (now rest : List Symbol) (all : Result (List CreateItem × List Symbol) ℕ) (x : CreateItem) → then ≡ keyed_by keyed x → more ≡ kept ++ x ∷ []
    → true ≡ next_in (sorts.COMMA ∷ []) now → next_item_at keyed now ≡ Ok (x, rest) → Items keyed kept now all → Items then more rest all
items_on keyed then kept more now rest all x k e t read g =
    subst (λ (s : Bool). Items s more rest all) (sym k)
    (going_on keyed_by (λ _. sorts.COMMA ∷ []) next_item_at (λ kept xs. kept ++ xs) keyed kept now all x rest more (sym t) read (takes_one (next_item_exact keyed) refl now x rest read)
    (λ xs. pushed kept x xs ∙ ap (λ (k : List CreateItem). k ++ xs) (sym e)) g)
