-- A list with commas, read by a loop.
use Rattle.std.proofs.Common.{◌≡◌, ℕ, ◌<◌, true, false, refl, List, [], ◌∷◌, ◌++◌, length, sym, ap, ◌∙◌, map, Result, Ok}
use Rattle.std.proofs.lemmas.List.{map_push}
use Rattle.wm_grammar.specs.Symbols.{Symbol, next_in}
use Rattle.wm_grammar.specs.Reading.{Reader}
use Rattle.wm_grammar.specs.Sorts as sorts
use Rattle.wm_grammar.proofs.Loops.{Going, going_on, pushed}

-- all that is read is what was kept so far, and the items behind further commas
abbrev pub Lists : {B : Type 0} → Reader B → List B → List Symbol → Result (List B × List Symbol) ℕ → Type 0
Lists item kept now all = Going {S = Unit {0}} (λ s _. s) (λ _. sorts.COMMA ∷ []) (λ _. item) (λ kept xs. kept ++ xs) tt kept now all

pub lists_on : {B : Type 0} (item : Reader B) (kept more : List B) (now rest : List Symbol) (all : Result (List B × List Symbol) ℕ) (x : B) → more ≡ kept ++ x ∷ [] → true ≡ next_in (sorts.COMMA ∷ []) now → item now ≡ Ok (x, rest) → length rest < length now
    → Lists item kept now all → Lists item more rest all
lists_on {B} item kept more now rest all x e t read less g =
    going_on {S = Unit {0}} (λ s _. s) (λ _. sorts.COMMA ∷ []) (λ _. item) (λ kept xs. kept ++ xs) tt kept now all x rest more (sym t) read less (λ xs. pushed kept x xs ∙ ap (λ (k : List B). k ++ xs) (sym e)) g

-- what is seen of a list that grew at its end
pub seen_push : {A B : Type 0} (view : A → B) (old new : List A) (x : A) → new ≡ old ++ x ∷ [] → map view new ≡ map view old ++ view x ∷ []
seen_push view old new x e = ap (map view) e ∙ map_push view old x

pub none_next : (ts : List Symbol) → next_in [] ts ≡ false
none_next [] = refl
none_next (t ∷ ts) = refl
