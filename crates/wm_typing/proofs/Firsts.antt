-- The first of several texts or sources, however they are put together.
use Rattle.std.proofs.Common.{◌≡◌, ℕ, ◌+◌, ◌<◌, List, ◌∷◌, length, drop, get_or, Option, None, Some, refl, ap, sym, ◌∙◌}
use Rattle.std.proofs.lemmas.List.{drop_more}
use Rattle.std.specs.Option.{option_or}

-- (an attribute of a function cannot write a name with a hyphen, as that of the plain fact has)
pub or_none : {T : Type 0} (a : Option T) → option_or a None ≡ a
or_none None = refl
or_none (Some x) = refl

-- what a loop finds at a place is the first of all, where nothing was found before that place
pub found_here : {A T : Type 0} (F : List A → Option T) (f : A → Option T) (behind : A → List A → Option T) →
    ((x : A) (rest : List A) → F (x ∷ rest) ≡ option_or (f x) (behind x rest)) →
    (xs : List A) (i : ℕ) (x : A) (t : T) (r : Option T) →
    i < length xs → x ≡ get_or xs i x → F (drop i xs) ≡ r → Some t ≡ f x → Some t ≡ r
found_here F f behind step xs i x t r inside there so_far found =
    ap (λ o. option_or o (behind x (drop (i + 1) xs))) found
    ∙ sym (step x (drop (i + 1) xs))
    ∙ ap (λ y. F (y ∷ drop (i + 1) xs)) there
    ∙ sym (ap F (drop_more xs i x inside))
    ∙ so_far
