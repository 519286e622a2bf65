-- Laws of what a list holds.
use Rattle.std.proofs.Common.{◌≡◌, List, [], ◌∷◌, ◌++◌, Option, sym, ap, ◌∙◌}
use Rattle.std.specs.Bool.{then_some}
use Rattle.std.specs.Option.{option_or}
use Rattle.wm_base.proofs.Plain.{option_or-none, option_or_assoc}
use Rattle.wm_spec.specs.Lists.{Entry, Cell, Told, told, told_of, covers}

-- later entries lie over earlier ones
pub told-append : (xs ys : List Entry) (c : Cell) → told (xs ++ ys) c ≡ option_or (told ys c) (told xs c)
told-append [] ys c = sym (option_or-none (told ys c))
told-append (e ∷ xs) ys c =
    ap (λ (o : Option Told). option_or o (then_some (covers e c) (told_of e))) (told-append xs ys c)
    ∙ option_or_assoc (told ys c) (told xs c) (then_some (covers e c) (told_of e))

-- an entry more changes the cells that it covers, and no others
pub told-push : (es : List Entry) (e : Entry) (c : Cell) → told (es ++ e ∷ []) c ≡ option_or (then_some (covers e c) (told_of e)) (told es c)
told-push es e c = told-append es (e ∷ []) c
