-- Lists that hold the same, and the cells that a list touches.
use Rattle.std.proofs.Common.{◌≡◌, List, ◌∷◌, ◌++◌, Option, None, Some, is_some, Bool, true, false, ◌||◌, refl, sym, ap, ◌∙◌, append_assoc}
use Rattle.std.specs.Bool.{then_some}
use Rattle.std.specs.Option.{option_or}
use Rattle.wm_spec.proofs.Lists.{told-append}
use Rattle.wm_spec.specs.Lists.{Entry, Cell, Told, told, told_of, covers, touched, Alike}

pub Alike-refl : (xs : List Entry) → Alike xs xs
Alike-refl xs = record { same = λ c. refl }

pub Alike-sym : (xs ys : List Entry) → Alike xs ys → Alike ys xs
Alike-sym xs ys a = record { same = λ c. sym (a.same c) }

pub Alike-trans : (xs ys zs : List Entry) → Alike xs ys → Alike ys zs → Alike xs zs
Alike-trans xs ys zs a b = record { same = λ c. a.same c ∙ b.same c }

-- both sides of `++` may be changed for alike ones
pub Alike-append : (xs ys vs ws : List Entry) → Alike xs ys → Alike vs ws → Alike (xs ++ vs) (ys ++ ws)
Alike-append xs ys vs ws a b = record { same = λ c. told-append xs vs c ∙ rw (a.same c, b.same c) (sym (told-append ys ws c)) }

-- the same list behind both
pub Alike-longer : (b o f l es : List Entry) → Alike (b ++ o) (f ++ l) → Alike (b ++ (o ++ es)) (f ++ (l ++ es))
Alike-longer b o f l es a = rw (sym (append_assoc b o es), sym (append_assoc f l es)) (Alike-append (b ++ o) (f ++ l) es es a (Alike-refl es))

some_or : (a b : Option Told) → is_some (option_or a b) ≡ (is_some a || is_some b)
some_or (Some x) b = refl
some_or None b = refl

some_then : (b : Bool) (x : Told) → is_some (then_some b x) ≡ b
some_then true x = refl
some_then false x = refl

pub touched-cons : (e : Entry) (es : List Entry) (c : Cell) → touched (e ∷ es) c ≡ (touched es c || covers e c)
touched-cons e es c = some_or (told es c) (then_some (covers e c) (told_of e)) ∙ ap (λ (b : Bool). touched es c || b) (some_then (covers e c) (told_of e))
