-- The sum of values, one by one.
use Rattle.std.proofs.Common.{◌≡◌, pos, ◌+ℤ◌, List, ◌∷◌, unwrap_or, arith, refl}
use Rattle.std.proofs.lemmas.Int.{ints}
use Rattle.wm_base.specs.declared.value.Value.{Value}
use Rattle.wm_base.specs.declared.value.Value.TheVariants.{Null, Num, Text, Time, Span}
use Rattle.wm_spec.specs.Expressions.{number_of}
use Rattle.wm_select.specs.Aggregates.{present, total}

-- NULL adds nothing, as what is left out adds nothing
pub total_more : (v : Value) (vs : List Value) → total (present (v ∷ vs)) ≡ unwrap_or (number_of v) (pos 0) +ℤ total (present vs)
total_more Null vs = omega (arith, ints)
total_more (Num n) vs = refl
total_more (Text t) vs = refl
total_more (Time i) vs = refl
total_more (Span p) vs = refl
