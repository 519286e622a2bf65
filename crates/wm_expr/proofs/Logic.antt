-- OR and AND are associative, and a list of constants may be gone through from either side.
use Rattle.std.proofs.Common.{◌≡◌, ℕ, ◌+◌, ◌<◌, List, [], ◌∷◌, ◌++◌, length, take, get_or, refl, sym, ap, ◌∙◌}
use Rattle.std.proofs.lemmas.List.{take_more}
use Rattle.wm_syntax.specs.declared.cond.Cmp.TheVariants.{Eq}
use Rattle.wm_syntax.specs.declared.constant.Const.{Const}
use Rattle.wm_base.specs.declared.truth.Truth.{Truth}
use Rattle.wm_base.specs.declared.truth.Truth.TheVariants.{Yes, No, Unknown}
use Rattle.wm_base.specs.declared.value.Value.{Value}
use Rattle.wm_base.specs.Truth.{truth_and, truth_or}
use Rattle.wm_spec.specs.Conditions.{test, one_of}
use Rattle.wm_spec.specs.Operands.{constant_value}

pub or_assoc : (a b c : Truth) → truth_or (truth_or a b) c ≡ truth_or a (truth_or b c)
or_assoc Yes b c = refl
or_assoc No b c = refl
or_assoc Unknown Yes c = refl
or_assoc Unknown No c = refl
or_assoc Unknown Unknown Yes = refl
or_assoc Unknown Unknown No = refl
or_assoc Unknown Unknown Unknown = refl

pub and_assoc : (a b c : Truth) → truth_and (truth_and a b) c ≡ truth_and a (truth_and b c)
and_assoc Yes b c = refl
and_assoc No b c = refl
and_assoc Unknown Yes c = refl
and_assoc Unknown No c = refl
and_assoc Unknown Unknown Yes = refl
and_assoc Unknown Unknown No = refl
and_assoc Unknown Unknown Unknown = refl

pub or_no : (a : Truth) → truth_or a No ≡ a
or_no Yes = refl
or_no No = refl
or_no Unknown = refl

-- one constant more
pub one_of_more : (v : Value) (list : List Const) (constant : Const) → one_of v (list ++ constant ∷ []) ≡ truth_or (one_of v list) (test Eq v (constant_value constant))
one_of_more v [] constant = or_no (test Eq v (constant_value constant))
one_of_more v (first ∷ list) constant =
    ap (λ t. truth_or (test Eq v (constant_value first)) t) (one_of_more v list constant)
    ∙ sym (or_assoc (test Eq v (constant_value first)) (one_of v list) (test Eq v (constant_value constant)))

-- the step of a loop over the constants
pub one_of_next : (v : Value) (list : List Const) (i : ℕ) (constant : Const) (w : Value) (t u r : Truth) →
    i < length list → t ≡ one_of v (take i list) → constant ≡ get_or list i constant → w ≡ constant_value constant → u ≡ test Eq v w → r ≡ truth_or t u →
    r ≡ one_of v (take (i + 1) list)
one_of_next v list i constant w t u r inside so_far there value tested all =
    all ∙ ap (λ x. truth_or x u) so_far
    ∙ ap (λ x. truth_or (one_of v (take i list)) x) (tested ∙ ap (λ y. test Eq v y) (value ∙ ap (λ c. constant_value c) there))
    ∙ sym (one_of_more v (take i list) (get_or list i constant))
    ∙ sym (ap (λ l. one_of v l) (take_more list i constant inside))
