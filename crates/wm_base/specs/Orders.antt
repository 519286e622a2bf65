-- The order of values and the order of keys are total, and what they find equal is one value.
use Rattle.std.proofs.Common.{◌≡◌, Bool, ◌↔◌, ℕ, ℤ, List, [], ◌∷◌, refl, sym, ap, ◌∙◌, pos}
use Rattle.std.proofs.lemmas.Cmp.{nat_cmp_total, int_cmp_total, nat_list_cmp_total, lists_total, on_total, then_total, tied_itself}
use Rattle.std.proofs.lemmas.Map.Lookups.{exact_unsigned, exact_signed, exact_bytes, CmpEqualImpliesEq}
use Rattle.std.specs.Bool.{IsTrue, Decides}
use Rattle.std.specs.Cmp.{IsTotalOrder, Equal-is}
use Rattle.std.specs.Cmp.Lexicographic.{slice_cmp}
use Rattle.std.specs.Ordering.{nat_cmp, int_cmp, on, then_cmp, ordering_then, ordering_reverse, is_eq}
use Rattle.std.specs.declared.cmp.Ordering.{Ordering}
use Rattle.std.specs.declared.cmp.Ordering.TheVariants.{Less, Equal, Greater}
use Rattle.wm_base.specs.Key.{key_order}
use Rattle.wm_base.specs.Period.{Span, span_order}
use Rattle.wm_base.specs.Value.{type_place, value_order}
use Rattle.wm_base.specs.declared.value.Value.{Value}
use Rattle.wm_base.specs.declared.value.Value.TheVariants.{Null, Num, Text, Time, Span as Lasting}

-- ---- orders in general

-- an order that answers as a total one does is total
total_alike : {K : Type 0} (R S : K → K → Ordering) → ((x y : K) → R x y ≡ S x y) → IsTotalOrder S → IsTotalOrder R
total_alike R S alike total = record {
  antisymm = λ x y. alike x y ∙ total.antisymm x y ∙ ap ordering_reverse (sym (alike y x));
  trans = λ x y z p q. alike x z ∙ total.trans x y z (sym (alike x y) ∙ p) (sym (alike y z) ∙ q);
  congr = λ x y z p. alike x z ∙ total.congr x y z (sym (alike x y) ∙ p) ∙ sym (alike y z);
}

then_equal : (o : Ordering) → ordering_then o Equal ≡ o
then_equal Less = refl
then_equal Equal = refl
then_equal Greater = refl

-- what is equal in both parts
pub both_equal : (a b : Ordering) → ordering_then a b ≡ Equal → (a ≡ Equal) × (b ≡ Equal)
both_equal Less b e = cc
both_equal Equal b e = (refl, e)
both_equal Greater b e = cc

-- lists whose values are one where the order finds them equal are one where it finds them equal
pub lists_exact : {K : Type 0} (R : K → K → Ordering) → CmpEqualImpliesEq R → CmpEqualImpliesEq (slice_cmp R)
lists_exact R exact [] [] e = refl
lists_exact R exact [] (y ∷ ys) e = cc
lists_exact R exact (x ∷ xs) [] e = cc
lists_exact R exact (x ∷ xs) (y ∷ ys) e =
    let parts = both_equal (R x y) (slice_cmp R xs ys) e in
    let head = exact x y parts.0 in
    let tail = lists_exact R exact xs ys parts.1 in
    cc

-- ---- periods

pub span_order_total : IsTotalOrder span_order
span_order_total = then_total (on_total (λ (p : Span). p.from) nat_cmp_total) (on_total (λ (p : Span). p.till) nat_cmp_total)

pub span_order-equal : CmpEqualImpliesEq span_order
span_order-equal p q e =
    let parts = both_equal (nat_cmp p.from q.from) (nat_cmp p.till q.till) e in
    let from = exact_unsigned p.from q.from parts.0 in
    let till = exact_unsigned p.till q.till parts.1 in
    λ i. record { from = from i; till = till i }

-- ---- values

-- the parts of a value, with something for those that it has not
abbrev number_of : Value → ℤ
number_of (Num n) = n
number_of _ = pos 0

abbrev text_of : Value → List ℕ
text_of (Text t) = t
text_of _ = []

abbrev time_of : Value → ℕ
time_of (Time i) = i
time_of _ = 0

abbrev span_of : Value → Span
span_of (Lasting p) = p
span_of _ = record { from = 0; till = 0 }

-- the order of values, part by part
abbrev by_parts : Value → Value → Ordering
by_parts = then_cmp (on type_place nat_cmp) (then_cmp (on number_of int_cmp) (then_cmp (on text_of (slice_cmp nat_cmp)) (then_cmp (on time_of nat_cmp) (on span_of span_order))))

value_order-by_parts : (v w : Value) → value_order v w ≡ by_parts v w
value_order-by_parts (Num m) (Num n) = sym (then_equal (int_cmp m n))
value_order-by_parts (Text s) (Text t) = sym (then_equal (slice_cmp nat_cmp s t))
value_order-by_parts (Time i) (Time j) = sym (then_equal (nat_cmp i j))
value_order-by_parts (Lasting p) (Lasting q) = refl
value_order-by_parts Null Null = refl
value_order-by_parts Null _ = refl
value_order-by_parts (Num m) _ = refl
value_order-by_parts (Text s) _ = refl
value_order-by_parts (Time i) _ = refl
value_order-by_parts (Lasting p) _ = refl

-- any two values compare, each is equal to itself, and the order is transitive
pub value_order_total : IsTotalOrder value_order
value_order_total = total_alike value_order by_parts value_order-by_parts
    (then_total (on_total type_place nat_cmp_total)
    (then_total (on_total number_of int_cmp_total)
    (then_total (on_total text_of nat_list_cmp_total)
    (then_total (on_total time_of nat_cmp_total) (on_total span_of span_order_total)))))

-- values that the order finds equal are one
pub value_order-equal : CmpEqualImpliesEq value_order
value_order-equal Null Null e = refl
value_order-equal (Num m) (Num n) e = ap (λ x. Num x) (exact_signed m n e)
value_order-equal (Text s) (Text t) e = ap (λ x. Text x) (exact_bytes s t e)
value_order-equal (Time i) (Time j) e = ap (λ x. Time x) (exact_unsigned i j e)
value_order-equal (Lasting p) (Lasting q) e = ap (λ x. Lasting x) (span_order-equal p q e)
value_order-equal Null _ e = cc
value_order-equal (Num m) _ e = cc
value_order-equal (Text s) _ e = cc
value_order-equal (Time i) _ e = cc
value_order-equal (Lasting p) _ e = cc

-- a value is equal to itself
pub value_order-itself : (v : Value) → value_order v v ≡ Equal
value_order-itself v = tied_itself value_order_total v

-- ---- keys

pub key_order_total : IsTotalOrder key_order
key_order_total = lists_total value_order_total

-- keys that the order finds equal are one
pub key_order-equal : CmpEqualImpliesEq key_order
key_order-equal = lists_exact value_order value_order-equal

-- a key is equal to itself
pub key_order-itself : (k : List Value) → key_order k k ≡ Equal
key_order-itself k = tied_itself key_order_total k

-- a test for `Equal` is a test for the same key
pub key_order-decides : (k l : List Value) (o : Ordering) (b : Bool) → b ≡ is_eq o → o ≡ key_order k l → IsTrue b ↔ (k ≡ l)
key_order-decides k l o b test order =
    let equal : Decides (is_eq o) (o ≡ Equal) = Equal-is o in
    (λ yes. key_order-equal k l (sym order ∙ equal.0 (sym test ∙ yes)), λ same. test ∙ equal.1 (order ∙ ap (λ m. key_order k m) (sym same) ∙ key_order-itself k))
