-- The key among NULLs, one column after another; and what is pushed one after another.
use Rattle.std.proofs.Common.{◌≡◌, ℕ, zero, suc, ◌+◌, ◌<◌, ◌==◌, true, false, if◌then◌else◌, List, [], ◌∷◌, ◌++◌, drop, length, get_or, slice_get, Some, None, refl, sym, ap, ◌∙◌, arith, append_assoc}
use Rattle.std.proofs.lemmas.Option.{same_Some, none-some}
use Rattle.wm_base.specs.declared.value.Value.{Value}
use Rattle.wm_base.specs.declared.value.Value.TheVariants as values
use Rattle.wm_spec.specs.declared.record.column.TableColumn.{TableColumn}
use Rattle.wm_view_rows.specs.Rows.{key_value, key_values}

-- ---- the value of a key in a column, from a place of its columns on

-- where this is the column, it is the value there
pub key_here : (places : List ℕ) (key : List Value) (i place : ℕ) (v : Value) → i < length places → (get_or places i 0 == place) ≡ true → slice_get key i ≡ Some v
    → key_value (drop i places) (drop i key) place ≡ v
key_here [] key i place v less at is = absurd (omega (arith, less))
key_here (p ∷ places) [] i place v less at is = absurd (none-some v is)
key_here (p ∷ places) (w ∷ key) zero place v less at is = ap (λ b. if b then w else key_value places key place) at ∙ same_Some w v is
key_here (p ∷ places) (w ∷ key) (suc i) place v less at is = key_here places key i place v (omega (arith, less)) at is

-- where there is none, it is NULL
pub key_short : (places : List ℕ) (key : List Value) (i place : ℕ) → slice_get key i ≡ None → key_value (drop i places) (drop i key) place ≡ values.Null
key_short [] [] zero place is = refl
key_short [] [] (suc i) place is = refl
key_short [] (w ∷ key) zero place is = refl
key_short [] (w ∷ key) (suc i) place is = ended (drop i key) place
  where
    ended : (ws : List Value) (place : ℕ) → key_value [] ws place ≡ values.Null
    ended [] place = refl
    ended (w ∷ ws) place = refl
key_short (p ∷ places) [] zero place is = refl
key_short (p ∷ places) [] (suc i) place is = ended (drop i places) place
  where
    ended : (ps : List ℕ) (place : ℕ) → key_value ps [] place ≡ values.Null
    ended [] place = refl
    ended (p ∷ ps) place = refl
key_short (p ∷ places) (w ∷ key) zero place is = absurd (none-some w (sym is))
key_short (p ∷ places) (w ∷ key) (suc i) place is = key_short places key i place is

next : (places : List ℕ) (key : List Value) (i place : ℕ) → i < length places → (get_or places i 0 == place) ≡ false
    → key_value (drop i places) (drop i key) place ≡ key_value (drop (suc i) places) (drop (suc i) key) place
next [] key i place less at = absurd (omega (arith, less))
next (p ∷ places) [] zero place less at = sym (ended places place)
  where
    ended : (ps : List ℕ) (place : ℕ) → key_value ps [] place ≡ values.Null
    ended [] place = refl
    ended (p ∷ ps) place = refl
next (p ∷ places) [] (suc i) place less at = ended (drop i places) (drop (suc i) places) place
  where
    ended : (ps qs : List ℕ) (place : ℕ) → key_value ps [] place ≡ key_value qs [] place
    ended [] [] place = refl
    ended [] (q ∷ qs) place = refl
    ended (p ∷ ps) [] place = refl
    ended (p ∷ ps) (q ∷ qs) place = refl
next (p ∷ places) (w ∷ key) zero place less at = ap (λ b. if b then w else key_value places key place) at
next (p ∷ places) (w ∷ key) (suc i) place less at = next places key i place (omega (arith, less)) at

-- where another is, the others decide
pub key_next : (places : List ℕ) (key : List Value) (i place : ℕ) → i < length places → (get_or places i 0 == place) ≡ false
    → key_value (drop i places) (drop i key) place ≡ key_value (drop (i + 1) places) (drop (i + 1) key) place
key_next places key i place less at = next places key i place less at ∙ ap (λ k. key_value (drop k places) (drop k key) place) (later i)
  where
    later : (i : ℕ) → suc i ≡ i + 1
    later i = omega arith

-- ---- a value for each column

from : (places : List ℕ) (key : List Value) (place n : ℕ) (cs : List TableColumn) → n < length cs
    → key_values places key place (drop n cs) ≡ key_value places key place ∷ key_values places key (place + 1) (drop (suc n) cs)
from places key place n [] less = absurd (omega (arith, less))
from places key place zero (c ∷ cs) less = refl
from places key place (suc n) (c ∷ cs) less = from places key place n cs (omega (arith, less))

-- one value more
pub keys_more : (places : List ℕ) (key made : List Value) (n : ℕ) (cs : List TableColumn) → n < length cs
    → (made ++ key_value places key n ∷ []) ++ key_values places key (n + 1) (drop (n + 1) cs) ≡ made ++ key_values places key n (drop n cs)
keys_more places key made n cs less =
    append_assoc made (key_value places key n ∷ []) (key_values places key (n + 1) (drop (n + 1) cs))
    ∙ ap (λ (k : ℕ). made ++ key_value places key n ∷ key_values places key (n + 1) (drop k cs)) (later n)
    ∙ sym (ap (λ (vs : List Value). made ++ vs) (from places key n n cs less))
  where
    later : (n : ℕ) → n + 1 ≡ suc n
    later n = omega arith

-- ---- pushed one after another

more : {A : Type 0} (xs ys before behind : List A) (e : A) → before ≡ xs ++ ys → behind ≡ before ++ e ∷ [] → behind ≡ xs ++ (ys ++ e ∷ [])
more {A = A} xs ys before behind e is next = next ∙ ap (λ (l : List A). l ++ e ∷ []) is ∙ append_assoc xs ys (e ∷ [])

pub two_more : {A : Type 0} (xs x1 x2 : List A) (a b : A) → x1 ≡ xs ++ a ∷ [] → x2 ≡ x1 ++ b ∷ [] → x2 ≡ xs ++ a ∷ b ∷ []
two_more xs x1 x2 a b h1 h2 = more xs (a ∷ []) x1 x2 b h1 h2

pub three_more : {A : Type 0} (xs x1 x2 x3 : List A) (a b c : A) → x1 ≡ xs ++ a ∷ [] → x2 ≡ x1 ++ b ∷ [] → x3 ≡ x2 ++ c ∷ [] → x3 ≡ xs ++ a ∷ b ∷ c ∷ []
three_more xs x1 x2 x3 a b c h1 h2 h3 = more xs (a ∷ b ∷ []) x2 x3 c (more xs (a ∷ []) x1 x2 b h1 h2) h3

pub five_more : {A : Type 0} (xs x1 x2 x3 x4 x5 : List A) (a b c d e : A) → x1 ≡ xs ++ a ∷ [] → x2 ≡ x1 ++ b ∷ [] → x3 ≡ x2 ++ c ∷ [] → x4 ≡ x3 ++ d ∷ [] → x5 ≡ x4 ++ e ∷ []
    → x5 ≡ xs ++ a ∷ b ∷ c ∷ d ∷ e ∷ []
five_more xs x1 x2 x3 x4 x5 a b c d e h1 h2 h3 h4 h5 =
    more xs (a ∷ b ∷ c ∷ d ∷ []) x4 x5 e (more xs (a ∷ b ∷ c ∷ []) x3 x4 d (three_more xs x1 x2 x3 a b c h1 h2 h3) h4) h5
