-- A format is exact: what is read was spelled so, and what is spelled so is read, whatever stands behind it.
use Rattle.std.proofs.Common.{◌≡◌, ℕ, suc, ◌<◌, Bool, true, false, cond, List, [], ◌∷◌, ◌++◌, get_or, take, Option, Some, None, refl, sym, ap, subst, ◌∙◌, append_assoc, arith, inl, inr}
use Rattle.std.specs.Option.{option_and_then, option_map}
use Rattle.std.proofs.lemmas.Bool.{cases_lt}
use Rattle.std.proofs.lemmas.List.{length-take, get_or-take, get_or_past}
use Rattle.std.proofs.lemmas.Option.{same_Some}
use Rattle.wm_codec.specs.Format.{Format, ◌▸◌, fields}
use Rattle.wm_codec.specs.Fields.{text}

-- each item of the list is a byte
abbrev pub IsBytes : List ℕ → Type 0
IsBytes bytes = (i : ℕ) → get_or bytes i 0 < 256

pub record IsExact {A : Type 0} (format : Format A) : Type 0 where
  pub takes : (bytes rest : List ℕ) (a : A) → IsBytes bytes → format.read bytes ≡ Some (a, rest) → (bytes ≡ format.spell a ++ rest) × format.Fits a
  pub again : (a : A) (rest : List ℕ) → format.Fits a → format.read (format.spell a ++ rest) ≡ Some (a, rest)

-- ---- steps

-- the value of a step that gave one
pub then_some : {A B : Type 0} (r : Option A) (f : A → Option B) (y : B) → option_and_then f r ≡ Some y → (x : A) × (r ≡ Some x) × (f x ≡ Some y)
then_some (Some x) f y e = (x, refl, e)
then_some None f y e = absurd cc

pub map_some : {A B : Type 0} (r : Option A) (f : A → B) (y : B) → option_map f r ≡ Some y → (x : A) × (r ≡ Some x) × (f x ≡ y)
map_some (Some x) f y e = (x, refl, cc)
map_some None f y e = absurd cc

-- a test that let a value through
pub guard_some : {A : Type 0} (b : Bool) (x y : A) → cond b None (Some x) ≡ Some y → (b ≡ false) × (x ≡ y)
guard_some true x y e = absurd cc
guard_some false x y e = (refl, cc)

-- what stands behind bytes are bytes
pub IsBytes-rest : (text rest : List ℕ) → IsBytes (text ++ rest) → IsBytes rest
IsBytes-rest [] rest h i = h i
IsBytes-rest (b ∷ text) rest h i = IsBytes-rest text rest (λ k. h (suc k)) i

pub IsBytes-take : (n : ℕ) (bytes : List ℕ) → IsBytes bytes → IsBytes (take n bytes)
IsBytes-take n bytes h i =
    elim (cases_lt i n) [
      | inl lt ↦ rw (get_or-take n bytes i 0 lt) (h i)
      | inr le ↦ rw (get_or_past (take n bytes) i 0 (omega (arith, length-take n bytes))) (omega arith)
    ]

-- ---- one field behind another, and a kind as its fields

pub pair_exact : {A B : Type 0} (first : Format A) (second : Format B) → IsExact first → IsExact second → IsExact (first ▸ second)
pair_exact first second exact_first exact_second = record {
  takes = λ bytes rest p fits e.
      let a = then_some (first.read bytes) (λ a. option_and_then (λ b. Some ((a.0, b.0), b.1)) (second.read a.1)) (p, rest) e in
      let b = then_some (second.read a.0.1) (λ b. Some ((a.0.0, b.0), b.1)) (p, rest) a.2 in
      let t = exact_first.takes bytes a.0.1 a.0.0 fits a.1 in
      let behind = IsBytes-rest (first.spell a.0.0) a.0.1 (subst IsBytes t.0 fits) in
      let u = exact_second.takes a.0.1 b.0.1 b.0.0 behind b.1 in
      let parts : bytes ≡ (first.spell a.0.0 ++ second.spell b.0.0) ++ b.0.1 = t.0 ∙ ap (λ text. first.spell a.0.0 ++ text) u.0 ∙ sym (append_assoc (first.spell a.0.0) (second.spell b.0.0) b.0.1) in
      subst (λ q. (bytes ≡ (first.spell q.0.0 ++ second.spell q.0.1) ++ q.1) × (first.Fits q.0.0 × second.Fits q.0.1)) (same_Some ((a.0.0, b.0.0), b.0.1) (p, rest) b.2) (parts, (t.1, u.1));
  again = λ p rest fits.
      rw (append_assoc (first.spell p.0) (second.spell p.1) rest, exact_first.again p.0 (second.spell p.1 ++ rest) fits.0, exact_second.again p.1 rest fits.1) refl;
}

pub fields_exact : {A B : Type 0} (parts : A → B) (whole : B → A) (format : Format B) → ((b : B) → parts (whole b) ≡ b) → ((a : A) → whole (parts a) ≡ a) → IsExact format → IsExact (fields parts whole format)
fields_exact parts whole format there back exact = record {
  takes = λ bytes rest a fits e.
      let m = map_some (format.read bytes) (λ b. (whole b.0, b.1)) (a, rest) e in
      let t = exact.takes bytes m.0.1 m.0.0 fits m.1 in
      let first : (bytes ≡ format.spell (parts (whole m.0.0)) ++ m.0.1) × format.Fits (parts (whole m.0.0)) = rw (there m.0.0) t in
      subst (λ q. (bytes ≡ format.spell (parts q.0) ++ q.1) × format.Fits (parts q.0)) m.2 first;
  again = λ a rest fits. rw (exact.again (parts a) rest fits) (ap (λ b. Some (b, rest)) (back a));
}
