-- Values, keys, ranges of cells, key columns and lists are exact.
use Rattle.std.proofs.Common.{◌≡◌, ℕ, zero, suc, ◌<◌, Bool, true, false, cond, eqb, leb, List, [], ◌∷◌, ◌++◌, length, Some, None, refl, sym, ap, subst, ◌∙◌, append_assoc, arith, ◌⊎◌, inl, inr}
use Rattle.std.specs.Int.{w64}
use Rattle.std.specs.List.{flat_map, AllByRecursion}
use Rattle.std.specs.Option.{option_and_then, option_map}
use Rattle.std.proofs.lemmas.Bool.{eqb-true, eqb-false, leb-true, le-leb, ne_eqb}
use Rattle.std.proofs.lemmas.List.Concat.{flat_map-cons}
use Rattle.std.proofs.lemmas.Option.{same_Some}
use Rattle.wm_base.specs.declared.instant.TheConstants.{END}
use Rattle.wm_base.specs.declared.value.Value.{Value}
use Rattle.wm_base.specs.declared.value.Value.TheVariants.{Null, Num, Text, Time, Span}
use Rattle.wm_codec.specs.Format.{Format, ◌▸◌, times, byte_at, counted}
use Rattle.wm_codec.specs.Fields.{number_at, u8, i64, flag, text_at, value, value_at, value_of_type, spell_value, FitsValue, key, spell_key, FitsKey, cell_range, key_columns, key_columns_of, spell_key_columns, FitsKeyColumns}
use Rattle.wm_codec.proofs.Exact.{IsBytes, IsBytes-rest, IsExact, then_some, map_some, guard_some, pair_exact, fields_exact}
use Rattle.wm_codec.proofs.ExactFields.{byte_takes, u8_exact, u16_exact, u64_exact, i64_exact, flag_exact, text_exact}

-- ---- values

-- which way a test went
pub chosen : {A : Type 0} (b : Bool) (x y z : A) → cond b x y ≡ z → ((b ≡ true) × (x ≡ z)) ⊎ ((b ≡ false) × (y ≡ z))
chosen true x y z e = inl (refl, e)
chosen false x y z e = inr (refl, e)

pub kept : {A : Type 0} (b : Bool) (x y : A) → cond b (Some x) None ≡ Some y → (b ≡ true) × (x ≡ y)
kept true x y e = (refl, cc)
kept false x y e = absurd cc

-- what is said of a value that was read behind its type
abbrev TakesValue : ℕ → List ℕ → Value × List ℕ → Type 0
TakesValue tag bytes p = (tag ∷ bytes ≡ spell_value p.0 ++ p.1) × FitsValue p.0

number_takes : (bytes : List ℕ) (p : Value × List ℕ) → IsBytes bytes → option_map (λ n. (Num n.0, n.1)) (i64.read bytes) ≡ Some p → TakesValue 1 bytes p
unfolding spell_value FitsValue
number_takes bytes p fits e =
    let n = map_some (i64.read bytes) (λ n. (Num n.0, n.1)) p e in
    let t = i64_exact.takes bytes n.0.1 n.0.0 fits n.1 in
    subst (TakesValue 1 bytes) n.2 (ap (λ t. 1 ∷ t) t.0, t.1)

text_takes : (bytes : List ℕ) (p : Value × List ℕ) → IsBytes bytes → option_and_then (λ t. cond (eqb (length t.0) 0) None (Some (Text t.0, t.1))) (text_at bytes) ≡ Some p → TakesValue 2 bytes p
unfolding spell_value FitsValue
text_takes bytes p fits e =
    let n = then_some (text_at bytes) (λ t. cond (eqb (length t.0) 0) None (Some (Text t.0, t.1))) p e in
    let t = text_exact.takes bytes n.0.1 n.0.0 fits n.1 in
    let g = guard_some (eqb (length n.0.0) 0) (Text n.0.0, n.0.1) p n.2 in
    let some : 0 < length n.0.0 = omega (arith, eqb-false (length n.0.0) 0 g.0) in
    subst (TakesValue 2 bytes) g.1 (ap (λ t. 2 ∷ t) t.0, (some, t.1))

time_takes : (bytes : List ℕ) (p : Value × List ℕ) → IsBytes bytes → option_and_then (λ n. cond (leb n.0 END) (Some (Time n.0, n.1)) None) (number_at w64 bytes) ≡ Some p → TakesValue 3 bytes p
unfolding spell_value FitsValue
time_takes bytes p fits e =
    let n = then_some (number_at w64 bytes) (λ n. cond (leb n.0 END) (Some (Time n.0, n.1)) None) p e in
    let t = u64_exact.takes bytes n.0.1 n.0.0 fits n.1 in
    let g = kept (leb n.0.0 END) (Time n.0.0, n.0.1) p n.2 in
    subst (TakesValue 3 bytes) g.1 (ap (λ t. 3 ∷ t) t.0, leb-true n.0.0 END g.0)

type_takes : (tag : ℕ) (bytes : List ℕ) (p : Value × List ℕ) → IsBytes bytes → value_of_type tag bytes ≡ Some p → TakesValue tag bytes p
unfolding value_of_type spell_value FitsValue
type_takes tag bytes p fits e =
    elim (chosen (eqb tag 0) _ _ _ e) [
      | inl is ↦ rw (eqb-true tag 0 is.0) (subst (TakesValue 0 bytes) (same_Some (Null, bytes) p is.1) (refl, tt))
      | inr e ↦ elim (chosen (eqb tag 1) _ _ _ e.1) [
        | inl is ↦ rw (eqb-true tag 1 is.0) (number_takes bytes p fits is.1)
        | inr e ↦ elim (chosen (eqb tag 2) _ _ _ e.1) [
          | inl is ↦ rw (eqb-true tag 2 is.0) (text_takes bytes p fits is.1)
          | inr e ↦ elim (chosen (eqb tag 3) _ _ _ e.1) [
            | inl is ↦ rw (eqb-true tag 3 is.0) (time_takes bytes p fits is.1)
            | inr e ↦ absurd cc
          ]
        ]
      ]
    ]

value_again : (v : Value) (rest : List ℕ) → FitsValue v → value_at (spell_value v ++ rest) ≡ Some (v, rest)
unfolding value_at value_of_type spell_value FitsValue
value_again Null rest fits = refl
value_again (Num n) rest fits = rw (i64_exact.again n rest fits) refl
value_again (Text t) rest fits =
    let some : eqb (length t) 0 ≡ false = ne_eqb (length t) 0 (λ e. omega (arith, fits.0)) in
    rw (text_exact.again t rest fits.1, some) refl
value_again (Time i) rest fits =
    rw (u64_exact.again i rest (omega (arith, fits)), le-leb i END fits) refl
value_again (Span p) rest fits = absurd fits

pub value_exact : IsExact value
unfolding value_at
value_exact = record {
  takes = λ bytes rest v fits e.
      let tag = then_some (byte_at bytes) (λ tag. value_of_type tag.0 tag.1) (v, rest) e in
      let byte = byte_takes bytes tag.0.1 tag.0.0 tag.1 in
      let behind = IsBytes-rest (tag.0.0 ∷ []) tag.0.1 (subst IsBytes byte fits) in
      let t = type_takes tag.0.0 tag.0.1 (v, rest) behind tag.2 in
      (byte ∙ t.0, t.1);
  again = λ v rest fits. value_again v rest fits;
}

-- ---- keys and ranges of cells

key_again : (k : List Value) (rest : List ℕ) → FitsKey k → key.read (spell_key k ++ rest) ≡ Some (k, rest)
unfolding spell_key FitsKey
key_again [] rest fits = absurd fits
key_again (v ∷ []) rest fits = rw (value_exact.again v rest fits) refl
key_again (v ∷ w ∷ vs) rest fits = absurd fits

pub key_exact : IsExact key
unfolding spell_key FitsKey
key_exact = record {
  takes = λ bytes rest k fits e.
      let v = map_some (value_at bytes) (λ v. (v.0 ∷ [], v.1)) (k, rest) e in
      let t = value_exact.takes bytes v.0.1 v.0.0 fits v.1 in
      subst (λ p. (bytes ≡ spell_key p.0 ++ p.1) × FitsKey p.0) v.2 t;
  again = key_again;
}

pub cell_range_exact : IsExact cell_range
cell_range_exact = fields_exact _ _ _ (λ b. refl) (λ a. refl) (pair_exact _ _ u16_exact (pair_exact _ _ key_exact (pair_exact _ _ u64_exact u64_exact)))

-- ---- key columns

-- what the two bytes say is spelled by them
key_columns_are : (has : Bool) (place : ℕ) (places : List ℕ) → place < 256 → key_columns_of has place ≡ Some places → ((flag ▸ u8).spell (has, place) ≡ spell_key_columns places) × FitsKeyColumns places
key_columns_are true place places low e = subst (λ ks. (1 ∷ place ∷ [] ≡ spell_key_columns ks) × FitsKeyColumns ks) (same_Some (place ∷ []) places e) (refl, low)
key_columns_are false place places low e =
    let k = kept (eqb place 0) [] places e in
    subst (λ ks. (0 ∷ place ∷ [] ≡ spell_key_columns ks) × FitsKeyColumns ks) k.1 (ap (λ n. 0 ∷ n ∷ []) (eqb-true place 0 k.0), tt)

key_columns_again : (places rest : List ℕ) → FitsKeyColumns places → key_columns.read (spell_key_columns places ++ rest) ≡ Some (places, rest)
key_columns_again [] rest fits = refl
key_columns_again (place ∷ []) rest fits = refl
key_columns_again (place ∷ other ∷ places) rest fits = absurd fits

pub key_columns_exact : IsExact key_columns
key_columns_exact = record {
  takes = λ bytes rest places fits e.
      let p = then_some ((flag ▸ u8).read bytes) (λ p. option_map (λ places. (places, p.1)) (key_columns_of p.0.0 p.0.1)) (places, rest) e in
      let m = map_some (key_columns_of p.0.0.0 p.0.0.1) (λ places. (places, p.0.1)) (places, rest) p.2 in
      let t = (pair_exact _ _ flag_exact u8_exact).takes bytes p.0.1 p.0.0 fits p.1 in
      let k = key_columns_are p.0.0.0 p.0.0.1 m.0 t.1.1 m.1 in
      subst (λ q. (bytes ≡ spell_key_columns q.0 ++ q.1) × FitsKeyColumns q.0) m.2 (rw (← k.0) t.0, k.1);
  again = key_columns_again;
}

-- ---- lists

times_takes : {A : Type 0} (item : Format A) → IsExact item → (n : ℕ) (bytes rest : List ℕ) (xs : List A) → IsBytes bytes → times item n bytes ≡ Some (xs, rest) → (bytes ≡ flat_map item.spell xs ++ rest) × (length xs ≡ n) × AllByRecursion item.Fits xs
times_takes item exact zero bytes rest xs fits e =
    subst (λ p. (bytes ≡ flat_map item.spell p.0 ++ p.1) × (length p.0 ≡ 0) × AllByRecursion item.Fits p.0) (same_Some ([], bytes) (xs, rest) e) (refl, refl, tt)
times_takes item exact (suc n) bytes rest xs fits e =
    let first = then_some (item.read bytes) (λ first. option_and_then (λ others. Some (first.0 ∷ others.0, others.1)) (times item n first.1)) (xs, rest) e in
    let others = then_some (times item n first.0.1) (λ others. Some (first.0.0 ∷ others.0, others.1)) (xs, rest) first.2 in
    let t = exact.takes bytes first.0.1 first.0.0 fits first.1 in
    let behind = IsBytes-rest (item.spell first.0.0) first.0.1 (subst IsBytes t.0 fits) in
    let u = times_takes item exact n first.0.1 others.0.1 others.0.0 behind others.1 in
    let parts : bytes ≡ flat_map item.spell (first.0.0 ∷ others.0.0) ++ others.0.1 =
    rw (flat_map-cons item.spell first.0.0 others.0.0) (t.0 ∙ ap (λ t. item.spell first.0.0 ++ t) u.0 ∙ sym (append_assoc (item.spell first.0.0) (flat_map item.spell others.0.0) others.0.1)) in
    subst (λ p. (bytes ≡ flat_map item.spell p.0 ++ p.1) × (length p.0 ≡ suc n) × AllByRecursion item.Fits p.0) (same_Some (first.0.0 ∷ others.0.0, others.0.1) (xs, rest) others.2) (parts, ap suc u.1, (t.1, u.2))

pub times_again : {A : Type 0} (item : Format A) → IsExact item → (xs : List A) (rest : List ℕ) → AllByRecursion item.Fits xs → times item (length xs) (flat_map item.spell xs ++ rest) ≡ Some (xs, rest)
times_again item exact [] rest fits = refl
times_again item exact (x ∷ xs) rest fits =
    rw (flat_map-cons item.spell x xs, append_assoc (item.spell x) (flat_map item.spell xs) rest, exact.again x (flat_map item.spell xs ++ rest) fits.0, times_again item exact xs rest fits.1) refl

pub counted_exact : {A : Type 0} (item : Format A) → IsExact item → IsExact (counted item)
counted_exact item exact = record {
  takes = λ bytes rest xs fits e.
      let count = then_some (byte_at bytes) (λ count. times item count.0 count.1) (xs, rest) e in
      let byte = byte_takes bytes count.0.1 count.0.0 count.1 in
      let whole = subst IsBytes byte fits in
      let behind = IsBytes-rest (count.0.0 ∷ []) count.0.1 whole in
      let t = times_takes item exact count.0.0 count.0.1 rest xs behind count.2 in
      let parts : bytes ≡ length xs ∷ (flat_map item.spell xs ++ rest) = rw t.1 (byte ∙ ap (λ t. count.0.0 ∷ t) t.0) in
      (parts, (rw t.1 (whole 0), t.2));
  again = λ xs rest fits. times_again item exact xs rest fits.1;
}
