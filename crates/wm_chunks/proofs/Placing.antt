-- Numbers that ascend: one is sought, and its value is set or taken out.
use Rattle.std.proofs.Common.{◌≡◌, ◌≢◌, ℕ, zero, suc, ◌<◌, ◌≤◌, ◌+◌, Bool, true, false, cond, List, [], ◌∷◌, length, get_or, insert, remove, Option, Some, None, is_some, IsSome, IfNone, IfSome, refl, sym, ap, subst, ◌∙◌, ◌⊎◌, inl, inr, arith}
use Rattle.std.proofs.Math.ListN.{set}
use Rattle.std.proofs.lemmas.Bool.{cases_lt, cases_eq}
use Rattle.std.specs.BTreeMap.{is_at}
use Rattle.std.specs.Cmp.{nat_cmp_is}
use Rattle.std.specs.List.{AllByRecursion}
use Rattle.std.specs.List.Sorted.{IsStrictlySortedBy}
use Rattle.std.specs.Map.{keys_of}
use Rattle.std.specs.Ordering.{is_eq, nat_cmp}
use Rattle.std.specs.declared.cmp.Ordering.TheVariants.{Less, Equal}
use Rattle.wm_chunks.proofs.Rising.{greater_is, less_is}
use Rattle.wm_chunks.specs.Numbers.{AreOrdered, RiseWithin, Sets, entry_number, last_number, value_at}
use Rattle.wm_chunks.specs.Rising.{FitsAt, RiseFrom, StandsAt}

-- ---- the order of numbers

-- the test for a number
pub is_at-same : (m n : ℕ) → m ≡ n → is_at (nat_cmp m) n ≡ true
is_at-same m n same = ap is_eq (sym (nat_cmp_is m n Equal same))

pub is_at-less : (m n : ℕ) → m < n → is_at (nat_cmp m) n ≡ false
is_at-less m n less = ap is_eq (less_is m n less)

pub is_at-more : (m n : ℕ) → n < m → is_at (nat_cmp m) n ≡ false
is_at-more m n more = ap is_eq (greater_is m n more)

pub is_at-apart : (m n : ℕ) → m ≢ n → is_at (nat_cmp m) n ≡ false
is_at-apart m n apart = by_place (cases_lt m n)
  where
    by_place : (m < n) ⊎ (n ≤ m) → is_at (nat_cmp m) n ≡ false
    by_place (inl less) = is_at-less m n less
    by_place (inr le) = is_at-more m n (omega (arith, le, apart))

-- what a look-up finds first
pub value-same : {V : Type 0} (e : ℕ × V) (es : List (ℕ × V)) (q : ℕ) → e.0 ≡ q → value_at (e ∷ es) q ≡ Some e.1
value-same e es q same = ap (λ b. cond b (Some e.1) (value_at es q)) (is_at-same q e.0 (sym same))

pub value-apart : {V : Type 0} (e : ℕ × V) (es : List (ℕ × V)) (q : ℕ) → (q ≡ e.0 → ⊥) → value_at (e ∷ es) q ≡ value_at es q
value-apart e es q apart = ap (λ b. cond b (Some e.1) (value_at es q)) (is_at-apart q e.0 apart)

-- ---- numbers that rise

pub within_less : {V : Type 0} (a b high : ℕ) (es : List (ℕ × V)) → a ≤ b → RiseWithin b high es → RiseWithin a high es
within_less a b high [] less up = omega (arith, less, up)
within_less a b high (e ∷ es) less up = (let first = up.0 in omega (arith, first, less), up.1)

pub within_from : {V : Type 0} (low high : ℕ) (es : List (ℕ × V)) → RiseWithin low high es → RiseFrom entry_number low es
within_from low high [] up = tt
within_from low high (e ∷ es) up = (up.0, within_from (e.0 + 1) high es up.1)

-- a number below all has no value
pub none_below : {V : Type 0} (low q : ℕ) (es : List (ℕ × V)) → RiseFrom entry_number low es → q < low → value_at es q ≡ None
none_below low q [] up less = refl
none_below low q (e ∷ es) up less =
    let first = up.0 in
    value-apart e es q (λ same. omega (arith, first, less, same)) ∙ none_below (e.0 + 1) q es up.1 (omega (arith, first, less))

high_above : {V : Type 0} (low high : ℕ) (es : List (ℕ × V)) → RiseWithin low high es → low ≤ high
high_above low high [] up = up
high_above low high (e ∷ es) up = let first = up.0 in let more = high_above (e.0 + 1) high es up.1 in omega (arith, first, more)

-- nor has one above all
pub none_above : {V : Type 0} (low high q : ℕ) (es : List (ℕ × V)) → RiseWithin low high es → high ≤ q → value_at es q ≡ None
none_above low high q [] up more = refl
none_above low high q (e ∷ es) up more =
    let behind = high_above (e.0 + 1) high es up.1 in
    value-apart e es q (λ same. omega (arith, behind, more, same)) ∙ none_above (e.0 + 1) high q es up.1 more

above : {V : Type 0} (k : ℕ) (low : ℕ) (es : List (ℕ × V)) → RiseFrom entry_number low es → k < low → AllByRecursion (λ q. nat_cmp k q ≡ Less) (keys_of es)
above k low [] up less = tt
above k low (e ∷ es) up less = let first = up.0 in (less_is k e.0 (omega (arith, first, less)), above k (e.0 + 1) es up.1 (omega (arith, first, less)))

pub rising_ordered : {V : Type 0} (low : ℕ) (es : List (ℕ × V)) → RiseFrom entry_number low es → AreOrdered es
unfolding IsStrictlySortedBy
rising_ordered low [] up = tt
rising_ordered low (e ∷ es) up = (above e.0 (e.0 + 1) es up.1 (omega arith), rising_ordered (e.0 + 1) es up.1)

-- ---- the greatest number

some_same : (m n : ℕ) → Some m ≡ Some n → m ≡ n
some_same m n e = cc

some_cond : {V : Type 0} (b : Bool) (x : V) (o : Option V) → IsSome o → IsSome (cond b (Some x) o)
some_cond true x o some = refl
some_cond false x o some = some

pub last_valued : {V : Type 0} (es : List (ℕ × V)) (k : ℕ) → last_number es ≡ Some k → IsSome (value_at es k)
last_valued [] k is = cc
last_valued {V} (e ∷ []) k is = ap (λ (o : Option V). is_some o) (value-same e [] k (some_same e.0 k is))
last_valued (e ∷ f ∷ es) k is = some_cond (is_at (nat_cmp k) e.0) e.1 (value_at (f ∷ es) k) (last_valued (f ∷ es) k is)

last_low : {V : Type 0} (low : ℕ) (es : List (ℕ × V)) (k : ℕ) → RiseFrom entry_number low es → last_number es ≡ Some k → low ≤ k
last_low low [] k up is = cc
last_low low (e ∷ []) k up is = let first = up.0 in let same = some_same e.0 k is in omega (arith, first, same)
last_low low (e ∷ f ∷ es) k up is = let first = up.0 in let more = last_low (e.0 + 1) (f ∷ es) k up.1 is in omega (arith, first, more)

pub last_greatest : {V : Type 0} (low : ℕ) (es : List (ℕ × V)) (k : ℕ) → RiseFrom entry_number low es → last_number es ≡ Some k → (q : ℕ) → k < q → value_at es q ≡ None
last_greatest low [] k up is q more = refl
last_greatest low (e ∷ []) k up is q more = let one = some_same e.0 k is in value-apart e [] q (λ same. omega (arith, one, more, same))
last_greatest low (e ∷ f ∷ es) k up is q more =
    let less = last_low (e.0 + 1) (f ∷ es) k up.1 is in
    value-apart e (f ∷ es) q (λ same. omega (arith, less, more, same)) ∙ last_greatest (e.0 + 1) (f ∷ es) k up.1 is q more

pub last_none : {V : Type 0} (es : List (ℕ × V)) → last_number es ≡ None → es ≡ []
last_none [] is = refl
last_none (e ∷ []) is = cc
last_none (e ∷ f ∷ es) is = let none : f ∷ es ≡ [] = last_none (f ∷ es) is in cc

-- what the greatest number tells
pub record TellsLast {V : Type 0} (es : List (ℕ × V)) (r : Option ℕ) : Type 0 where
  pub none : IfNone r (es ≡ [])
  pub valued : IfSome r (λ k. IsSome (value_at es k))
  pub greatest : IfSome r (λ k. (q : ℕ) → k < q → value_at es q ≡ None)

pub last_told : {V : Type 0} (low : ℕ) (es : List (ℕ × V)) (r : Option ℕ) → RiseFrom entry_number low es → r ≡ last_number es → TellsLast es r
last_told low es None up is = record { none = last_none es (sym is); valued = tt; greatest = tt }
last_told low es (Some k) up is = record { none = tt; valued = last_valued es k (sym is); greatest = last_greatest low es k up (sym is) }

-- it stands last
pub last_at : {V : Type 0} (es : List (ℕ × V)) (i : ℕ) (d : ℕ × V) → i + 1 ≡ length es → last_number es ≡ Some (get_or es i d).0
last_at [] i d is = absurd (omega (arith, is))
last_at (e ∷ []) zero d is = refl
last_at (e ∷ []) (suc i) d is = absurd (omega (arith, is))
last_at (e ∷ f ∷ es) zero d is = absurd (omega (arith, is))
last_at (e ∷ f ∷ es) (suc i) d is = last_at (f ∷ es) i d (omega (arith, is))

-- ---- what it has

pub value_standing : {V : Type 0} (es : List (ℕ × V)) (n i : ℕ) (d : ℕ × V) → StandsAt entry_number n es i → value_at es n ≡ Some (get_or es i d).1
value_standing [] n i d stands = absurd stands
value_standing (e ∷ es) n zero d stands = value-same e es n stands
value_standing (e ∷ es) n (suc i) d stands = value-apart e es n (λ same. let less = stands.0 in omega (arith, less, same)) ∙ value_standing es n i d stands.1

pub value_none : {V : Type 0} (low : ℕ) (es : List (ℕ × V)) (n i : ℕ) → FitsAt entry_number n es i → RiseFrom entry_number low es → value_at es n ≡ None
value_none low [] n i fits up = refl
value_none low (e ∷ es) n zero fits up = none_below e.0 n (e ∷ es) (omega arith, up.1) fits
value_none low (e ∷ es) n (suc i) fits up = value-apart e es n (λ same. let less = fits.0 in omega (arith, less, same)) ∙ value_none (e.0 + 1) es n i fits.1 up.1

-- ---- it is set or taken out

-- behind a smaller number
behind : {V : Type 0} (n : ℕ) (becomes : Option V) (e : ℕ × V) (old new : List (ℕ × V)) → e.0 < n → Sets n becomes old new → Sets n becomes (e ∷ old) (e ∷ new)
behind {V} n becomes e old new less sets q = by_place (cases_eq q e.0)
  where
    by_place : (q ≡ e.0) ⊎ (q ≢ e.0) → value_at (e ∷ new) q ≡ cond (is_at (nat_cmp n) q) becomes (value_at (e ∷ old) q)
    by_place (inl here) =
        value-same e new q (sym here)
        ∙ sym (ap (cond (is_at (nat_cmp n) q) becomes) (value-same e old q (sym here)) ∙ ap (λ b. cond b becomes (Some e.1)) (is_at-more n q (omega (arith, here, less))))
    by_place (inr away) = value-apart e new q away ∙ sets q ∙ ap (cond (is_at (nat_cmp n) q) becomes) (sym (value-apart e old q away))

-- at the front
front : {V : Type 0} (n : ℕ) (v : V) (k : ℕ) (es fs : List (ℕ × V)) → k ≡ n → ((q : ℕ) → q ≢ n → value_at fs q ≡ value_at es q) → Sets n (Some v) fs ((k, v) ∷ es)
front n v k es fs same others q = by_place (cases_eq q n)
  where
    by_place : (q ≡ n) ⊎ (q ≢ n) → value_at ((k, v) ∷ es) q ≡ cond (is_at (nat_cmp n) q) (Some v) (value_at fs q)
    by_place (inl here) = value-same (k, v) es q (same ∙ sym here) ∙ sym (ap (λ b. cond b (Some v) (value_at fs q)) (is_at-same n q (sym here)))
    by_place (inr away) =
        value-apart (k, v) es q (λ e. away (e ∙ same)) ∙ sym (others q away) ∙ sym (ap (λ b. cond b (Some v) (value_at fs q)) (is_at-apart n q (λ e. away (sym e))))

pub set_told : {V : Type 0} (es : List (ℕ × V)) (n i : ℕ) (new : ℕ × V) → StandsAt entry_number n es i → new.0 ≡ n → Sets n (Some new.1) es (set es i new)
set_told [] n i new stands same = absurd stands
set_told (e ∷ es) n zero new stands same = front n new.1 new.0 es (e ∷ es) same (λ q away. value-apart e es q (λ here. away (here ∙ stands)))
set_told (e ∷ es) n (suc i) new stands same = behind n (Some new.1) e es (set es i new) stands.0 (set_told es n i new stands.1 same)

pub insert_told : {V : Type 0} (es : List (ℕ × V)) (n i : ℕ) (new : ℕ × V) → FitsAt entry_number n es i → new.0 ≡ n → Sets n (Some new.1) es (insert es i new)
insert_told [] n zero new fits same = front n new.1 new.0 [] [] same (λ q away. refl)
insert_told [] n (suc i) new fits same = absurd fits
insert_told (e ∷ es) n zero new fits same = front n new.1 new.0 (e ∷ es) (e ∷ es) same (λ q away. refl)
insert_told (e ∷ es) n (suc i) new fits same = behind n (Some new.1) e es (insert es i new) fits.0 (insert_told es n i new fits.1 same)

pub remove_told : {V : Type 0} (low : ℕ) (es : List (ℕ × V)) (n i : ℕ) → StandsAt entry_number n es i → RiseFrom entry_number low es → Sets n None es (remove es i)
remove_told low [] n i stands up q = absurd stands
remove_told {V} low (e ∷ es) n zero stands up q = by_place (cases_eq q n)
  where
    by_place : (q ≡ n) ⊎ (q ≢ n) → value_at es q ≡ cond (is_at (nat_cmp n) q) None (value_at (e ∷ es) q)
    by_place (inl here) = none_below (e.0 + 1) q es up.1 (omega (arith, here, stands)) ∙ sym (ap (λ b. cond b None (value_at (e ∷ es) q)) (is_at-same n q (sym here)))
    by_place (inr away) =
        sym (value-apart e es q (λ here. away (here ∙ stands))) ∙ sym (ap (λ b. cond b None (value_at (e ∷ es) q)) (is_at-apart n q (λ e. away (sym e))))
remove_told low (e ∷ es) n (suc i) stands up q = behind n None e es (remove es i) stands.0 (remove_told (e.0 + 1) es n i stands.1 up.1) q

-- the first of all
pub one_told : {V : Type 0} (n : ℕ) (v : V) → Sets n (Some v) [] ((n, v) ∷ [])
one_told n v = front n v n [] [] refl (λ q away. refl)

-- one that has no value is as one that went
pub gone_told : {V : Type 0} (es : List (ℕ × V)) (n : ℕ) → value_at es n ≡ None → Sets n None es es
gone_told {V} es n none q = by_place (cases_eq n q)
  where
    by_place : (n ≡ q) ⊎ (n ≢ q) → value_at es q ≡ cond (is_at (nat_cmp n) q) None (value_at es q)
    by_place (inl here) = ap (value_at es) (sym here) ∙ none ∙ sym (ap (λ b. cond b None (value_at es q)) (is_at-same n q here))
    by_place (inr away) = sym (ap (λ b. cond b None (value_at es q)) (is_at-apart n q away))

-- ---- they rise as before

pub set_rises : {V : Type 0} (low high : ℕ) (es : List (ℕ × V)) (n i : ℕ) (new : ℕ × V) → StandsAt entry_number n es i → new.0 ≡ n → RiseWithin low high es → RiseWithin low high (set es i new)
set_rises low high [] n i new stands same up = absurd stands
set_rises low high (e ∷ es) n zero new stands same up = subst (λ k. (low ≤ k) × RiseWithin (k + 1) high es) (stands ∙ sym same) up
set_rises low high (e ∷ es) n (suc i) new stands same up = (up.0, set_rises (e.0 + 1) high es n i new stands.1 same up.1)

pub insert_rises : {V : Type 0} (low high : ℕ) (es : List (ℕ × V)) (n i : ℕ) (new : ℕ × V) → FitsAt entry_number n es i → new.0 ≡ n → low ≤ n → n < high → RiseWithin low high es → RiseWithin low high (insert es i new)
insert_rises low high [] n zero new fits same more less up = (omega (arith, same, more), omega (arith, same, less))
insert_rises low high [] n (suc i) new fits same more less up = absurd fits
insert_rises low high (e ∷ es) n zero new fits same more less up = (omega (arith, same, more), (omega (arith, fits, same), up.1))
insert_rises low high (e ∷ es) n (suc i) new fits same more less up =
    (up.0, insert_rises (e.0 + 1) high es n i new fits.1 same (let smaller = fits.0 in omega (arith, smaller)) less up.1)

pub remove_rises : {V : Type 0} (low high : ℕ) (es : List (ℕ × V)) (n i : ℕ) → StandsAt entry_number n es i → RiseWithin low high es → RiseWithin low high (remove es i)
remove_rises low high [] n i stands up = absurd stands
remove_rises low high (e ∷ es) n zero stands up = within_less low (e.0 + 1) high es (let first = up.0 in omega (arith, first)) up.1
remove_rises low high (e ∷ es) n (suc i) stands up = (up.0, remove_rises (e.0 + 1) high es n i stands.1 up.1)
