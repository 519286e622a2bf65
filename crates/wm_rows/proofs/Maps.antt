-- Maps of maps looked up and written.
use Rattle.std.proofs.Common.{◌≡◌, ℕ, Bool, true, false, cond, ◌&&◌, eqb, List, [], ◌∷◌, Option, Some, None, refl, sym, ap, ◌∙◌, ◌⊎◌, inl, inr}
use Rattle.std.proofs.lemmas.Bool.{cases_Bool, cases_eq, eq-eqb, ne_eqb}
use Rattle.std.proofs.lemmas.Cmp.{nat_cmp_total, tied_itself}
use Rattle.std.proofs.lemmas.Map.Lookups.{exact_unsigned}
use Rattle.std.proofs.lemmas.Map.Steps.{set_value_same}
use Rattle.std.specs.BTreeMap.{BTreeMap, is_at}
use Rattle.std.specs.Cmp.{Equal-is}
use Rattle.std.specs.Map.{lookup, set_value}
use Rattle.std.specs.Option.{option_map, unwrap_or}
use Rattle.std.specs.Ordering.{nat_cmp, is_eq}
use Rattle.std.specs.declared.cmp.Ordering.{Ordering}
use Rattle.wm_rows.specs.Maps.{maps_of, map_at}

-- a test for `Equal` is a test for the same number
pub is_at-number : (m n : ℕ) → is_at (nat_cmp m) n ≡ eqb m n
is_at-number m n = by_number (cases_eq m n)
  where
    by_number : (m ≡ n) ⊎ (m ≡ n → ⊥) → is_at (nat_cmp m) n ≡ eqb m n
    by_number (inl same) = rw same (ap is_eq (tied_itself nat_cmp_total n) ∙ sym (eq-eqb n n refl))
    by_number (inr apart) = no_tie (cases_Bool (is_at (nat_cmp m) n)) ∙ sym (ne_eqb m n apart)
      where
        no_tie : (is_at (nat_cmp m) n ≡ true) ⊎ (is_at (nat_cmp m) n ≡ false) → is_at (nat_cmp m) n ≡ false
        no_tie (inl tie) = absurd (apart (exact_unsigned m n ((Equal-is (nat_cmp m n)).0 tie)))
        no_tie (inr e) = e

-- ---- look-ups

-- what a look-up of a map tells
abbrev pub entries_or_none : {K X : Type 0} → Option (BTreeMap K X) → List (K × X)
entries_or_none found = unwrap_or (option_map (λ m. m.entries) found) []

map_cond : {A B : Type 0} (f : A → B) (b : Bool) (x : A) (o : Option A) → cond b (Some (f x)) (option_map f o) ≡ option_map f (cond b (Some x) o)
map_cond f true x o = refl
map_cond f false x o = refl

-- a look-up in what the maps tell
pub lookup-maps_of : {K X : Type 0} (test : ℕ → Bool) (maps : List (ℕ × BTreeMap K X)) → lookup test (maps_of maps) ≡ option_map (λ m. m.entries) (lookup test maps)
lookup-maps_of test [] = refl
lookup-maps_of {K} {X} test (e ∷ es) =
    ap (cond (test e.0) (Some e.1.entries)) (lookup-maps_of test es)
    ∙ map_cond (λ (m : BTreeMap K X). m.entries) (test e.0) e.1 (lookup test es)

pub map_at-maps_of : {K X : Type 0} (maps : List (ℕ × BTreeMap K X)) (number : ℕ) → map_at (maps_of maps) number ≡ entries_or_none (lookup (is_at (nat_cmp number)) maps)
map_at-maps_of {K} {X} maps number = ap (λ (o : Option (List (K × X))). unwrap_or o []) (lookup-maps_of (is_at (nat_cmp number)) maps)

-- what the map of a number tells, where there is one, and where there is none
pub map_at-some : {K X : Type 0} (maps : List (ℕ × BTreeMap K X)) (number : ℕ) (m : BTreeMap K X) → lookup (is_at (nat_cmp number)) maps ≡ Some m → map_at (maps_of maps) number ≡ m.entries
map_at-some maps number m is = map_at-maps_of maps number ∙ ap entries_or_none is

pub map_at-none : {K X : Type 0} (maps : List (ℕ × BTreeMap K X)) (number : ℕ) → lookup (is_at (nat_cmp number)) maps ≡ None → map_at (maps_of maps) number ≡ []
map_at-none maps number is = map_at-maps_of maps number ∙ ap entries_or_none is

pub map_at-same : {K X : Type 0} (new old : List (ℕ × BTreeMap K X)) (number : ℕ) → lookup (is_at (nat_cmp number)) new ≡ lookup (is_at (nat_cmp number)) old
    → map_at (maps_of new) number ≡ map_at (maps_of old) number
map_at-same new old number is = map_at-maps_of new number ∙ ap entries_or_none is ∙ sym (map_at-maps_of old number)

-- ---- one map written

-- the map of a number changed at one key, each other map and each other key is as before
pub write_told : {K X : Type 0} (R : K → K → Ordering) (old next : List (ℕ × BTreeMap K X)) (number : ℕ) (key : K) (was : List (K × X)) (m : BTreeMap K X) (new : Option X)
    → map_at (maps_of old) number ≡ was
    → ((n : ℕ) → lookup (is_at (nat_cmp n)) next ≡ cond (is_at (nat_cmp number) n) (Some m) (lookup (is_at (nat_cmp n)) old))
    → ((q : K) → lookup (is_at (R q)) m.entries ≡ cond (is_eq (R key q)) new (lookup (is_at (R q)) was))
    → (n : ℕ) (q : K) → lookup (is_at (R q)) (map_at (maps_of next) n) ≡ cond (eqb number n && is_eq (R key q)) new (lookup (is_at (R q)) (map_at (maps_of old) n))
write_told {K} {X} R old next number key was m new is put wrote n q = by_number (cases_eq number n)
  where
    found : List (K × X) → Option X
    found es = lookup (is_at (R q)) es

    by_number : (number ≡ n) ⊎ (number ≡ n → ⊥) → lookup (is_at (R q)) (map_at (maps_of next) n) ≡ cond (eqb number n && is_eq (R key q)) new (lookup (is_at (R q)) (map_at (maps_of old) n))
    by_number (inl here) =
        let test : eqb number n ≡ true = eq-eqb number n here in
        let there : map_at (maps_of next) n ≡ m.entries =
        map_at-some next n m (put n ∙ ap (λ b. cond b (Some m) (lookup (is_at (nat_cmp n)) old)) (is_at-number number n ∙ test)) in
        ap (λ (es : List (K × X)). lookup (is_at (R q)) es) there ∙ wrote q
        ∙ ap (λ (es : List (K × X)). cond (is_eq (R key q)) new (lookup (is_at (R q)) es)) (sym is ∙ ap (map_at (maps_of old)) here)
        ∙ ap (λ b. cond (b && is_eq (R key q)) new (lookup (is_at (R q)) (map_at (maps_of old) n))) (sym test)
    by_number (inr away) =
        let test : eqb number n ≡ false = ne_eqb number n away in
        ap (λ (es : List (K × X)). lookup (is_at (R q)) es)
        (map_at-same next old n (put n ∙ ap (λ b. cond b (Some m) (lookup (is_at (nat_cmp n)) old)) (is_at-number number n ∙ test)))
        ∙ ap (λ b. cond (b && is_eq (R key q)) new (lookup (is_at (R q)) (map_at (maps_of old) n))) (sym test)

set_cond : {K X : Type 0} (b : Bool) (k : ℕ) (m w : BTreeMap K X) (es fs : List (ℕ × BTreeMap K X)) (gs : List (ℕ × List (K × X))) → maps_of fs ≡ gs
    → maps_of (cond b ((k, w) ∷ es) ((k, m) ∷ fs)) ≡ cond b ((k, w.entries) ∷ maps_of es) ((k, m.entries) ∷ gs)
set_cond true k m w es fs gs e = refl
set_cond {K} {X} false k m w es fs gs e = ap (λ (l : List (ℕ × List (K × X))). (k, m.entries) ∷ l) e

pub maps_of-set_value : {K X : Type 0} (test : ℕ → Bool) (es : List (ℕ × BTreeMap K X)) (w : BTreeMap K X) → maps_of (set_value test es w) ≡ set_value test (maps_of es) w.entries
maps_of-set_value test [] w = refl
maps_of-set_value test (e ∷ es) w = set_cond (test e.0) e.0 e.1 w es (set_value test es w) (set_value test (maps_of es) w.entries) (maps_of-set_value test es w)

-- a map written back with the entries that it had changes nothing
pub write_kept : {K X : Type 0} (old next : List (ℕ × BTreeMap K X)) (number : ℕ) (m w : BTreeMap K X) → lookup (is_at (nat_cmp number)) old ≡ Some m
    → next ≡ set_value (is_at (nat_cmp number)) old w → w.entries ≡ m.entries → maps_of next ≡ maps_of old
write_kept {K} {X} old next number m w was put same =
    ap maps_of put ∙ maps_of-set_value (is_at (nat_cmp number)) old w
    ∙ set_value_same (is_at (nat_cmp number)) (maps_of old) w.entries
    (lookup-maps_of (is_at (nat_cmp number)) old ∙ ap (option_map (λ (x : BTreeMap K X). x.entries)) was ∙ ap (λ (es : List (K × X)). Some es) (sym same))
