-- Ids under tables and keys.
use Rattle.std.proofs.Common.{◌≡◌, ℕ, Bool, true, false, cond, ◌&&◌, eqb, List, [], ◌∷◌, Option, Some, None, refl, sym, ap, ◌∙◌, ◌⊎◌, inl, inr}
use Rattle.std.proofs.lemmas.Bool.{cases_Bool, cases_eq, eq-eqb, ne_eqb}
use Rattle.std.proofs.lemmas.Cmp.{nat_cmp_total, tied_itself}
use Rattle.std.proofs.lemmas.Map.Lookups.{exact_unsigned}
use Rattle.std.specs.BTreeMap.{BTreeMap, is_at}
use Rattle.std.specs.Cmp.{Equal-is}
use Rattle.std.specs.List.Sorted.{IsStrictlySortedBy}
use Rattle.std.specs.Map.{lookup}
use Rattle.std.specs.Option.{option_map, unwrap_or}
use Rattle.std.specs.Ordering.{nat_cmp, is_eq}
use Rattle.std.specs.Set.{remove_key}
use Rattle.std.specs.declared.cmp.Ordering.{Ordering}
use Rattle.wm_base.specs.Key.{key_order}
use Rattle.wm_base.specs.Orders.{key_order-equal}
use Rattle.wm_base.specs.declared.value.Value.{Value}
use Rattle.wm_ids.specs.Ids.{Keyed, keyed_at, ids_in, piece_ids, without}

-- a test for `Equal` is a test for the same number
pub is_at-number : (m n : ℕ) → is_at (nat_cmp m) n ≡ eqb m n
is_at-number m n = by_number (cases_eq m n)
  where
    by_number : (m ≡ n) ⊎ (m ≡ n → ⊥) → is_at (nat_cmp m) n ≡ eqb m n
    by_number (inl same) = rw same (ap is_eq (tied_itself nat_cmp_total n) ∙ sym (eq-eqb n n refl))
    by_number (inr apart) = no_tie (cases_Bool (is_at (nat_cmp m) n)) ∙ sym (ne_eqb m n apart)
      where
        no_tie : (is_at (nat_cmp m) n ≡ true) ⊎ (is_at (nat_cmp m) n ≡ false) → is_at (nat_cmp m) n ≡ false
        no_tie (inl tie) = absurd (apart (exact_unsigned m n ((Equal-is (nat_cmp m n)).0 tie)))
        no_tie (inr e) = e

-- an id taken out of a set is taken out of its list
pub taken : (id : ℕ) (xs : List ℕ) → remove_key (is_at (nat_cmp id)) xs ≡ without id xs
taken id [] = refl
taken id (x ∷ xs) =
    ap (λ b. cond b xs (x ∷ remove_key (is_at (nat_cmp id)) xs)) (is_at-number id x ∙ other_way (cases_eq x id)) ∙ ap (λ l. cond (eqb x id) xs (x ∷ l)) (taken id xs)
  where
    other_way : (x ≡ id) ⊎ (x ≡ id → ⊥) → eqb id x ≡ eqb x id
    other_way (inl same) = eq-eqb id x (sym same) ∙ sym (eq-eqb x id same)
    other_way (inr apart) = ne_eqb id x (λ e. apart (sym e)) ∙ sym (ne_eqb x id apart)

-- what a look-up of a table or a workspace found
abbrev pub keys_found : {K : Type 0} → {V : Type 0} → Option (BTreeMap K V) → List (K × V)
keys_found found = unwrap_or (option_map (λ m. m.entries) found) []

-- where keys are tied they are one
same_key : (key k : List Value) (change : List ℕ → List ℕ) (f : List Value → List ℕ) (b : Bool) → is_eq (key_order key k) ≡ b → cond b (change (f key)) (f k) ≡ cond b (change (f k)) (f k)
same_key key k change f true tie = ap (λ j. change (f j)) (key_order-equal key k ((Equal-is (key_order key k)).0 tie))
same_key key k change f false tie = refl

-- the ids of one table, changed under a key
pub changed_on : (change : List ℕ → List ℕ) (old next : List (ℕ × Keyed)) (table : ℕ) (key : List Value) (was : List (List Value × List ℕ)) (m : Keyed)
    → keyed_at old table ≡ was
    → ((n : ℕ) → lookup (is_at (nat_cmp n)) next ≡ cond (is_at (nat_cmp table) n) (Some m) (lookup (is_at (nat_cmp n)) old))
    → ((q : List Value) → ids_in key_order m.entries q ≡ cond (is_eq (key_order key q)) (change (ids_in key_order was key)) (ids_in key_order was q))
    → (t : ℕ) (k : List Value) → piece_ids next t k ≡ cond (eqb table t && is_eq (key_order key k)) (change (piece_ids old t k)) (piece_ids old t k)
changed_on change old next table key was m is put wrote t k = by_number (cases_eq table t)
  where
    by_number : (table ≡ t) ⊎ (table ≡ t → ⊥) → piece_ids next t k ≡ cond (eqb table t && is_eq (key_order key k)) (change (piece_ids old t k)) (piece_ids old t k)
    by_number (inl here) =
        let test : is_at (nat_cmp table) t ≡ true = is_at-number table t ∙ eq-eqb table t here in
        let there : keyed_at next t ≡ m.entries = ap keys_found (put t ∙ ap (λ b. cond b (Some m) (lookup (is_at (nat_cmp t)) old)) test) in
        let before : was ≡ keyed_at old t = sym is ∙ ap (keyed_at old) here in
        ap (λ es. ids_in key_order es k) there
        ∙ wrote k
        ∙ same_key key k change (ids_in key_order was) (is_eq (key_order key k)) refl
        ∙ ap (λ es. cond (is_eq (key_order key k)) (change (ids_in key_order es k)) (ids_in key_order es k)) before
        ∙ ap (λ b. cond (b && is_eq (key_order key k)) (change (piece_ids old t k)) (piece_ids old t k)) (sym (eq-eqb table t here))
    by_number (inr away) =
        let test : is_at (nat_cmp table) t ≡ false = is_at-number table t ∙ ne_eqb table t away in
        ap (λ o. ids_in key_order (keys_found o) k)
        (put t ∙ ap (λ b. cond b (Some m) (lookup (is_at (nat_cmp t)) old)) test)
        ∙ ap (λ b. cond (b && is_eq (key_order key k)) (change (piece_ids old t k)) (piece_ids old t k)) (sym (ne_eqb table t away))

pub keys_or : (found : Option Keyed) (none : Keyed) → none.entries ≡ [] → keys_found found ≡ (unwrap_or found none).entries
keys_or None none empty = sym empty
keys_or (Some m) none empty = refl

pub no_keys : {K : Type 0} (cmp : K → K → Ordering) → IsStrictlySortedBy cmp []
unfolding IsStrictlySortedBy
no_keys cmp = tt
