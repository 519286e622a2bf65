-- Records of a map, as a list by id.
use Rattle.std.proofs.Common.{◌≡◌, ◌≢◌, ℕ, ◌<◌, ◌≤◌, ◌+◌, ◌^◌, ◌==◌, cond, List, [], ◌∷◌, map, Option, Some, None, is_some, refl, sym, ap, subst, ◌∙◌, ◌⊎◌, inl, inr, ⊎_elim, arith}
use Rattle.std.proofs.lemmas.Bool.{cases_eq, cases_lt, eq-eqb, ne_eqb}
use Rattle.std.specs.BTreeMap.{is_at}
use Rattle.std.specs.List.Sorted.{IsStrictlySortedBy}
use Rattle.std.specs.Map.{lookup, keys_of}
use Rattle.std.specs.Option.{IsSome, IfSome, IfNone, SomeIff}
use Rattle.std.specs.Ordering.{nat_cmp}
use Rattle.wm_chunks.specs.Numbers.{Numbers}
use Rattle.wm_spec.specs.Records.{record_at}
use Rattle.wm_spec.specs.declared.record.Record.{Record}
use Rattle.wm_ids.proofs.TableLists.{is_at-number}
use Rattle.wm_index.proofs.Lists.{ids_of, record_at-none}
use Rattle.wm_index.specs.Indexed.{listed}

ids-listed : (es : List (ℕ × Record)) → ids_of (listed es) ≡ keys_of es
ids-listed [] = refl
ids-listed (e ∷ es) = ap (λ l. e.0 ∷ l) (ids-listed es)

-- their ids ascend
pub sorted-listed : (es : List (ℕ × Record)) → IsStrictlySortedBy nat_cmp (keys_of es) → IsStrictlySortedBy nat_cmp (ids_of (listed es))
sorted-listed es sorted = subst (IsStrictlySortedBy nat_cmp) (sym (ids-listed es)) sorted

pub same_test : (m n : ℕ) → (m == n) ≡ (n == m)
same_test m n = by_number (cases_eq m n)
  where
    by_number : (m ≡ n) ⊎ (m ≢ n) → (m == n) ≡ (n == m)
    by_number (inl same) = eq-eqb m n same ∙ sym (eq-eqb n m (sym same))
    by_number (inr apart) = ne_eqb m n apart ∙ sym (ne_eqb n m (λ e. apart (sym e)))

pub record_at-listed : (es : List (ℕ × Record)) (id : ℕ) → record_at (listed es) id ≡ lookup (is_at (nat_cmp id)) es
unfolding record_at
record_at-listed [] id = refl
record_at-listed (e ∷ es) id =
    ap (λ o. cond (e.0 == id) (Some e.1) o) (record_at-listed es id)
    ∙ ap (λ b. cond b (Some e.1) (lookup (is_at (nat_cmp id)) es)) (same_test e.0 id ∙ sym (is_at-number id e.0))

map_same : (es : List (ℕ × Record)) → map (λ (p : ℕ × Record). p) es ≡ es
map_same [] = refl
map_same (e ∷ es) = ap (λ l. e ∷ l) (map_same es)

pub listed-same : (es fs : List (ℕ × Record)) → map (λ (p : ℕ × Record). p) es ≡ fs → listed es ≡ listed fs
listed-same es fs e = ap listed (sym (map_same es) ∙ e)

-- above the greatest id there is nothing
pub above_last : (m : Numbers Record) (k : ℕ) → ((q : ℕ) → k < q → lookup (is_at (nat_cmp q)) m.entries ≡ None) → (id : ℕ) → k < id → record_at (listed m.entries) id ≡ None
above_last m k above id less = record_at-listed m.entries id ∙ above id less

-- the id behind the greatest, where there is one
pub next_above : (m : Numbers Record) (k : ℕ) (next : Option ℕ) → ((id : ℕ) → k < id → record_at (listed m.entries) id ≡ None) → SomeIff next (k + 1 < 2 ^ 64) (k + 1)
    → IfSome next (λ n. (id : ℕ) → n ≤ id → record_at (listed m.entries) id ≡ None)
next_above m k None above h = tt
next_above m k (Some n) above h = λ id le. above id (let is = h.1 in omega arith)

pub next_full : (m : Numbers Record) (k : ℕ) (next : Option ℕ) → IsSome (lookup (is_at (nat_cmp k)) m.entries) → SomeIff next (k + 1 < 2 ^ 64) (k + 1)
    → IfNone next ((id : ℕ) × (2 ^ 64 ≤ id + 1) × IsSome (record_at (listed m.entries) id))
next_full m k None some h = (k, ⊎_elim (λ less. absurd (h less)) (λ more. more) (cases_lt (k + 1) (2 ^ 64)), ap is_some (record_at-listed m.entries k) ∙ some)
next_full m k (Some n) some h = tt

-- the id before it has a record
pub next_lowest : (m : Numbers Record) (k : ℕ) (next : Option ℕ) → IsSome (lookup (is_at (nat_cmp k)) m.entries) → SomeIff next (k + 1 < 2 ^ 64) (k + 1)
    → IfSome next (λ n. (id : ℕ) → n ≡ id + 1 → 0 < id → IsSome (record_at (listed m.entries) id))
next_lowest m k None some h = tt
next_lowest m k (Some n) some h = λ id e up. subst (λ i. IsSome (record_at (listed m.entries) i)) (same id e h.1) (ap is_some (record_at-listed m.entries k) ∙ some)
  where
    same : (id : ℕ) → n ≡ id + 1 → n ≡ k + 1 → k ≡ id
    same id e f = omega (arith, e, f)

pub none_there : (m : Numbers Record) → m.entries ≡ [] → (id : ℕ) → record_at (listed m.entries) id ≡ None
none_there m none id = ap (λ es. record_at (listed es) id) none ∙ record_at-none id
