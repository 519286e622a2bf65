-- The newest version of a workspace, told by the last number under it.
use Rattle.std.proofs.Common.{◌≡◌, ℕ, ◌<◌, ◌≤◌, ◌==◌, Bool, true, false, cond, ◌&&◌, ◌||◌, max, List, [], ◌∷◌, Option, Some, None, unwrap_or, refl, sym, ap, ◌∙◌, arith, ◌⊎◌, inl, inr}
use Rattle.std.proofs.lemmas.Bool.{cases_lt, eq-eqb, eqb-true}
use Rattle.std.specs.List.{filter, filter_map, list_any}
use Rattle.std.specs.List.Sorted.{IsStrictlySortedBy}
use Rattle.std.specs.Map.{keys_of}
use Rattle.std.specs.Ordering.{nat_cmp}
use Rattle.wm_chunks.specs.Numbers.{Numbers}
use Rattle.wm_graph.specs.Parts.{parts_of, as_version}
use Rattle.wm_spec.specs.declared.record.Record.{Record}
use Rattle.wm_spec.specs.declared.record.Record.TheVariants as records
use Rattle.wm_spec.specs.declared.record.version.Version.{Version}
use Rattle.wm_state.specs.Standing.{latest}
use Rattle.wm_ids.proofs.Lasts.{LastOf, has_ids, last-same, last_is}
use Rattle.wm_ids.specs.Ids.{keyed_at, last_used}
use Rattle.wm_index.proofs.Finding.{Tests, all_of}
use Rattle.wm_index.proofs.Firsts.{any_sought}
use Rattle.wm_index.specs.Indexed.{IsIndexed, listed}
use Rattle.wm_index.specs.Kinds.{greatest}
use Rattle.wm_index.specs.Sought.{VersionIn, is_sought}
use Rattle.wm_index.specs.declared.index.Index.{Index}
use Rattle.wm_records.proofs.Newest.{latest_in-greatest}

version_test : (s n : ℕ) → Tests as_version (λ (v : Version). (v.space == s) && (v.number == n)) (is_sought (VersionIn s n))
version_test s n (records.Version v) = refl
version_test s n _ = refl

-- one of the versions has the number
abbrev is_numbered : List Version → ℕ → Bool
is_numbered vs n = list_any (λ (v : Version). v.number == n) vs

-- one of the workspace's own has it
own_numbered : (s n : ℕ) (vs : List Version) → list_any (λ (v : Version). (v.space == s) && (v.number == n)) vs ≡ is_numbered (filter (λ (v : Version). v.space == s) vs) n
own_numbered s n [] = refl
own_numbered s n (v ∷ vs) = by_space (v.space == s) (own_numbered s n vs)
  where
    by_space : (b : Bool) → list_any (λ (w : Version). (w.space == s) && (w.number == n)) vs ≡ is_numbered (filter (λ (w : Version). w.space == s) vs) n
        → ((b && (v.number == n)) || list_any (λ (w : Version). (w.space == s) && (w.number == n)) vs)
        ≡ is_numbered (cond b (v ∷ filter (λ (w : Version). w.space == s) vs) (filter (λ (w : Version). w.space == s) vs)) n
    by_space true rest = ap (λ b. (v.number == n) || b) rest
    by_space false rest = rest

-- no number is above the greatest
numbered_most : (vs : List Version) (n : ℕ) → is_numbered vs n ≡ true → n ≤ greatest vs
numbered_most [] n there = cc
numbered_most (v ∷ vs) n there = by_number (v.number == n) refl there (numbered_most vs n)
  where
    by_number : (b : Bool) → (v.number == n) ≡ b → (b || is_numbered vs n) ≡ true → (is_numbered vs n ≡ true → n ≤ greatest vs) → n ≤ max v.number (greatest vs)
    by_number true same found rest = let is = eqb-true v.number n same in omega (arith, is)
    by_number false apart found rest = let le = rest found in omega (arith, le)

-- the greatest is the number of one, where it is not 0
greatest_there : (vs : List Version) → (is_numbered vs (greatest vs) ≡ true) ⊎ (greatest vs ≡ 0)
greatest_there [] = inr refl
greatest_there (v ∷ vs) = by_rest (greatest_there vs)
  where
    at : (n : ℕ) → max v.number (greatest vs) ≡ n → (v.number ≡ n) ⊎ (is_numbered vs n ≡ true) → is_numbered (v ∷ vs) (max v.number (greatest vs)) ≡ true
    at n is (inl same) = ap (is_numbered (v ∷ vs)) is ∙ ap (λ b. b || is_numbered vs n) (eq-eqb v.number n same)
    at n is (inr found) = ap (is_numbered (v ∷ vs)) is ∙ later (v.number == n) found
      where
        later : (b : Bool) → is_numbered vs n ≡ true → (b || is_numbered vs n) ≡ true
        later true e = refl
        later false e = e

    by_order : (v.number < greatest vs) ⊎ (greatest vs ≤ v.number) → is_numbered vs (greatest vs) ≡ true → is_numbered (v ∷ vs) (max v.number (greatest vs)) ≡ true
    by_order (inl lt) found = at (greatest vs) (omega (arith, lt)) (inr found)
    by_order (inr le) found = at v.number (omega (arith, le)) (inl refl)

    by_rest : (is_numbered vs (greatest vs) ≡ true) ⊎ (greatest vs ≡ 0) → (is_numbered (v ∷ vs) (max v.number (greatest vs)) ≡ true) ⊎ (max v.number (greatest vs) ≡ 0)
    by_rest (inl found) = inl (by_order (cases_lt v.number (greatest vs)) found)
    by_rest (inr zero) = inl (at v.number (omega (arith, zero)) (inl refl))

-- the last of the numbers is the greatest
last_greatest : (vs : List Version) (o : Option ℕ) → LastOf (is_numbered vs) o → unwrap_or o 0 ≡ greatest vs
last_greatest vs None none = by_greatest (greatest_there vs)
  where
    by_greatest : (is_numbered vs (greatest vs) ≡ true) ⊎ (greatest vs ≡ 0) → 0 ≡ greatest vs
    by_greatest (inl found) = let no = none (greatest vs) in cc
    by_greatest (inr zero) = sym zero
last_greatest vs (Some k) last = by_greatest (greatest_there vs)
  where
    most : k ≤ greatest vs
    most = numbered_most vs k last.0

    by_greatest : (is_numbered vs (greatest vs) ≡ true) ⊎ (greatest vs ≡ 0) → k ≡ greatest vs
    by_greatest (inl found) = let le = last.1 (greatest vs) found in let ge = most in omega (arith, le, ge)
    by_greatest (inr zero) = let ge = most in omega (arith, zero, ge)

-- the last number under a workspace is its newest version
pub latest_told : (kept : Numbers Record) (x : Index) → IsIndexed kept x → (s : ℕ) → IsStrictlySortedBy nat_cmp (keys_of (keyed_at x.versions_in.entries s))
    → unwrap_or (last_used (keyed_at x.versions_in.entries s)) 0 ≡ latest (parts_of (listed kept.entries)) s
unfolding parts_of
latest_told kept x is s sorted =
    last_greatest (filter (λ (v : Version). v.space == s) versions) (last_used (keyed_at x.versions_in.entries s))
    (last-same (has_ids (keyed_at x.versions_in.entries s)) (is_numbered (filter (λ (v : Version). v.space == s) versions))
    (λ n. any_sought as_version (λ (v : Version). (v.space == s) && (v.number == n)) (VersionIn s n) (version_test s n) kept x is ∙ own_numbered s n versions)
    (last_used (keyed_at x.versions_in.entries s)) (last_is (keyed_at x.versions_in.entries s) sorted))
    ∙ sym (latest_in-greatest versions s)
  where
    versions : List Version
    versions = filter_map as_version (all_of (listed kept.entries))
