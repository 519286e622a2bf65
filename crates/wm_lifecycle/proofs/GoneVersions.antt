-- Versions of different numbers in records.
use Rattle.std.proofs.Common.{◌≡◌, ◌≢◌, ℕ, ◌==◌, Bool, true, false, not, ◌&&◌, ◌||◌, List, [], ◌∷◌, Option, Some, refl, sym, ap, ◌∙◌, ◌⊎◌, inl, inr}
use Rattle.std.proofs.lemmas.Bool.{cases_eq, eq-eqb, ne_eqb, and_parts, not-true, or_parts}
use Rattle.std.specs.List.{filter_map, list_any}
use Rattle.wm_base.proofs.Plain.{eqb-turned, none_some}
use Rattle.wm_graph.specs.Parts.{as_version, version_of}
use Rattle.wm_graph.specs.Rules.{differ, is_version_of}
use Rattle.wm_spec.specs.Records.{record_at}
use Rattle.wm_spec.specs.declared.record.Record.{Record}
use Rattle.wm_spec.specs.declared.record.Record.TheVariants as records
use Rattle.wm_spec.specs.declared.record.stored.Stored.{Stored}
use Rattle.wm_spec.specs.declared.record.version.Version.{Version}
use Rattle.wm_state.proofs.Newest.{numbers_differ}
use Rattle.wm_index.proofs.Finding.{all_of}
use Rattle.wm_index.proofs.Lists.{record_at-none, record_at-here, record_at-away}

one_version : (r : Record) (w : Version) (o : Option Record) → o ≡ Some r → o ≡ Some (records.Version w) → r ≡ records.Version w
one_version r w o is version = cc

-- the version of an id is one of them
fails_all : (test : Version → Bool) (ss : List Stored) (o : ℕ) (w : Version) → record_at ss o ≡ Some (records.Version w) → list_any test (filter_map as_version (all_of ss)) ≡ false → test w ≡ false
fails_all test [] o w found none = absurd (none_some (record_at [] o) (records.Version w) (record_at-none o) found)
fails_all test (s ∷ ss) o w found none = by_id (cases_eq s.id o) (fails_all test ss o w)
  where
    behind : (r : Record) → list_any test (filter_map as_version (r ∷ all_of ss)) ≡ false → list_any test (filter_map as_version (all_of ss)) ≡ false
    behind (records.Version v) fails = (or_parts (test v) (list_any test (filter_map as_version (all_of ss))) fails).1
    behind _ fails = fails

    here : s.record ≡ records.Version w → test w ≡ false
    here is = (or_parts (test w) (list_any test (filter_map as_version (all_of ss))) (sym (ap (λ r. list_any test (filter_map as_version (r ∷ all_of ss))) is) ∙ none)).0

    by_id : (s.id ≡ o) ⊎ (s.id ≢ o) → (record_at ss o ≡ Some (records.Version w) → list_any test (filter_map as_version (all_of ss)) ≡ false → test w ≡ false) → test w ≡ false
    by_id (inl same) rest = here (one_version s.record w (record_at (s ∷ ss) o) (record_at-here s ss o same) found)
    by_id (inr away) rest = rest (sym (record_at-away s ss o away) ∙ found) (behind s.record none)

-- versions at two ids have two numbers
pub apart_versions : (ss : List Stored) → numbers_differ (filter_map as_version (all_of ss)) → (o k : ℕ) (v w : Version) → record_at ss o ≡ Some (records.Version v) → record_at ss k ≡ Some (records.Version w) → o ≢ k → (v.number == w.number) ≡ false
apart_versions [] numbers o k v w one other away = absurd (none_some (record_at [] o) (records.Version v) (record_at-none o) one)
apart_versions (s ∷ ss) numbers o k v w one other away = by_ids (cases_eq s.id o) (cases_eq s.id k) (apart_versions ss (behind s.record numbers) o k v w)
  where
    behind : (r : Record) → numbers_differ (filter_map as_version (r ∷ all_of ss)) → numbers_differ (filter_map as_version (all_of ss))
    behind (records.Version u) h = (and_parts (not (list_any (λ (x : Version). u.number == x.number) (filter_map as_version (all_of ss)))) _ h).1
    behind _ h = h

    -- the number of the version that is first is not one behind it
    first : (x y : Version) (j : ℕ) → s.record ≡ records.Version x → record_at ss j ≡ Some (records.Version y) → (x.number == y.number) ≡ false
    first x y j is found =
        fails_all (λ (z : Version). x.number == z.number) ss j y found
        (not-true (list_any (λ (z : Version). x.number == z.number) (filter_map as_version (all_of ss)))
        (and_parts (not (list_any (λ (z : Version). x.number == z.number) (filter_map as_version (all_of ss)))) (differ (λ (p q : Version). p.number == q.number) (filter_map as_version (all_of ss)))
        (sym (ap (λ r. differ (λ (p q : Version). p.number == q.number) (filter_map as_version (r ∷ all_of ss))) is) ∙ numbers)).0)

    by_ids : (s.id ≡ o) ⊎ (s.id ≢ o) → (s.id ≡ k) ⊎ (s.id ≢ k) → (record_at ss o ≡ Some (records.Version v) → record_at ss k ≡ Some (records.Version w) → o ≢ k → (v.number == w.number) ≡ false) → (v.number == w.number) ≡ false
    by_ids (inl one_is) (inl other_is) rest = absurd (away (sym one_is ∙ other_is))
    by_ids (inl one_is) (inr other_away) rest = first v w k (one_version s.record v (record_at (s ∷ ss) o) (record_at-here s ss o one_is) one) (sym (record_at-away s ss k other_away) ∙ other)
    by_ids (inr one_away) (inl other_is) rest =
        eqb-turned w.number v.number (first w v o (one_version s.record w (record_at (s ∷ ss) k) (record_at-here s ss k other_is) other) (sym (record_at-away s ss o one_away) ∙ one))
    by_ids (inr one_away) (inr other_away) rest = rest (sym (record_at-away s ss o one_away) ∙ one) (sym (record_at-away s ss k other_away) ∙ other) away

-- a version of a number is one of a workspace, where that of the number is
pub version_told : (n number : ℕ) (vs : List Version) → numbers_differ vs → list_any (λ (v : Version). (v.space == n) && (number == v.number)) vs ≡ is_version_of (version_of vs) number n
version_told n number [] differ = refl
version_told n number (v ∷ vs) numbers =
    let h = and_parts (not (list_any (λ (x : Version). v.number == x.number) vs)) (differ (λ (p q : Version). p.number == q.number) vs) numbers in
    by_number (cases_eq v.number number) (not-true (list_any (λ (x : Version). v.number == x.number) vs) h.0) (version_told n number vs h.1)
  where
    none : (xs : List Version) → list_any (λ (x : Version). v.number == x.number) xs ≡ false → v.number ≡ number → list_any (λ (x : Version). (x.space == n) && (number == x.number)) xs ≡ false
    none [] fails same = refl
    none (x ∷ xs) fails same =
        let h = or_parts (v.number == x.number) (list_any (λ (y : Version). v.number == y.number) xs) fails in
        rw (ap (λ m. m == x.number) (sym same) ∙ h.0, none xs h.1 same) (none_of (x.space == n))
      where
        none_of : (a : Bool) → ((a && false) || false) ≡ false
        none_of true = refl
        none_of false = refl

    here : (a b : Bool) → b ≡ false → ((a && true) || b) ≡ a
    here true b e = refl
    here false b e = e

    away : (a b : Bool) → ((a && false) || b) ≡ b
    away true b = refl
    away false b = refl

    by_number : (v.number ≡ number) ⊎ (v.number ≢ number) → list_any (λ (x : Version). v.number == x.number) vs ≡ false → list_any (λ (x : Version). (x.space == n) && (number == x.number)) vs ≡ is_version_of (version_of vs) number n
        → list_any (λ (x : Version). (x.space == n) && (number == x.number)) (v ∷ vs) ≡ is_version_of (version_of (v ∷ vs)) number n
    by_number (inl same) fails rest = rw (eq-eqb number v.number (sym same), eq-eqb v.number number same) (here (v.space == n) (list_any (λ (x : Version). (x.space == n) && (number == x.number)) vs) (none vs fails same))
    by_number (inr apart) fails rest = rw (ne_eqb number v.number (λ e. apart (sym e)), ne_eqb v.number number apart) (away (v.space == n) (list_any (λ (x : Version). (x.space == n) && (number == x.number)) vs) ∙ rest)
