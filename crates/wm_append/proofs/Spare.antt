-- Versions that are spare by their records: none stands under them, and nothing names them.
use Rattle.std.proofs.Common.{◌≡◌, ℕ, ◌<◌, ◌==◌, nat_lt, Bool, true, false, not, ◌&&◌, ◌||◌, cond, List, [], ◌∷◌, Some, refl, sym, ap, ◌∙◌, arith}
use Rattle.std.proofs.lemmas.Bool.{and_from, and_parts, not-true, true≢false, eq-eqb}
use Rattle.std.specs.List.{find, list_any}
use Rattle.wm_graph.specs.Parts.{Parts, space_of}
use Rattle.wm_graph.specs.Rules.{differ, keep_rules}
use Rattle.wm_spec.specs.declared.record.savepoint.Savepoint.{Savepoint}
use Rattle.wm_spec.specs.declared.record.space.Space.{Space}
use Rattle.wm_spec.specs.declared.record.version.Version.{Version}
use Rattle.wm_tree.specs.Versions.{grow}
use Rattle.wm_tree.specs.declared.version.Version.{Version as Node}
use Rattle.wm_state.specs.Effects.{IsFree, IsLeaf}
use Rattle.wm_state.specs.Standing.{newest_first, node_of}
use Rattle.wm_state.proofs.Apart.{ruled}
use Rattle.wm_state.proofs.Mapped.{found-fails}
use Rattle.wm_written.proofs.Leaves.{leaf_of}
use Rattle.wm_image.specs.Shown.{names, rests_on}

-- ---- versions under one

grow_back : (version : ℕ) (x : Node) (ns : List Node) → IsLeaf version (grow x ns) → ((x.parent == version) ≡ false) × IsLeaf version ns
grow_back version x [] leaf = (leaf.0, tt)
grow_back version x (y ∷ ns) leaf = by_test (nat_lt y.number x.number) leaf (grow_back version x ns)
  where
    by_test : (b : Bool) → IsLeaf version (cond b (x ∷ y ∷ ns) (y ∷ grow x ns)) → (IsLeaf version (grow x ns) → ((x.parent == version) ≡ false) × IsLeaf version ns) → ((x.parent == version) ≡ false) × IsLeaf version (y ∷ ns)
    by_test true own rest = (own.0, own.1)
    by_test false own rest = let r = rest own.1 in (r.0, (own.0, r.1))

-- a leaf is the parent of no record
leaf_back : (version : ℕ) (vs : List Version) → IsLeaf version (newest_first vs) → list_any (λ (v : Version). v.parent == version) vs ≡ false
leaf_back version [] leaf = refl
leaf_back version (v ∷ vs) leaf = let h = grow_back version (node_of v) (newest_first vs) leaf in rw (h.0, leaf_back version vs h.1) refl

-- a version that is the parent of no record is a leaf
pub leaf_so : (p : Parts) (version : ℕ) (leaf : Bool) → leaf ≡ not (list_any (λ (x : Version). x.parent == version) p.versions) → leaf ≡ true → IsLeaf version (newest_first p.versions)
leaf_so p version leaf is holds = leaf_of version p.versions (not-true (list_any (λ (x : Version). x.parent == version) p.versions) (sym is ∙ holds))

-- ---- what names one

-- none of a list passes a test where none does that is found by what it is, and no two are the same
none_each : {A : Type 0} (P same : A → A → Bool) (Q : A → Bool) → ((x : A) → P x x ≡ true) → ((x y : A) → P y x ≡ true → same x y ≡ true) → (xs : List A) → differ same xs ≡ true → ((x : A) → find (P x) xs ≡ Some x → Q x ≡ false) → list_any Q xs ≡ false
none_each P same Q itself like [] apart each = refl
none_each {A = A} P same Q itself like (x ∷ xs) apart each =
    let h = and_parts (not (list_any (same x) xs)) (differ same xs) apart in
    rw (each x (ap (λ b. cond b (Some x) (find (P x) xs)) (itself x)))
    (none_each P same Q itself like xs h.1 (λ y found. each y (later y found (not-true (list_any (same x) xs) h.0) (P y x) refl)))
  where
    later : (y : A) → find (P y) xs ≡ Some y → list_any (same x) xs ≡ false → (b : Bool) → P y x ≡ b → find (P y) (x ∷ xs) ≡ Some y
    later y found none true is = absurd (true≢false (sym (like x y is) ∙ found-fails (P y) (same x) xs y found none))
    later y found none false is = ap (λ b. cond b (Some x) (find (P y) xs)) is ∙ found

above_zero : (n : ℕ) → (n == 0) ≡ false → 0 < n
above_zero n away = grind (arith, away)

-- no savepoint passes a test that no savepoint passes of those that are found
none_saved : (p : Parts) (Q : Savepoint → Bool) → keep_rules p ≡ true → ((x : Savepoint) → find (λ (y : Savepoint). (y.space == x.space) && (y.making == x.making)) p.savepoints ≡ Some x → Q x ≡ false) → list_any Q p.savepoints ≡ false
none_saved p Q rules each =
    none_each (λ x y. (y.space == x.space) && (y.making == x.making)) (λ (x y : Savepoint). x.making == y.making) Q
    (λ x. and_from (x.space == x.space) (x.making == x.making) (eq-eqb x.space x.space refl) (eq-eqb x.making x.making refl))
    (λ x y is. (and_parts (x.space == y.space) (x.making == y.making) is).1) p.savepoints (and_parts (differ (λ (x y : Savepoint). x.making == y.making) p.savepoints) _ (ruled p rules).savepoints).0 each

none_spaced : (p : Parts) (Q : Space → Bool) → keep_rules p ≡ true → ((r : Space) → space_of p.spaces r.number ≡ Some r → Q r ≡ false) → list_any Q p.spaces ≡ false
none_spaced p Q rules each =
    none_each (λ x y. y.number == x.number) (λ (s t : Space). s.number == t.number) Q (λ r. eq-eqb r.number r.number refl) (λ x y is. is) p.spaces
    (and_parts (differ (λ (s t : Space). s.number == t.number) p.spaces) _ (and_parts _ _ (ruled p rules).spaces).1).0 each

-- by its records nothing names a version that is free
record Unnamed (p : Parts) (version : ℕ) : Type 0 where
  kept : list_any (λ (x : Savepoint). x.version == version) p.savepoints ≡ false
  rested : list_any (rests_on version) p.savepoints ≡ false
  named : list_any (names version) p.spaces ≡ false

free_back : (p : Parts) (version : ℕ) → keep_rules p ≡ true → IsFree p version → Unnamed p version
free_back p version rules free = record {
  kept = none_saved p (λ (x : Savepoint). x.version == version) rules (λ x found. free.kept x.space x.making x found);
  rested = none_saved p (rests_on version) rules (λ x found. rests x found (x.space == 0) refl);
  named = none_spaced p (names version) rules (λ r found. named r found (r.number == 0) refl);
}
  where
    rests : (x : Savepoint) → find (λ (y : Savepoint). (y.space == x.space) && (y.making == x.making)) p.savepoints ≡ Some x → (b : Bool) → (x.space == 0) ≡ b → (not b && (x.base_version == version)) ≡ false
    rests x found true live = refl
    rests x found false other = free.kept_bases x.space x.making x (above_zero x.space other) found

    named : (r : Space) → space_of p.spaces r.number ≡ Some r → (b : Bool) → (r.number == 0) ≡ b → (not b && ((r.birth_version == version) || (r.base_version == version))) ≡ false
    named r found true live = refl
    named r found false other = rw (free.births r.number r (above_zero r.number other) found, free.bases r.number r (above_zero r.number other) found) refl

-- ---- versions that are not spare

-- one under which a record stands is none
pub leaf_used : (p : Parts) (version : ℕ) (leaf : Bool) → leaf ≡ not (list_any (λ (x : Version). x.parent == version) p.versions) → leaf ≡ false → IsLeaf version (newest_first p.versions) × IsFree p version → ⊥
leaf_used p version leaf is used spare = true≢false (sym (is ∙ ap not (leaf_back version p.versions spare.0)) ∙ used)

-- nor one that a record names
pub free_used : (p : Parts) (version : ℕ) (free : Bool) → keep_rules p ≡ true
    → free ≡ not (list_any (λ (x : Savepoint). x.version == version) p.savepoints || (list_any (rests_on version) p.savepoints || list_any (names version) p.spaces)) → free ≡ false
    → IsLeaf version (newest_first p.versions) × IsFree p version → ⊥
free_used p version free rules is used spare = let none = free_back p version rules spare.1 in true≢false (sym (is ∙ rw (none.kept, none.rested, none.named) refl) ∙ used)
