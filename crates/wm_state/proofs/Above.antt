-- The versions on the path of a version above a base.
use Rattle.std.proofs.Common.{◌≡◌, ◌≢◌, ℕ, ◌<◌, ◌==◌, nat_lt, Bool, true, false, ◌||◌, cond, List, [], ◌∷◌, refl, sym, ◌∙◌, ◌⊎◌, inl, inr, is_some, arith}
use Rattle.std.proofs.lemmas.Bool.{cases_eq, eq-eqb, ne_eqb, and_parts, lt-ltb}
use Rattle.std.specs.List.{list_all}
use Rattle.wm_graph.specs.Parts.{Parts, table_of, row_of, version_of}
use Rattle.wm_graph.specs.Rules.{keep_rules, differ, collide, is_piece}
use Rattle.wm_spec.specs.Lists.{Entry}
use Rattle.wm_spec.specs.declared.record.piece.PieceRecord.{PieceRecord}
use Rattle.wm_tree.specs.Versions.{AllBelow}
use Rattle.wm_tree.specs.declared.version.Version.{Version as Node}
use Rattle.wm_state.specs.Effects.{IsLeaf}
use Rattle.wm_state.specs.Standing.{newest_first, is_above}
use Rattle.wm_state.proofs.Apart.{Ruled, ruled}
use Rattle.wm_state.proofs.Ending.{all_end, all_end-fewer}
use Rattle.wm_state.proofs.Named.{version_below}
use Rattle.wm_state.proofs.Tests.{all_if}

-- nothing is above a version on its own path
pub above-itself : (nodes : List Node) (base k : ℕ) → is_above nodes base base k ≡ false
above-itself [] base k = refl
above-itself (x ∷ older) base k = rw (eq-eqb base base refl) refl

-- a version beside the newest one has the path that it had
pub above-beside : (x : Node) (older : List Node) (base v k : ℕ) → v < x.number → is_above (x ∷ older) base v k ≡ is_above older base v k
above-beside x older base v k lt = by_base (cases_eq v base)
  where
    by_base : (v ≡ base) ⊎ (v ≢ base) → is_above (x ∷ older) base v k ≡ is_above older base v k
    by_base (inl same) = rw same (above-itself (x ∷ older) base k ∙ sym (above-itself older base k))
    by_base (inr other) = rw (ne_eqb _ _ other, ne_eqb x.number v (λ same. omega (arith, lt, same))) refl

-- on the path of the newest one is itself, and what is on its parent's
pub above-under : (x : Node) (older : List Node) (base k : ℕ) → (x.number == base) ≡ false → k < x.number → is_above (x ∷ older) base x.number k ≡ is_above older base x.parent k
above-under x older base k above lt = rw (above, eq-eqb x.number x.number refl, ne_eqb x.number k (λ same. omega (arith, lt, same))) refl

-- a version under which none stands is on no other's path
pub above-leaf : (leaf base : ℕ) (nodes : List Node) → IsLeaf leaf nodes → (v : ℕ) → (v == leaf) ≡ false → is_above nodes base v leaf ≡ false
above-leaf leaf base [] is v other = refl
above-leaf leaf base (x ∷ older) is v other = by_test (v == base) (x.number == v) (above-leaf leaf base older is.1 x.parent is.0) (above-leaf leaf base older is.1 v other)
  where
    by_test : (a b : Bool) → is_above older base x.parent leaf ≡ false → is_above older base v leaf ≡ false
        → cond a false (cond b ((v == leaf) || is_above older base x.parent leaf) (is_above older base v leaf)) ≡ false
    by_test true b up along = refl
    by_test false true up along = rw (other, up) refl
    by_test false false up along = along

-- ---- where pieces end, under a version more

-- what stands on the path of a version beside the newest one ends where it did
pub ends-beside : (x : Node) (older : List Node) (base v : ℕ) (es : List Entry) (xs : List PieceRecord) → v < x.number → list_all (λ (y : PieceRecord). nat_lt y.version x.number) xs ≡ true
    → all_end (is_above older base v) es xs ≡ true → all_end (is_above (x ∷ older) base v) es xs ≡ true
ends-beside x older base v es xs lt lower e =
    all_end-fewer (is_above older base v) (is_above (x ∷ older) base v) x.number es xs (λ k less is. sym (above-beside x older base v k lt) ∙ is) lower e

-- and the newest one has no piece of its own
pub ends-under : (x : Node) (older : List Node) (base : ℕ) (es : List Entry) (xs : List PieceRecord) → (x.number == base) ≡ false → list_all (λ (y : PieceRecord). nat_lt y.version x.number) xs ≡ true
    → all_end (is_above older base x.parent) es xs ≡ true → all_end (is_above (x ∷ older) base x.number) es xs ≡ true
ends-under x older base es xs above lower e =
    all_end-fewer (is_above older base x.parent) (is_above (x ∷ older) base x.number) x.number es xs (λ k less is. sym (above-under x older base k above less) ∙ is) lower e

-- nothing is above a version on its own path, so all of it ends where it may
pub ends-itself : (nodes : List Node) (base : ℕ) (es : List Entry) (xs : List PieceRecord) → all_end (is_above nodes base base) es xs ≡ true
ends-itself nodes base es [] = refl
ends-itself nodes base es (x ∷ xs) = rw (above-itself nodes base x.version) (ends-itself nodes base es xs)

-- ---- the versions of pieces

-- each piece is of a version below what all versions are below
pub pieces_lower : (p : Parts) → keep_rules p ≡ true → (number : ℕ) → AllBelow number (newest_first p.versions) → list_all (λ (x : PieceRecord). nat_lt x.version number) p.pieces ≡ true
pieces_lower p rules number below =
    all_if (is_piece (table_of p.tables) (version_of p.versions) (row_of p.rows) r.counters.next_stamp) (λ (x : PieceRecord). nat_lt x.version number)
    (λ x is. lt-ltb x.version number (version_below p rules number below x.version (and_parts (is_some (version_of p.versions x.version)) _ is).0))
    p.pieces (and_parts (differ collide p.pieces) _ r.pieces).1
  where
    r : Ruled p
    r = ruled p rules
