-- Versions under which none stands, and that nothing names.
use Rattle.std.proofs.Common.{◌≡◌, ℕ, ◌==◌, nat_lt, Bool, true, false, cond, if◌then◌else◌, List, [], ◌∷◌, Option, Some, None, is_some, refl, sym, ap, subst, ◌∙◌, arith}
use Rattle.std.proofs.lemmas.Bool.{and_parts, or_parts, true≢false}
use Rattle.std.specs.List.{list_any}
use Rattle.std.specs.Option.{option_map_or}
use Rattle.wm_base.proofs.Plain.{less_apart, nat_lt-apart}
use Rattle.wm_graph.specs.Parts.{Parts, space_of, version_of}
use Rattle.wm_graph.specs.Rules.{keep_rules, is_version, stands_under}
use Rattle.wm_spec.specs.declared.record.counters.Counters.{Counters}
use Rattle.wm_spec.specs.declared.record.space.Space.{Space}
use Rattle.wm_spec.specs.declared.record.version.Version.{Version}
use Rattle.wm_tree.specs.Versions.{grow, AllBelow}
use Rattle.wm_tree.specs.declared.version.Version.{Version as Node}
use Rattle.wm_state.specs.Standing.{node_of, newest_first, latest}
use Rattle.wm_state.specs.Effects.{IsLeaf, IsFree}
use Rattle.wm_state.proofs.Tests.{none_if}
use Rattle.wm_state.proofs.Apart.{Ruled, ruled, ruled_versions, newest_record}
use Rattle.wm_state.proofs.Named.{saved_there, saved_base_there, bases_there, version_there, version_below}
use Rattle.wm_state.proofs.Growing.{MayFork, forked, forked_of, found-below, below-next, same_counters}

IsLeaf-grow : (version : ℕ) (x : Node) (ns : List Node) → (x.parent == version) ≡ false → IsLeaf version ns → IsLeaf version (grow x ns)
IsLeaf-grow version x [] apart leaf = (apart, tt)
IsLeaf-grow version x (y ∷ ns) apart leaf = by_test (nat_lt y.number x.number) (IsLeaf-grow version x ns apart leaf.1)
  where
    by_test : (b : Bool) → IsLeaf version (grow x ns) → IsLeaf version (cond b (x ∷ y ∷ ns) (y ∷ grow x ns))
    by_test true rest = (apart, leaf)
    by_test false rest = (leaf.0, rest)

-- a version that is the parent of no record is a leaf
pub leaf_of : (version : ℕ) (vs : List Version) → list_any (λ (v : Version). v.parent == version) vs ≡ false → IsLeaf version (newest_first vs)
leaf_of version [] e = tt
leaf_of version (v ∷ vs) e =
    let h = or_parts (v.parent == version) (list_any (λ (w : Version). w.parent == version) vs) e in
    IsLeaf-grow version (node_of v) (newest_first vs) h.0 (leaf_of version vs h.1)

-- the parent of each version is below the next version
parent-below : (spaces : ℕ → Option Space) (versions : ℕ → Option Version) (next : ℕ) (v : Version) → is_version spaces versions next v ≡ true → (v.parent == next) ≡ false
parent-below spaces versions next v e = let h = and_parts (nat_lt v.number next) _ e in by_space (spaces v.space) h.0 h.1
  where
    below_zero : (m n k : ℕ) → nat_lt m n ≡ true → (k == 0) ≡ true → (k == n) ≡ false
    below_zero m n k lt zero_is = grind (arith, lt, zero_is)

    below : (m n k : ℕ) → nat_lt m n ≡ true → nat_lt k m ≡ true → (k == n) ≡ false
    below m n k lt less = grind (arith, lt, less)

    by_parent : (s : Space) (b : Bool) → (v.parent == 0) ≡ b → nat_lt v.number next ≡ true → (if b then v.number == 1 else stands_under versions v s) ≡ true → (v.parent == next) ≡ false
    by_parent s true root lt h = below_zero v.number next v.parent lt root
    by_parent s false root lt h = below v.number next v.parent lt (and_parts (nat_lt v.parent v.number) _ h).0

    by_space : (o : Option Space) → nat_lt v.number next ≡ true → option_map_or (λ (s : Space). if v.parent == 0 then v.number == 1 else stands_under versions v s) o false ≡ true → (v.parent == next) ≡ false
    by_space None lt h = absurd (true≢false (sym h))
    by_space (Some s) lt h = by_parent s (v.parent == 0) refl lt h

-- the version that was just made is a leaf
pub leaf_new : (p : Parts) (old new : Counters) (a : Space) (n : ℕ) (v : Version) → MayFork p old new a n v → keep_rules p ≡ true → IsLeaf v.number (newest_first (forked p new v).versions)
leaf_new p old new a n v may e =
    subst (λ ns. IsLeaf v.number ns) (sym (forked_of p old new a n v may e).versions) (nat_lt-apart (latest p n) v.number parent, older)
  where
    r : Ruled p
    r = ruled p e

    number : v.number ≡ r.counters.next_version
    number = may.number ∙ ap (λ (c : Counters). c.next_version) (sym (same_counters p old r.counters may.one r.one))

    parent : nat_lt (latest p n) v.number ≡ true
    parent = ap (nat_lt (latest p n)) number
        ∙ found-below p.versions r.counters.next_version (latest p n) (below-next p r.counters.next_version r.versions) (ap is_some (newest_record p e n a may.there).1)

    older : IsLeaf v.number (newest_first p.versions)
    older = leaf_of v.number p.versions
        (ap (λ k. list_any (λ (w : Version). w.parent == k) p.versions) number
        ∙ none_if (is_version (space_of p.spaces) (version_of p.versions) r.counters.next_version) (λ (w : Version). w.parent == r.counters.next_version)
        (parent-below (space_of p.spaces) (version_of p.versions) r.counters.next_version) p.versions (ruled_versions p r.counters.next_version r.versions).each)

-- ---- versions that nothing names

-- a version above all others is free
free_above : (p : Parts) (number : ℕ) → keep_rules p ≡ true → AllBelow number (newest_first p.versions) → IsFree p number
free_above p number e below = record {
  kept = λ n making x found. apart x.version (version_there (version_of p.versions) x.version n (saved_there p e n making x found).version);
  kept_bases = λ n making x some found. apart x.base_version (saved_base_there p e n making x some found);
  births = λ n r some found. apart r.birth_version (version_there (version_of p.versions) r.birth_version r.parent (bases_there p e n r some found).birth);
  bases = λ n r some found. apart r.base_version (version_there (version_of p.versions) r.base_version r.parent (bases_there p e n r some found).base);
}
  where
    apart : (v : ℕ) → is_some (version_of p.versions v) ≡ true → (v == number) ≡ false
    apart v there = less_apart v number (version_below p e number below v there)

-- so is the version that was just made
pub free_new : (p : Parts) (old new : Counters) (a : Space) (n : ℕ) (v : Version) → MayFork p old new a n v → keep_rules p ≡ true → IsFree (forked p new v) v.number
free_new p old new a n v may e =
    let free = free_above p v.number e (forked_of p old new a n v may e).below in
    record { kept = free.kept; kept_bases = free.kept_bases; births = free.births; bases = free.bases }
