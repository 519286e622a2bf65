-- What the rules say of a version that a record names: its own record is there, and it is below the next one.
use Rattle.std.proofs.Common.{◌≡◌, ℕ, ◌<◌, ◌==◌, nat_lt, nat_le, Bool, true, false, ◌&&◌, cond, if◌then◌else◌, List, [], ◌∷◌, Option, Some, None, is_some, refl, sym, ap, ◌∙◌, arith}
use Rattle.std.proofs.lemmas.Bool.{eqb-true, and_parts, true≢false}
use Rattle.std.specs.List.{list_all}
use Rattle.std.specs.Option.{option_map, option_map_or}
use Rattle.wm_base.proofs.Plain.{nonzero}
use Rattle.wm_graph.specs.Parts.{Parts, space_of, version_of, has_version}
use Rattle.wm_graph.specs.Rules.{keep_rules, is_version_of, has_versions, is_base_of, is_short, is_saved_in, is_savepoint, same_savepoint, has_few, are_savepoints, differ}
use Rattle.wm_spec.specs.declared.record.savepoint.Savepoint.{Savepoint}
use Rattle.wm_spec.specs.declared.record.space.Space.{Space}
use Rattle.wm_spec.specs.declared.record.version.Version.{Version}
use Rattle.wm_tree.specs.Versions.{version_in, AllBelow}
use Rattle.wm_tree.specs.declared.version.Version.{Version as Node}
use Rattle.wm_state.specs.Standing.{node_of, newest_first, saved_as}
use Rattle.wm_state.proofs.Newest.{version_in-newest}
use Rattle.wm_state.proofs.Apart.{ruled, RuledVersions, ruled_versions, found-passes}

-- ---- savepoints

pub record RuledSavepoints (p : Parts) (work : ℕ) : Type 0 where
  pub makings : differ (λ (x y : Savepoint). x.making == y.making) p.savepoints ≡ true
  pub names : differ same_savepoint p.savepoints ≡ true
  pub few : list_all (has_few p.savepoints) p.spaces ≡ true
  pub each : list_all (is_savepoint (space_of p.spaces) (version_of p.versions) work) p.savepoints ≡ true

pub ruled_savepoints : (p : Parts) (work : ℕ) → are_savepoints p work ≡ true → RuledSavepoints p work
ruled_savepoints p work e =
    let h = and_parts (differ (λ (x y : Savepoint). x.making == y.making) p.savepoints) _ e in
    let g = and_parts (differ same_savepoint p.savepoints) _ h.1 in
    let k = and_parts (list_all (has_few p.savepoints) p.spaces) (list_all (is_savepoint (space_of p.spaces) (version_of p.versions) work) p.savepoints) g.1 in
    record { makings = h.0; names = g.0; few = k.0; each = k.1 }

-- what a savepoint that is found is, and what the record of its workspace has
pub record SavedThere (p : Parts) (n making : ℕ) (x : Savepoint) : Type 0 where
  pub space : Space
  pub found : space_of p.spaces n ≡ Some space
  pub number : space.number ≡ n
  pub in_it : x.space ≡ n
  pub made : x.making ≡ making
  pub version : is_version_of (version_of p.versions) x.version n ≡ true
  pub base : is_base_of (version_of p.versions) x.base_version space ≡ true
  pub place : nat_lt x.place space.next_place ≡ true
  pub log : nat_le x.log_length space.log_length ≡ true

all_true : {A : Type 0} (xs : List A) → list_all (λ (x : A). true) xs ≡ true
all_true [] = refl
all_true (x ∷ xs) = all_true xs

-- it has the number
pub space_number : (p : Parts) (n : ℕ) (s : Space) → space_of p.spaces n ≡ Some s → s.number ≡ n
space_number p n s found = eqb-true _ _ (found-passes (λ (x : Space). x.number == n) (λ x. true) p.spaces s found (all_true p.spaces)).0

-- a savepoint that is found is of the workspace
pub saved_space : (p : Parts) (n making : ℕ) (x : Savepoint) → saved_as p n making ≡ Some x → x.space ≡ n
saved_space p n making x found =
    eqb-true _ _ (and_parts (x.space == n) (x.making == making) (found-passes (λ (y : Savepoint). (y.space == n) && (y.making == making)) (λ y. true) p.savepoints x found (all_true p.savepoints)).0).0

pub saved_there : (p : Parts) → keep_rules p ≡ true → (n making : ℕ) (x : Savepoint) → saved_as p n making ≡ Some x → SavedThere p n making x
saved_there p rules n making x found = by_space (space_of p.spaces n) refl
    (sym (ap (λ k. option_map_or (is_saved_in (version_of p.versions) x) (space_of p.spaces k) false) in_space) ∙ (and_parts (is_short x.name && nat_le x.making _) _ passes.1).1)
  where
    passes : (((x.space == n) && (x.making == making)) ≡ true) × (is_savepoint (space_of p.spaces) (version_of p.versions) (ruled p rules).counters.work x ≡ true)
    passes = found-passes (λ (x : Savepoint). (x.space == n) && (x.making == making)) (is_savepoint (space_of p.spaces) (version_of p.versions) (ruled p rules).counters.work) p.savepoints x found
        (ruled_savepoints p (ruled p rules).counters.work (ruled p rules).savepoints).each

    in_space : x.space ≡ n
    in_space = eqb-true _ _ (and_parts (x.space == n) (x.making == making) passes.0).0

    by_space : (o : Option Space) → space_of p.spaces n ≡ o → option_map_or (is_saved_in (version_of p.versions) x) o false ≡ true → SavedThere p n making x
    by_space None is h = absurd (true≢false (sym h))
    by_space (Some s) is h =
        let g = and_parts (is_version_of (version_of p.versions) x.version s.number && is_base_of (version_of p.versions) x.base_version s) _ h in
        let v = and_parts (is_version_of (version_of p.versions) x.version s.number) (is_base_of (version_of p.versions) x.base_version s) g.0 in
        let l = and_parts (nat_lt x.place s.next_place) (nat_le x.log_length s.log_length) g.1 in
        record {
          space = s;
          found = is;
          number = space_number p n s is;
          in_it = in_space;
          made = eqb-true _ _ (and_parts (x.space == n) (x.making == making) passes.0).1;
          version = ap (is_version_of (version_of p.versions) x.version) (sym (space_number p n s is)) ∙ v.0;
          base = v.1;
          place = l.0;
          log = l.1;
        }

-- in a workspace with a parent, what a savepoint sees under its workspace's own is a version of the parent
pub saved_base : (p : Parts) (n making : ℕ) (x : Savepoint) (t : SavedThere p n making x) → 0 < n → is_version_of (version_of p.versions) x.base_version t.space.parent ≡ true
saved_base p n making x t some = sym (ap (λ b. if b then x.base_version == 0 else is_version_of (version_of p.versions) x.base_version t.space.parent) away) ∙ t.base
  where
    away : (t.space.number == 0) ≡ false
    away = ap (λ k. k == 0) t.number ∙ nonzero n some

-- ---- versions

-- a version of a workspace is there
pub version_there : (versions : ℕ → Option Version) (k space : ℕ) → is_version_of versions k space ≡ true → is_some (versions k) ≡ true
version_there versions k space e = by_version (versions k) e
  where
    by_version : (o : Option Version) → option_map_or (λ (v : Version). v.space == space) o false ≡ true → is_some o ≡ true
    by_version None h = h
    by_version (Some v) h = refl

-- so is what a savepoint sees under its workspace's own
pub saved_base_there : (p : Parts) → keep_rules p ≡ true → (n making : ℕ) (x : Savepoint) → 0 < n → saved_as p n making ≡ Some x → is_some (version_of p.versions x.base_version) ≡ true
saved_base_there p rules n making x some found =
    let t = saved_there p rules n making x found in version_there (version_of p.versions) x.base_version t.space.parent (saved_base p n making x t some)

-- what a workspace with a parent was born from, and what it sees under its own, are versions of its parent
pub record BasesThere (p : Parts) (r : Space) : Type 0 where
  pub birth : is_version_of (version_of p.versions) r.birth_version r.parent ≡ true
  pub base : is_version_of (version_of p.versions) r.base_version r.parent ≡ true

pub bases_there : (p : Parts) → keep_rules p ≡ true → (n : ℕ) (r : Space) → 0 < n → space_of p.spaces n ≡ Some r → BasesThere p r
bases_there p rules n r some found = record { birth = parents.0; base = parents.1 }
  where
    versions : RuledVersions p (ruled p rules).counters.next_version
    versions = ruled_versions p (ruled p rules).counters.next_version (ruled p rules).versions

    away : (r.number == 0) ≡ false
    away = ap (λ k. k == 0) (space_number p n r found) ∙ nonzero n some

    parents : (is_version_of (version_of p.versions) r.birth_version r.parent ≡ true) × (is_version_of (version_of p.versions) r.base_version r.parent ≡ true)
    parents = and_parts (is_version_of (version_of p.versions) r.birth_version r.parent) (is_version_of (version_of p.versions) r.base_version r.parent)
        (sym (ap (λ b. if b then (r.birth_version == 1) && (r.base_version == 0) else is_version_of (version_of p.versions) r.birth_version r.parent && is_version_of (version_of p.versions) r.base_version r.parent) away)
        ∙ (and_parts (has_version p.versions r.number) _ (found-passes (λ (x : Space). x.number == n) (has_versions (has_version p.versions) (version_of p.versions)) p.spaces r found versions.spaces).1).1)

-- the node of a version that is there is there too
node_there : (p : Parts) → keep_rules p ≡ true → (k : ℕ) → is_some (version_of p.versions k) ≡ true → is_some (version_in (newest_first p.versions) k) ≡ true
node_there p rules k there =
    ap is_some (version_in-newest p.versions (ruled_versions p (ruled p rules).counters.next_version (ruled p rules).versions).numbers k) ∙ some-map (version_of p.versions k) ∙ there
  where
    some-map : (o : Option Version) → is_some (option_map node_of o) ≡ is_some o
    some-map None = refl
    some-map (Some v) = refl

-- what is among versions that are all below is below
pub among-below : (nodes : List Node) (n k : ℕ) → AllBelow n nodes → is_some (version_in nodes k) ≡ true → k < n
among-below [] n k below there = absurd (true≢false (sym there))
among-below (x ∷ older) n k below there = by_test (x.number == k) refl there (among-below older n k below.1)
  where
    by_test : (b : Bool) → (x.number == k) ≡ b → is_some (cond b (Some x) (version_in older k)) ≡ true → (is_some (version_in older k) ≡ true → k < n) → k < n
    by_test true e h rest = omega (arith, eqb-true x.number k e, below.0)
    by_test false e h rest = rest h

-- so a version that is there is below what all versions are below
pub version_below : (p : Parts) → keep_rules p ≡ true → (n : ℕ) → AllBelow n (newest_first p.versions) → (k : ℕ) → is_some (version_of p.versions k) ≡ true → k < n
version_below p rules n below k there = among-below (newest_first p.versions) n k below (node_there p rules k there)
