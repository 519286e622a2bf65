-- The paths of versions by the rules.
use Rattle.std.proofs.Common.{◌≡◌, ◌≢◌, ◌<◌, ℕ, Bool, true, false, cond, ◌||◌, ◌==◌, nat_lt, List, [], ◌∷◌, Option, Some, None, is_some, refl, sym, ap, ◌∙◌, subst, arith, ◌⊎◌, inl, inr}
use Rattle.std.proofs.lemmas.Bool.{cases_eq, eq-eqb, ne_eqb, eqb-true, and_parts}
use Rattle.std.specs.List.{list_all}
use Rattle.std.specs.Option.{IsSome, option_map, option_map_or}
use Rattle.wm_graph.specs.Parts.{Parts, version_of, space_of}
use Rattle.wm_graph.specs.Rules.{keep_rules, is_version, is_version_of, stands_under}
use Rattle.wm_spec.specs.declared.record.space.Space.{Space}
use Rattle.wm_spec.specs.declared.record.version.Version.{Version}
use Rattle.wm_state.specs.Standing.{newest_first, node_of}
use Rattle.wm_state.proofs.Apart.{ruled_versions, ruled as all_ruled}
use Rattle.wm_tree.specs.Versions.{version_in, path_in, IsTree}
use Rattle.wm_tree.specs.declared.version.Version.{Version as Node}
use Rattle.wm_tree.proofs.Paths.{found, path_in-there, path_in-none}
use Rattle.wm_records.proofs.Newest.{Stands, AllStand, AllStand-grow, tree_of, Descends-newest, version_in-newest}

-- ---- the tree of the rules

there : (o : Option Version) (s : ℕ) → option_map_or (λ (v : Version). v.space == s) o false ≡ true → is_some o ≡ true
there None s e = cc
there (Some v) s e = refl

less_than : (m n : ℕ) → nat_lt m n ≡ true → m < n
less_than m n e = grind (arith, e)

-- a version by the rules
stands-of : (all : List Node) (spaces : ℕ → Option Space) (versions : ℕ → Option Version) (next : ℕ) (v : Version) → ((n : ℕ) → version_in all n ≡ option_map node_of (versions n))
    → is_version spaces versions next v ≡ true → Stands all (node_of v)
stands-of all spaces versions next v known rule = by_space (spaces v.space) (and_parts (nat_lt v.number next) (option_map_or (λ (s : Space). cond (v.parent == 0) (v.number == 1) (stands_under versions v s)) (spaces v.space) false) rule).1
  where
    some_node : (o : Option Version) → is_some o ≡ true → is_some (option_map node_of o) ≡ true
    some_node None e = e
    some_node (Some w) e = refl

    under_one : (a b : Bool) → (a || b) ≡ true → (a ≡ true → is_some (versions v.parent) ≡ true) → (b ≡ true → is_some (versions v.parent) ≡ true) → is_some (versions v.parent) ≡ true
    under_one true b e f g = f refl
    under_one false b e f g = g e

    by_parent : (s : Space) → (v.parent ≡ 0) ⊎ (v.parent ≢ 0) → cond (v.parent == 0) (v.number == 1) (stands_under versions v s) ≡ true → Stands all (node_of v)
    by_parent s (inl root) h =
        let one : v.number ≡ 1 = eqb-true v.number 1 (rw (eq-eqb _ _ root) at h) in
        record { named = omega (arith, one); older = λ some. absurd (some root); under = λ some. absurd (some root) }
    by_parent s (inr some) h =
        let parts = and_parts (nat_lt v.parent v.number) (is_version_of versions v.parent v.space || is_version_of versions v.parent s.parent) (rw (ne_eqb _ _ some) at h) in
        let older : v.parent < v.number = less_than v.parent v.number parts.0 in
        record {
          named = omega (arith, older);
          older = λ _. older;
          under = λ _.
              subst IsSome (sym (known v.parent))
              (some_node (versions v.parent)
              (under_one (is_version_of versions v.parent v.space) (is_version_of versions v.parent s.parent) parts.1 (there (versions v.parent) v.space) (there (versions v.parent) s.parent)));
        }

    by_space : (o : Option Space) → option_map_or (λ (s : Space). cond (v.parent == 0) (v.number == 1) (stands_under versions v s)) o false ≡ true → Stands all (node_of v)
    by_space None h = cc
    by_space (Some s) h = by_parent s (cases_eq v.parent 0) h

all_stand : (all : List Node) (spaces : ℕ → Option Space) (versions : ℕ → Option Version) (next : ℕ) → ((n : ℕ) → version_in all n ≡ option_map node_of (versions n))
    → (vs : List Version) → list_all (is_version spaces versions next) vs ≡ true → AllStand all (newest_first vs)
all_stand all spaces versions next known [] rule = tt
all_stand all spaces versions next known (v ∷ vs) rule =
    let two = and_parts (is_version spaces versions next v) (list_all (is_version spaces versions next) vs) rule in
    AllStand-grow all (node_of v) (newest_first vs) (stands-of all spaces versions next v known two.0) (all_stand all spaces versions next known vs two.1)

-- what the rules tell of versions
pub record Ruled (vs : List Version) : Type 0 where
  pub tree : IsTree (newest_first vs)
  pub same : (n : ℕ) → version_in (newest_first vs) n ≡ option_map node_of (version_of vs n)

pub ruled : (p : Parts) → keep_rules p ≡ true → Ruled p.versions
ruled p kept =
    let rules = all_ruled p kept in
    let next = rules.counters.next_version in
    let two = ruled_versions p next rules.versions in
    let known = version_in-newest p.versions two.numbers in
    record {
      tree = tree_of (newest_first p.versions) (Descends-newest p.versions two.numbers)
          (all_stand (newest_first p.versions) (space_of p.spaces) (version_of p.versions) next known p.versions two.each);
      same = known;
    }

pub path_goes_on : (vs : List Version) (n : ℕ) (v : Version) → Ruled vs → version_of vs n ≡ Some v → (path_in (newest_first vs) n ≡ n ∷ path_in (newest_first vs) v.parent) × (v.parent < n)
path_goes_on vs n v r is =
    let here : version_in (newest_first vs) n ≡ Some (node_of v) = r.same n ∙ ap (option_map node_of) is in
    (path_in-there (newest_first vs) n (node_of v) r.tree here, (found (newest_first vs) n (node_of v) r.tree here).parent)

pub path_ends : (vs : List Version) (n : ℕ) → Ruled vs → version_of vs n ≡ None → path_in (newest_first vs) n ≡ []
path_ends vs n r is = path_in-none (newest_first vs) n (r.same n ∙ ap (option_map node_of) is)
