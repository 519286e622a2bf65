-- The first version of a workspace on a path.
use Rattle.std.proofs.Common.{◌≡◌, ◌≢◌, ℕ, ◌<◌, ◌==◌, Bool, true, false, cond, List, [], ◌∷◌, Option, Some, None, is_some, refl, sym, ap, ◌∙◌, arith}
use Rattle.std.proofs.lemmas.Bool.{eq-eqb, ne_eqb, eqb-true, true≢false}
use Rattle.std.proofs.lemmas.Option.{same_Some, none-some}
use Rattle.std.specs.Option.{option_map, option_map_or}
use Rattle.wm_graph.specs.Parts.{Parts, version_of}
use Rattle.wm_graph.specs.Rules.{keep_rules, is_version_of}
use Rattle.wm_spec.specs.declared.record.version.Version.{Version}
use Rattle.wm_tree.specs.Versions.{version_in, AllBelow}
use Rattle.wm_tree.specs.declared.version.Version.{Version as Node}
use Rattle.wm_state.specs.Standing.{node_of, newest_first, first_in}
use Rattle.wm_state.specs.Effects.{IsLeaf}
use Rattle.wm_state.proofs.Newest.{Descend, below-apart, version_in-newest}
use Rattle.wm_state.proofs.Apart.{ruled, ruled_versions}
use Rattle.wm_state.proofs.Named.{among-below}

-- ---- a version of a workspace

-- the version is among these, and is one of the workspace
pub record IsOf (nodes : List Node) (version space : ℕ) : Type 0 where
  pub node : Node
  pub found : version_in nodes version ≡ Some node
  pub is : node.space ≡ space

-- so it is of a version that the rules speak of
pub ruled_of : (p : Parts) → keep_rules p ≡ true → (version space : ℕ) → is_version_of (version_of p.versions) version space ≡ true → IsOf (newest_first p.versions) version space
ruled_of p rules version space is =
    by_version (version_of p.versions version) (version_in-newest p.versions (ruled_versions p (ruled p rules).counters.next_version (ruled p rules).versions).numbers version) is
  where
    by_version : (o : Option Version) → version_in (newest_first p.versions) version ≡ option_map node_of o → option_map_or (λ (v : Version). v.space == space) o false ≡ true → IsOf (newest_first p.versions) version space
    by_version None found h = absurd (true≢false (sym h))
    by_version (Some v) found h = record { node = node_of v; found = found; is = eqb-true v.space space h }

-- it is below what all are below
pub of-below : (nodes : List Node) (n version space : ℕ) → AllBelow n nodes → IsOf nodes version space → version < n
of-below nodes n version space below is = among-below nodes n version below (ap is_some is.found)

-- one of before, where a version came on top, is one still, and one of after that is below is one of before
pub of-more : (x : Node) (older : List Node) (version space : ℕ) → (x.number == version) ≡ false → IsOf older version space → IsOf (x ∷ older) version space
of-more x older version space away is = record { node = is.node; found = ap (λ b. cond b (Some x) (version_in older version)) away ∙ is.found; is = is.is }

-- ---- what is first

-- a version is the first of its own workspace on its path
pub first-itself : (nodes : List Node) (version space : ℕ) → IsOf nodes version space → first_in nodes space version ≡ Some version
first-itself [] version space is = absurd (none-some is.node is.found)
first-itself (x ∷ older) version space is = by_number (x.number == version) refl is.found (first-itself older version space)
  where
    by_number : (b : Bool) → (x.number == version) ≡ b → cond b (Some x) (version_in older version) ≡ Some is.node → (IsOf older version space → first_in older space version ≡ Some version)
        → cond b (cond (x.space == space) (Some version) (first_in older space x.parent)) (first_in older space version) ≡ Some version
    by_number true e found rest = ap (λ b. cond b (Some version) (first_in older space x.parent)) (eq-eqb _ _ (ap (λ (y : Node). y.space) (same_Some x is.node found) ∙ is.is))
    by_number false e found rest = rest (record { node = is.node; found = found; is = is.is })

-- what is first is a version of the workspace
pub first-of : (nodes : List Node) → Descend nodes → (space version first : ℕ) → first_in nodes space version ≡ Some first → IsOf nodes first space
first-of [] down space version first found = cc
first-of (x ∷ older) down space version first found =
    by_test (x.number == version) (x.space == space) refl refl found (first-of older down.1 space x.parent first) (first-of older down.1 space version first)
  where
    more : IsOf older first space → IsOf (x ∷ older) first space
    more is = of-more x older first space (ne_eqb _ _ (λ same. below-apart x.number older first is.node down.0 is.found (sym same))) is

    by_test : (a b : Bool) → (x.number == version) ≡ a → (x.space == space) ≡ b → cond a (cond b (Some version) (first_in older space x.parent)) (first_in older space version) ≡ Some first
        → (first_in older space x.parent ≡ Some first → IsOf older first space) → (first_in older space version ≡ Some first → IsOf older first space) → IsOf (x ∷ older) first space
    by_test true true e h is up along =
        record { node = x; found = ap (λ b. cond b (Some x) (version_in older first)) (eq-eqb _ _ (eqb-true x.number version e ∙ same_Some version first is)); is = eqb-true x.space space h }
    by_test true false e h is up along = more (up is)
    by_test false b e h is up along = more (along is)

-- where something is first, the version itself is there
pub first-below : (nodes : List Node) (n space version first : ℕ) → AllBelow n nodes → first_in nodes space version ≡ Some first → version < n
first-below [] n space version first below found = cc
first-below (x ∷ older) n space version first below found = by_number (x.number == version) refl found (first-below older n space version first below.1)
  where
    by_number : (b : Bool) → (x.number == version) ≡ b → cond b (cond (x.space == space) (Some version) (first_in older space x.parent)) (first_in older space version) ≡ Some first
        → (first_in older space version ≡ Some first → version < n) → version < n
    by_number true e is rest = omega (arith, eqb-true x.number version e, below.0)
    by_number false e is rest = rest is

-- ---- with a version more on top

-- nothing else is first for a version of before
pub first-beside : (x : Node) (older : List Node) (space version : ℕ) → version < x.number → first_in (x ∷ older) space version ≡ first_in older space version
first-beside x older space version lt = rw (ne_eqb x.number version (λ same. omega (arith, lt, same))) refl

-- and for the new one, among the versions of another workspace, what is first for its parent
pub first-under : (x : Node) (older : List Node) (space : ℕ) → x.space ≢ space → first_in (x ∷ older) space x.number ≡ first_in older space x.parent
first-under x older space other = rw (eq-eqb x.number x.number refl, ne_eqb _ _ other) refl

-- ---- what is first above a version is no leaf

first-parent : (leaf : ℕ) (nodes : List Node) (space version first : ℕ) → IsLeaf leaf nodes → (version == leaf) ≡ false → first_in nodes space version ≡ Some first → (first == leaf) ≡ false
first-parent leaf [] space version first above away found = cc
first-parent leaf (x ∷ older) space version first above away found =
    by_test (x.number == version) (x.space == space) found (first-parent leaf older space x.parent first above.1 above.0) (first-parent leaf older space version first above.1 away)
  where
    by_test : (a b : Bool) → cond a (cond b (Some version) (first_in older space x.parent)) (first_in older space version) ≡ Some first
        → (first_in older space x.parent ≡ Some first → (first == leaf) ≡ false) → (first_in older space version ≡ Some first → (first == leaf) ≡ false) → (first == leaf) ≡ false
    by_test true true is up along = ap (λ k. k == leaf) (sym (same_Some version first is)) ∙ away
    by_test true false is up along = up is
    by_test false b is up along = along is

-- the first one of another workspace stands above some version
pub first-apart : (leaf : ℕ) (nodes : List Node) (n space version first : ℕ) → IsLeaf leaf nodes → n ≢ space → IsOf nodes version n → first_in nodes space version ≡ Some first → (first == leaf) ≡ false
first-apart leaf [] n space version first above other is found = cc
first-apart leaf (x ∷ older) n space version first above other is found =
    by_number (x.number == version) is.found found (first-apart leaf older n space version first above.1 other)
  where
    by_number : (b : Bool) → cond b (Some x) (version_in older version) ≡ Some is.node → cond b (cond (x.space == space) (Some version) (first_in older space x.parent)) (first_in older space version) ≡ Some first
        → (IsOf older version n → first_in older space version ≡ Some first → (first == leaf) ≡ false) → (first == leaf) ≡ false
    by_number true there got rest =
        first-parent leaf older space x.parent first above.1 above.0
        (ap (λ b. cond b (Some version) (first_in older space x.parent)) (sym (ne_eqb _ _ (λ same. other (sym is.is ∙ ap (λ (y : Node). y.space) (sym (same_Some x is.node there)) ∙ same)))) ∙ got)
    by_number false there got rest = rest (record { node = is.node; found = there; is = is.is }) got
