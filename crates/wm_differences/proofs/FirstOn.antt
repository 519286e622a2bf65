-- The first version of a workspace on a path, one version after another.
use Rattle.std.proofs.Common.{◌≡◌, ◌≢◌, ◌<◌, ◌==◌, ℕ, Bool, true, false, cond, List, [], ◌∷◌, Some, None, is_some, refl, sym, ap, ◌∙◌, ◌⊎◌, inl, inr, arith}
use Rattle.std.proofs.lemmas.Bool.{cases_eq, eq-eqb, ne_eqb}
use Rattle.std.proofs.lemmas.Option.{same_Some}
use Rattle.std.specs.Option.{option_map}
use Rattle.wm_graph.specs.Parts.{Parts, version_of}
use Rattle.wm_graph.specs.Rules.{keep_rules}
use Rattle.wm_records.proofs.Paths.{ruled}
use Rattle.wm_spec.specs.declared.record.version.Version.{Version}
use Rattle.wm_state.proofs.FirstIn.{first-beside}
use Rattle.wm_state.proofs.Named.{among-below}
use Rattle.wm_state.specs.Standing.{first_in, newest_first, node_of}
use Rattle.wm_tree.proofs.Paths.{found}
use Rattle.wm_tree.specs.Versions.{IsTree, version_in}
use Rattle.wm_tree.specs.declared.version.Version.{Version as Node}

-- a version that is there is the first, or the first is that of its parent
first_on : (nodes : List Node) (space n : ℕ) (y : Node) → IsTree nodes → version_in nodes n ≡ Some y → first_in nodes space n ≡ cond (y.space == space) (Some n) (first_in nodes space y.parent)
first_on [] space n y tree there = cc
first_on (x ∷ older) space n y tree there = by_number (cases_eq x.number n) (first_on older space n y tree.3)
  where
    y_parent : y.parent < n
    y_parent = (found (x ∷ older) n y tree there).parent

    here : x.number ≡ n → x ≡ y → first_in (x ∷ older) space n ≡ cond (y.space == space) (Some n) (first_in (x ∷ older) space y.parent)
    here at same =
        ap (λ b. cond b (cond (x.space == space) (Some n) (first_in older space x.parent)) (first_in older space n)) (eq-eqb x.number n at)
        ∙ ap (λ (z : Node). cond (z.space == space) (Some n) (first_in older space z.parent)) same
        ∙ ap (cond (y.space == space) (Some n)) (sym (first-beside x older space y.parent (omega (arith, y_parent, at))))

    by_number : (x.number ≡ n) ⊎ (x.number ≢ n) → (version_in older n ≡ Some y → first_in older space n ≡ cond (y.space == space) (Some n) (first_in older space y.parent))
        → first_in (x ∷ older) space n ≡ cond (y.space == space) (Some n) (first_in (x ∷ older) space y.parent)
    by_number (inl at) rest = here at (same_Some x y (sym (ap (λ b. cond b (Some x) (version_in older n)) (eq-eqb x.number n at)) ∙ there))
    by_number (inr away) rest =
        let behind : version_in older n ≡ Some y = sym (ap (λ b. cond b (Some x) (version_in older n)) (ne_eqb x.number n away)) ∙ there in
        let less : n < x.number = among-below older x.number n tree.1 (ap is_some behind) in
        first-beside x older space n less
        ∙ rest behind
        ∙ ap (cond (y.space == space) (Some n)) (sym (first-beside x older space y.parent (omega (arith, y_parent, less))))

none_on : (nodes : List Node) (space n : ℕ) → version_in nodes n ≡ None → first_in nodes space n ≡ None
none_on [] space n none = refl
none_on (x ∷ older) space n none = by_number (x.number == n) none (none_on older space n)
  where
    by_number : (b : Bool) → cond b (Some x) (version_in older n) ≡ None → (version_in older n ≡ None → first_in older space n ≡ None)
        → cond b (cond (x.space == space) (Some n) (first_in older space x.parent)) (first_in older space n) ≡ None
    by_number true e rest = cc
    by_number false e rest = rest e

-- by the records
pub first_goes_on : (p : Parts) (space n : ℕ) (v : Version) → keep_rules p ≡ true → version_of p.versions n ≡ Some v
    → (first_in (newest_first p.versions) space n ≡ cond (v.space == space) (Some n) (first_in (newest_first p.versions) space v.parent)) × (v.parent < n)
first_goes_on p space n v rules is =
    let r = ruled p rules in
    let here : version_in (newest_first p.versions) n ≡ Some (node_of v) = r.same n ∙ ap (option_map node_of) is in
    (first_on (newest_first p.versions) space n (node_of v) r.tree here, (found (newest_first p.versions) n (node_of v) r.tree here).parent)

pub first_ends : (p : Parts) (space n : ℕ) → keep_rules p ≡ true → version_of p.versions n ≡ None → first_in (newest_first p.versions) space n ≡ None
first_ends p space n rules is = none_on (newest_first p.versions) space n ((ruled p rules).same n ∙ ap (option_map node_of) is)

pub first_here : (p : Parts) (space n : ℕ) (v : Version) → keep_rules p ≡ true → Some v ≡ version_of p.versions n → v.space ≡ space → Some n ≡ first_in (newest_first p.versions) space n
first_here p space n v rules is same =
    sym ((first_goes_on p space n v rules (sym is)).0 ∙ ap (λ b. cond b (Some n) (first_in (newest_first p.versions) space v.parent)) (eq-eqb v.space space same))

pub first_further : (p : Parts) (space n : ℕ) (v : Version) → keep_rules p ≡ true → Some v ≡ version_of p.versions n → v.space ≢ space
    → first_in (newest_first p.versions) space v.parent ≡ first_in (newest_first p.versions) space n
first_further p space n v rules is other =
    sym ((first_goes_on p space n v rules (sym is)).0 ∙ ap (λ b. cond b (Some n) (first_in (newest_first p.versions) space v.parent)) (ne_eqb v.space space other))
