-- The way down a path: what stands on it is still before one who passes over newer versions.
use Rattle.std.proofs.Common.{◌≡◌, ◌≢◌, ◌<◌, ◌≤◌, ◌||◌, ℕ, Bool, nat_eq, List, Option, Some, None, is_some, refl, sym, ap, ◌∙◌, arith}
use Rattle.std.proofs.lemmas.Bool.{eq-eqb, ne_eqb}
use Rattle.std.specs.List.{list_any}
use Rattle.wm_graph.specs.Parts.{version_of}
use Rattle.wm_spec.specs.declared.record.version.Version.{Version}
use Rattle.wm_state.specs.Standing.{newest_first}
use Rattle.wm_tree.proofs.Paths.{not_on_path, path_in-none, version_in-zero}
use Rattle.wm_tree.specs.Versions.{path_in}
use Rattle.wm_records.proofs.Paths.{Ruled, path_goes_on, path_ends}

-- whether a version stands on the path of another
abbrev pub is_on : List Version → ℕ → ℕ → Bool
is_on vs sought n = list_any (nat_eq sought) (path_in (newest_first vs) n)

-- a version that is passed over is not what is sought
pub passed : (vs : List Version) (n sought : ℕ) (v : Version) → Ruled vs → version_of vs n ≡ Some v → sought < n → is_on vs sought v.parent ≡ is_on vs sought n
passed vs n sought v r is newer =
    sym
    (ap (list_any (nat_eq sought)) (path_goes_on vs n v r is).0
    ∙ ap (λ b. b || is_on vs sought v.parent) (ne_eqb sought n (λ same. absurd (omega (arith, newer, same)))))

-- nothing stands on a path that has ended
pub ended : (vs : List Version) (n sought : ℕ) → Ruled vs → version_of vs n ≡ None → is_on vs sought 0 ≡ is_on vs sought n
ended vs n sought r none =
    ap (list_any (nat_eq sought)) (path_in-none (newest_first vs) 0 (version_in-zero (newest_first vs) r.tree))
    ∙ sym (ap (list_any (nat_eq sought)) (path_ends vs n r none))

-- the way down has come to what is sought
pub reached : (vs : List Version) (n sought : ℕ) → Ruled vs → sought ≡ n → is_some (version_of vs n) ≡ is_on vs sought n
reached vs n sought r same = by_there (version_of vs n) refl
  where
    by_there : (o : Option Version) → version_of vs n ≡ o → is_some o ≡ is_on vs sought n
    by_there None none = sym (ap (list_any (nat_eq sought)) (path_ends vs n r none))
    by_there (Some v) is =
        sym (ap (list_any (nat_eq sought)) (path_goes_on vs n v r is).0 ∙ ap (λ b. b || is_on vs sought v.parent) (eq-eqb sought n same))

-- the way down has passed where it would be
pub missed : (vs : List Version) (n sought : ℕ) → Ruled vs → n ≤ sought → sought ≢ n → nat_eq sought n ≡ is_on vs sought n
missed vs n sought r down other = ne_eqb sought n other ∙ sym (not_on_path (newest_first vs) n sought r.tree (omega (arith, down, other)))
