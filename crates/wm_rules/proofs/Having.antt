-- The workspaces that have a version, one version after another.
use Rattle.std.proofs.Common.{◌≡◌, ℕ, ◌+◌, ◌<◌, ◌==◌, Bool, true, false, ◌||◌, if◌then◌else◌, List, [], ◌∷◌, length, refl, take, get_or}
use Rattle.std.proofs.lemmas.List.Folds.{list_any-append}
use Rattle.std.specs.BTreeMap.{is_at}
use Rattle.std.specs.BTreeSet.{BTreeSet, contains}
use Rattle.std.specs.Ordering.{nat_cmp}
use Rattle.wm_cells.proofs.Finding.{at_nat}
use Rattle.wm_cells.proofs.Referring.{referred_more}
use Rattle.wm_cells.specs.Lookups.{referred}
use Rattle.wm_graph.specs.Parts.{has_version}
use Rattle.wm_spec.specs.declared.record.version.Version.{Version}
use denote.Ref.{Bor}

pub spaces_more : (xs : List (Bor Version)) (i : ℕ) (d : Bor Version) (old new : BTreeSet ℕ) → i < length xs → ((n : ℕ) → contains nat_cmp old n ≡ has_version (referred (take i xs)) n) → ((n : ℕ) → contains nat_cmp new n ≡ (if is_at (nat_cmp (get_or xs i d).now.space) n then true else contains nat_cmp old n)) → (n : ℕ) → contains nat_cmp new n ≡ has_version (referred (take (i + 1) xs)) n
spaces_more xs i d old new within before update n =
    rw (referred_more xs i d within, list_any-append (λ (v : Version). v.space == n) (referred (take i xs)) ((get_or xs i d).now ∷ []), update n, at_nat (get_or xs i d).now.space n)
    (rw (before n) (one_more ((get_or xs i d).now.space == n) (has_version (referred (take i xs)) n)))
  where
    one_more : (b c : Bool) → (if b then true else c) ≡ (c || (b || false))
    one_more true true = refl
    one_more true false = refl
    one_more false true = refl
    one_more false false = refl
