-- The way down a path, gone on from version to version.
use Rattle.std.proofs.Common.{◌≡◌, ℕ, ◌<◌, ◌≤◌, ◌++◌, cond, List, [], ◌∷◌, None, refl, ap, ◌∙◌, subst, arith}
use Rattle.std.specs.List.{AllByRecursion}
use Rattle.wm_graph.specs.Parts.{as_piece, parts_of}
use Rattle.wm_records.proofs.Descending.{is_on}
use Rattle.wm_version_rows.proofs.Rising.{all_last, last_newest}
use Rattle.wm_image.specs.Shown.{first_held}
use Rattle.wm_version_rows.specs.Laying.{entry_held}
use Rattle.wm_ids.specs.Versioned.{VersionsFrom, VersionsRise}
use Rattle.wm_ids.specs.declared.versioned.Versioned.{Versioned}
use Rattle.wm_index.specs.Kinds.{kind_at}
use Rattle.wm_spec.specs.declared.record.stored.Stored.{Stored}
use Rattle.wm_spec.specs.declared.record.version.Version.{Version}
use Rattle.wm_state.specs.Standing.{newest_first}
use Rattle.wm_tree.specs.Versions.{path_in}

-- those of the entries that stand on the path of the one stand on that of the other
abbrev pub SamePath : List Version → ℕ → ℕ → List Versioned → Type 0
SamePath vs at top es = AllByRecursion (λ (d : Versioned). is_on vs d.version at ≡ is_on vs d.version top) es

pub same_path : (vs : List Version) (top : ℕ) (es : List Versioned) → SamePath vs top top es
same_path vs top [] = tt
same_path vs top (e ∷ es) = (refl, same_path vs top es)

further : (vs : List Version) (old new top bound : ℕ) (es : List Versioned) → ((v : ℕ) → v ≤ bound → is_on vs v new ≡ is_on vs v old) → AllByRecursion (λ (d : Versioned). d.version < bound) es
    → SamePath vs old top es → SamePath vs new top es
further vs old new top bound [] down below same = tt
further vs old new top bound (e ∷ es) down below same =
    let older = below.0 in (down e.version (omega (arith, older)) ∙ same.0, further vs old new top bound es down below.1 same.1)

-- the way has come to the last entry: what is left stands on the rest of it as before
pub onward : (vs : List Version) (old new top : ℕ) (es rest : List Versioned) (e : Versioned) → es ≡ rest ++ e ∷ [] → VersionsRise es → ((v : ℕ) → v ≤ e.version → is_on vs v new ≡ is_on vs v old)
    → SamePath vs old top es → VersionsRise rest × SamePath vs new top rest × (is_on vs e.version new ≡ is_on vs e.version top)
onward vs old new top es rest e is up down same =
    let newest = last_newest 0 rest e (subst (VersionsFrom 0) is up) in
    let both = all_last (λ (d : Versioned). is_on vs d.version old ≡ is_on vs d.version top) rest e (subst (SamePath vs old top) is same) in
    (newest.2, further vs old new top e.version rest down newest.1 both.0, down e.version (omega arith) ∙ both.1)

-- an entry holds the same on paths on which its version stands alike
pub held_alike : (ss : List Stored) (at top : ℕ) (e : Versioned) (t : ℕ) → is_on (parts_of ss).versions e.version at ≡ is_on (parts_of ss).versions e.version top
    → entry_held ss (path_in (newest_first (parts_of ss).versions) at) e t ≡ entry_held ss (path_in (newest_first (parts_of ss).versions) top) e t
held_alike ss at top e t same = ap (λ b. cond b (first_held (kind_at as_piece ss e.ids) e.version t) None) same
