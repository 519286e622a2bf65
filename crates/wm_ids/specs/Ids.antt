-- Lists of ids, and what stands under a key, a table, a position or a workspace.
use Rattle.std.specs.Prelude.{ℕ, Bool, true, false, not, ◌&&◌, ◌==◌, nat_le, if◌then◌else◌, List, [], ◌∷◌, Option, Some, None, map, option_map, unwrap_or}
use Rattle.std.specs.BTreeMap.{BTreeMap, is_at}
use Rattle.std.specs.BTreeSet.{BTreeSet, insert_key}
use Rattle.std.specs.Bool.{then_some}
use Rattle.std.specs.List.{filter}
use Rattle.std.specs.Map.{lookup}
use Rattle.std.specs.Option.{option_or}
use Rattle.std.specs.Ordering.{nat_cmp, ordering_then}
use Rattle.std.specs.declared.cmp.Ordering.{Ordering}
use Rattle.wm_base.specs.Key.{key_order}
use Rattle.wm_base.specs.declared.value.Value.{Value}

-- an id among ascending ones, where it stands once
abbrev pub placed : ℕ → List ℕ → List ℕ
placed id xs = insert_key nat_cmp xs id

-- the ids without one
abbrev pub without : ℕ → List ℕ → List ℕ
without id [] = []
without id (x ∷ xs) = if x == id then xs else x ∷ without id xs

-- what a look-up of ids found
abbrev pub ids_found : Option (List ℕ) → List ℕ
ids_found found = unwrap_or found []

-- the ids under a key
abbrev pub ids_in : {K : Type 0} → (K → K → Ordering) → List (K × List ℕ) → K → List ℕ
ids_in cmp entries key = ids_found (lookup (is_at (cmp key)) entries)

-- the ids of the set that a look-up found
abbrev pub set_found : Option (BTreeSet ℕ) → List ℕ
set_found found = unwrap_or (option_map (λ s. s.keys) found) []

-- the ids of the set under a key
abbrev pub ids_among : {K : Type 0} → (K → K → Ordering) → List (K × BTreeSet ℕ) → K → List ℕ
ids_among cmp entries key = set_found (lookup (is_at (cmp key)) entries)

-- by a workspace, and in it by a position, a number or a table
abbrev pub pair_order : ℕ × ℕ → ℕ × ℕ → Ordering
pair_order a b = ordering_then (nat_cmp a.0 b.0) (nat_cmp a.1 b.1)

-- by a workspace, in it by a position, and there by an id
abbrev pub triple_order : ℕ × ℕ × ℕ → ℕ × ℕ × ℕ → Ordering
triple_order a b = ordering_then (ordering_then (nat_cmp a.0 b.0) (nat_cmp a.1 b.1)) (nat_cmp a.2 b.2)

-- the ids at a position of a workspace
abbrev pub ids_at_position : List (ℕ × ℕ × ℕ) → ℕ × ℕ → List ℕ
ids_at_position places q = map (λ (e : ℕ × ℕ × ℕ). e.2) (filter (λ (e : ℕ × ℕ × ℕ). (e.0 == q.0) && (e.1 == q.1)) places)

-- the ids at a position of a workspace or behind it
abbrev pub ids_since : List (ℕ × ℕ × ℕ) → ℕ → ℕ → List ℕ
ids_since places space from = map (λ (e : ℕ × ℕ × ℕ). e.2) (filter (λ (e : ℕ × ℕ × ℕ). (e.0 == space) && nat_le from e.1) places)

-- the ids by key of a table
abbrev pub Keyed : Type 0
Keyed = BTreeMap (List Value) (List ℕ)

-- the ids by number of a workspace
abbrev pub Numbered : Type 0
Numbered = BTreeMap ℕ (List ℕ)

-- what stands under a table or a workspace, by key or number
abbrev pub keyed_at : {K : Type 0} → {V : Type 0} → List (ℕ × BTreeMap K V) → ℕ → List (K × V)
keyed_at maps place = unwrap_or (option_map (λ m. m.entries) (lookup (is_at (nat_cmp place)) maps)) []

-- the ids under a table and a key
abbrev pub piece_ids : List (ℕ × Keyed) → ℕ → List Value → List ℕ
piece_ids tables table key = ids_in key_order (keyed_at tables table) key

-- the ids under a workspace and a number
abbrev pub number_ids : List (ℕ × Numbered) → ℕ → ℕ → List ℕ
number_ids spaces space number = ids_in nat_cmp (keyed_at spaces space) number

-- the first id
abbrev pub head_of : List ℕ → Option ℕ
head_of [] = None
head_of (id ∷ ids) = Some id

-- there are none
abbrev pub is_nil : List ℕ → Bool
is_nil [] = true
is_nil (x ∷ xs) = false

-- the last key that has ids
abbrev pub last_used : {K : Type 0} → List (K × List ℕ) → Option K
last_used [] = None
last_used (e ∷ es) = option_or (last_used es) (then_some (not (is_nil e.1)) e.0)
