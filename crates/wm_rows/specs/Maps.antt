-- Maps of maps, by number and then by another key.
use Rattle.std.specs.Prelude.{ℕ, List, [], map, unwrap_or}
use Rattle.std.specs.BTreeMap.{BTreeMap, is_at}
use Rattle.std.specs.Map.{lookup}
use Rattle.std.specs.Ordering.{nat_cmp}

-- what the maps tell
abbrev pub maps_of : {K X : Type 0} → List (ℕ × BTreeMap K X) → List (ℕ × List (K × X))
maps_of maps = map (λ e. (e.0, e.1.entries)) maps

-- what the map of a number tells, nothing where it has none
abbrev pub map_at : {K X : Type 0} → List (ℕ × List (K × X)) → ℕ → List (K × X)
map_at maps number = unwrap_or (lookup (is_at (nat_cmp number)) maps) []
