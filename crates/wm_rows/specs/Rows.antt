-- What versions store and see.
use Rattle.std.specs.Prelude.{ℕ, ◌==◌, Bool, if◌then◌else◌, List, [], ◌∷◌, Option, None, IsSome, unwrap_or}
use Rattle.std.specs.BTreeMap.{is_at}
use Rattle.std.specs.Map.{lookup}
use Rattle.std.specs.Option.{option_or}
use Rattle.std.specs.Ordering.{nat_cmp, ordering_then, is_eq}
use Rattle.std.specs.declared.cmp.Ordering.{Ordering}
use Rattle.wm_base.specs.Key.{key_order}
use Rattle.wm_base.specs.declared.value.Value.{Value}
use Rattle.wm_period.specs.Pieces.{Held, held_at}
use Rattle.wm_period.specs.declared.piece.Piece.{Piece}
use Rattle.wm_rows.specs.Maps.{map_at}
use Rattle.wm_rows.specs.declared.row_key.RowKey.{RowKey}
use Rattle.wm_tree.specs.Versions.{path_in}
use Rattle.wm_tree.specs.declared.version.Version.{Version}

-- the order of rows: by table, and within one by key
abbrev pub row_order : RowKey → RowKey → Ordering
row_order p q = ordering_then (nat_cmp p.table q.table) (key_order p.key q.key)

-- both are one row
abbrev pub is_same : RowKey → RowKey → Bool
is_same p q = is_eq (row_order p q)

-- the pieces of each row that one version stores, in the order of the rows
abbrev pub Groups : Type 0
Groups = List (RowKey × List Piece)

-- what each version stores, in the order of their numbers
abbrev pub Layers : Type 0
Layers = List (ℕ × Groups)

-- the pieces of a row, where some are stored
abbrev pub group_in : Groups → RowKey → Option (List Piece)
group_in groups row = lookup (is_at (row_order row)) groups

-- the pieces of a row
abbrev pub pieces_in : Groups → RowKey → List Piece
pieces_in groups row = unwrap_or (group_in groups row) []

-- what a version stores
abbrev pub groups_in : Layers → ℕ → Groups
groups_in layers version = map_at layers version

-- the pieces of a row that a version stores, where it stores some
abbrev pub group_of : Layers → ℕ → RowKey → Option (List Piece)
group_of layers version row = group_in (groups_in layers version) row

-- what a version itself stores of a row at a moment
abbrev pub stored : Layers → ℕ → RowKey → ℕ → Option Held
stored layers version row t = held_at (pieces_in (groups_in layers version) row) t

-- what the first of some versions that stores something there stores of a row at a moment
abbrev pub nearest : Layers → List ℕ → RowKey → ℕ → Option Held
nearest layers [] row t = None
nearest layers (version ∷ versions) row t = option_or (stored layers version row t) (nearest layers versions row t)

-- what a version holds of a row at a moment: what the nearest version on its path stores there
abbrev pub seen_in : List Version → Layers → ℕ → RowKey → ℕ → Option Held
seen_in tree layers version row t = nearest layers (path_in tree version) row t

-- the versions before one
abbrev pub above : ℕ → List ℕ → List ℕ
above base [] = []
above base (version ∷ versions) = (if version == base then [] else version ∷ above base versions)

-- the same of the path above a base version, of which the base is not
abbrev pub own_in : List Version → Layers → ℕ → ℕ → RowKey → ℕ → Option Held
own_in tree layers version base row t = nearest layers (above base (path_in tree version)) row t

-- some version stores something of a key at some moment
abbrev pub IsStored : Layers → ℕ → List Value → Type 0
IsStored layers table key = (version : ℕ) × (t : ℕ) × IsSome (stored layers version (record { table = table; key = key }) t)
