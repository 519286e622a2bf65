-- A key of a table, and the order of such.
use Rattle.std.specs.Prelude.{ℕ, ◌≡◌, ◌&&◌, ◌==◌, Bool, if◌then◌else◌, List, [], ◌∷◌}
use Rattle.std.specs.List.{list_any}
use Rattle.std.specs.Ordering.{nat_cmp, ordering_then, is_eq, is_lt}
use Rattle.std.specs.declared.cmp.Ordering.{Ordering}
use Rattle.std.specs.declared.cmp.Ordering.TheVariants.{Less}
use Rattle.wm_base.specs.Key.{key_order}
use Rattle.wm_base.specs.declared.value.Value.{Value}
use Rattle.wm_spec.specs.Lists.{Entry, Cell}

-- a key of a table
pub record Group : Type 0 where
  pub table : ℕ
  pub key : List Value

-- the key of the table that an entry is of
abbrev pub group_of : Entry → Group
group_of e = record { table = e.table; key = e.key }

-- the cell of it at a moment
abbrev pub cell : Group → ℕ → Cell
cell g t = record { table = g.table; key = g.key; time = t }

-- the key of the table that a cell is of
abbrev pub of_cell : Cell → Group
of_cell c = record { table = c.table; key = c.key }

-- table by table, and in each key by key
abbrev pub group_order : Group → Group → Ordering
group_order g h = ordering_then (nat_cmp g.table h.table) (key_order g.key h.key)

-- the two are one
abbrev pub same_group : Group → Group → Bool
same_group g h = (g.table == h.table) && is_eq (key_order g.key h.key)

-- the groups with one more, ascending, each once
abbrev pub group_in : Group → List Group → List Group
group_in g [] = g ∷ []
group_in g (h ∷ hs) =
    if is_lt (group_order g h) then g ∷ h ∷ hs else (if is_eq (group_order g h) then h ∷ hs else h ∷ group_in g hs)

-- the groups of the entries, ascending
abbrev pub groups : List Entry → List Group
groups [] = []
groups (e ∷ es) = group_in (group_of e) (groups es)

-- the group is one of these
abbrev pub has_group : Group → List Group → Bool
has_group g gs = list_any (λ h. same_group h g) gs

-- the group comes before all of these
abbrev pub Precedes : Group → List Group → Type 0
Precedes g [] = Unit {0}
Precedes g (h ∷ hs) = (group_order g h ≡ Less) × Precedes g hs

-- the groups ascend, each once
abbrev pub GroupsAscend : List Group → Type 0
GroupsAscend [] = Unit {0}
GroupsAscend (g ∷ gs) = Precedes g gs × GroupsAscend gs
