-- The pieces of tables and keys, version by version.
use Rattle.std.specs.Prelude.{ℕ, zero, suc, ◌≡◌, ◌≤◌, ◌==◌, ◌&&◌, min, max, Bool, true, false, if◌then◌else◌, List, [], ◌∷◌, Option, Some, None, option_map, unwrap_or}
use Rattle.std.specs.BTreeMap.{BTreeMap, is_at}
use Rattle.std.specs.List.{AllByRecursion}
use Rattle.std.specs.Map.{lookup}
use Rattle.std.specs.Option.{option_and_then}
use Rattle.std.specs.Ordering.{is_eq}
use Rattle.std.specs.declared.alloc.Global.{Global}
use Rattle.std.specs.declared.vec.Vec.{Vec}
use Rattle.wm_base.specs.Key.{key_order}
use Rattle.wm_base.specs.declared.value.Value.{Value}
use Rattle.wm_chunks.specs.Rising.{RiseFrom}
use Rattle.wm_graph.specs.Parts.{as_piece}
use Rattle.wm_ids.specs.Ids.{keyed_at, placed, without}
use Rattle.wm_ids.specs.declared.versioned.Versioned.{Versioned}
use Rattle.wm_spec.specs.Records.{record_at}
use Rattle.wm_spec.specs.declared.record.Record.{Record}
use Rattle.wm_spec.specs.declared.record.Record.TheVariants as records
use Rattle.wm_spec.specs.declared.record.piece.PieceRecord.{PieceRecord}
use Rattle.wm_spec.specs.declared.record.stored.Stored.{Stored}

-- what each version has, by key of a table
abbrev pub Versions : Type 0
Versions = BTreeMap (List Value) (Vec Versioned Global)

-- the ids of a version
abbrev pub ids_under : List Versioned → ℕ → List ℕ
ids_under [] version = []
ids_under (e ∷ es) version = if e.version == version then e.ids else ids_under es version

-- the version that an entry is of
abbrev pub entry_version : Versioned → ℕ
entry_version e = e.version

-- the versions rise, from a bound on
abbrev pub VersionsFrom : ℕ → List Versioned → Type 0
VersionsFrom bound es = RiseFrom entry_version bound es

-- the versions rise, the newest last
abbrev pub VersionsRise : List Versioned → Type 0
VersionsRise es = VersionsFrom 0 es

-- the period of one holds that of another
abbrev pub Encloses : Versioned → Versioned → Type 0
Encloses outer inner = (outer.from ≤ inner.from) × (inner.till ≤ outer.till)

-- that of each version holds those of all older ones
abbrev pub Widens : List Versioned → Type 0
Widens [] = Unit {0}
Widens (e ∷ es) = AllByRecursion (λ (d : Versioned). Encloses d e) es × Widens es

-- the versions rise, and so do their periods
pub record AreNested (es : List Versioned) : Type 0 where
  pub rises : VersionsRise es
  pub widens : Widens es

-- what a look-up of versions found
abbrev pub versions_found : Option (Vec Versioned Global) → List Versioned
versions_found found = unwrap_or (option_map (λ v. v.items) found) []

-- the versions that have pieces of a key
abbrev pub versions_in : List (List Value × Vec Versioned Global) → List Value → List Versioned
versions_in keys key = versions_found (lookup (is_at (key_order key)) keys)

-- the versions that have pieces of a key of a table
abbrev pub versions_on : List (ℕ × Versions) → ℕ → List Value → List Versioned
versions_on tables table key = versions_in (keyed_at tables table) key

-- they do at each key
abbrev pub AllNested : List (ℕ × Versions) → Type 0
AllNested tables = (t : ℕ) (k : List Value) → AreNested (versions_on tables t k)

-- the cells of the piece under an id lie in a period
abbrev pub IsSpanned : List Stored → ℕ → ℕ → ℕ → Type 0
IsSpanned ss from till id = (r : PieceRecord) → option_and_then as_piece (record_at ss id) ≡ Some r → (from ≤ r.cells.from) × (r.cells.till ≤ till)

-- those of the pieces of each version lie in its period
abbrev pub AreSpanned : List Stored → List Versioned → Type 0
AreSpanned ss [] = Unit {0}
AreSpanned ss (e ∷ es) = AllByRecursion (IsSpanned ss e.from e.till) e.ids × AreSpanned ss es

-- they do at each key
abbrev pub AllSpanned : List Stored → List (ℕ × Versions) → Type 0
AllSpanned ss tables = (t : ℕ) (k : List Value) → AreSpanned ss (versions_on tables t k)

-- a period lies in that which another has with the cells of a piece
abbrev pub IsWithin : PieceRecord → ℕ → ℕ → Versioned → Type 0
IsWithin x from till e = (min e.from x.cells.from ≤ from) × (till ≤ max e.till x.cells.till)

-- the period of a version, with the cells of a piece
abbrev pub widened : PieceRecord → Versioned → Versioned
widened x e = record e { from = min e.from x.cells.from; till = max e.till x.cells.till }

-- those of the versions from a place on
abbrev pub widened_from : PieceRecord → ℕ → List Versioned → List Versioned
widened_from x i [] = []
widened_from x zero (e ∷ es) = widened x e ∷ widened_from x zero es
widened_from x (suc i) (e ∷ es) = e ∷ widened_from x i es

-- if there is a piece under the id, it is this one
abbrev pub IsPieceAt : List Stored → ℕ → PieceRecord → Type 0
IsPieceAt ss id x = (r : PieceRecord) → option_and_then as_piece (record_at ss id) ≡ Some r → r ≡ x

-- one of the versions has the id of a piece more
pub record HasMore (id : ℕ) (x : PieceRecord) (old new : List Versioned) : Type 0 where
  pub ids : (v : ℕ) → ids_under new v ≡ (if x.version == v then placed id (ids_under old v) else ids_under old v)
  pub nested : AreNested new
  pub spanned : (ss : List Stored) → IsPieceAt ss id x → AreSpanned ss old → AreSpanned ss new

-- one of the versions has an id no more
pub record HasLess (id version : ℕ) (old new : List Versioned) : Type 0 where
  pub ids : (v : ℕ) → ids_under new v ≡ (if version == v then without id (ids_under old v) else ids_under old v)
  pub nested : AreNested new
  pub spanned : (ss : List Stored) → AreSpanned ss old → AreSpanned ss new

-- the versions of a key are changed, or as they were
abbrev pub ChangedWhere : (List Versioned → List Versioned → Type 0) → Bool → List Versioned → List Versioned → Type 0
ChangedWhere changed true old new = changed old new
ChangedWhere changed false old new = new ≡ old

-- those of one key of one table are changed
abbrev pub ChangedOn : (List Versioned → List Versioned → Type 0) → List (ℕ × Versions) → List (ℕ × Versions) → ℕ → List Value → Type 0
ChangedOn changed old new table key = (t : ℕ) (k : List Value) → ChangedWhere changed ((table == t) && is_eq (key_order key k)) (versions_on old t k) (versions_on new t k)

-- the pieces have the id of a record more, where it is one
abbrev pub Gains : List (ℕ × Versions) → List (ℕ × Versions) → ℕ → Record → Type 0
Gains old new id (records.Piece x) = ChangedOn (HasMore id x) old new x.cells.table x.cells.key
Gains old new id _ = new ≡ old

-- the pieces have the id of a record no more, where it is one
abbrev pub Loses : List (ℕ × Versions) → List (ℕ × Versions) → ℕ → Record → Type 0
Loses old new id (records.Piece x) = ChangedOn (HasLess id x.version) old new x.cells.table x.cells.key
Loses old new id _ = new ≡ old

-- so where an id has a record
abbrev pub GainsAny : List (ℕ × Versions) → List (ℕ × Versions) → ℕ → Option Record → Type 0
GainsAny old new id None = new ≡ old
GainsAny old new id (Some r) = Gains old new id r

abbrev pub LosesAny : List (ℕ × Versions) → List (ℕ × Versions) → ℕ → Option Record → Type 0
LosesAny old new id None = new ≡ old
LosesAny old new id (Some r) = Loses old new id r
