-- What it takes to list the rows of a table.
use Rattle.std.specs.Prelude.{ℕ, ◌≡◌, Bool, true, false, ◌&&◌, ◌==◌, List, [], ◌∷◌, ◌++◌, map, Option, Some, None, if◌then◌else◌}
use Rattle.std.specs.List.{list_any, filter_map}
use Rattle.std.specs.Option.{option_and_then, option_map}
use Rattle.std.specs.Ordering.{is_eq}
use Rattle.wm_base.specs.Key.{key_order}
use Rattle.wm_base.specs.Period.{Span, overlaps, shared}
use Rattle.wm_base.specs.declared.row.Row.{Row}
use Rattle.wm_base.specs.declared.value.Value.{Value}
use Rattle.wm_base.specs.declared.value.Value.TheVariants as values
use Rattle.wm_period.specs.Pieces.{Held}
use Rattle.wm_spec.specs.Lists.{Cell, Entry, Told, told}
use Rattle.wm_spec.specs.Stretches.{Stretch, AreMaximal, KeysAscend, is_key_in, value_at}
use Rattle.wm_graph.specs.Parts.{Parts, row_of}
use Rattle.wm_spec.specs.declared.record.piece.PieceRecord.{PieceRecord}
use Rattle.wm_spec.specs.declared.record.row.RowRecord.{RowRecord}
use Rattle.wm_state.specs.Standing.{latest, seen}

-- the stamp of a row that stands, and none of one that is gone
abbrev pub standing : Held → Option ℕ
standing h = let nothing : Option ℕ = None in if h.gone then nothing else Some h.stamp.number

-- the stamp of the row that a version holds for a key at a moment
abbrev pub stamp_seen : Parts → ℕ → ℕ → List Value → ℕ → Option ℕ
stamp_seen p version table key t = option_and_then standing (seen p version (record { table = table; key = key; time = t }))

-- the same of the newest version of a workspace
abbrev pub stamp_shown : Parts → ℕ → ℕ → List Value → ℕ → Option ℕ
stamp_shown p space = stamp_seen p (latest p space)

-- the stretches of a key are the longest on which a function of the cell holds a row of one stamp
pub record AreRowsBy (f : Cell → Option Held) (table : ℕ) (key : List Value) (ss : List Stretch) : Type 0 where
  pub maximal : AreMaximal 0 ss
  pub held : (t : ℕ) → value_at ss t ≡ option_and_then standing (f (record { table = table; key = key; time = t }))

-- so for what a version holds
abbrev pub AreRowsOf : Parts → ℕ → ℕ → List Value → List Stretch → Type 0
AreRowsOf p version = AreRowsBy (seen p version)

-- what a function lists for each key, with the key, one key after another
abbrev pub listed : (List Value → List Stretch) → List (List Value) → List (List Value × Stretch)
listed f [] = []
listed f (k ∷ ks) = map (λ s. (k, s)) (f k) ++ listed f ks

-- the row that a list holds on a stretch of a key
abbrev pub row_on : List Entry → ℕ → List Value × Stretch → Option Row
row_on es table place = option_and_then (λ (t : Told). t.row) (told es (record { table = table; key = place.0; time = place.1.from }))

-- the row of a stamp
abbrev pub row_with : Parts → List Value × Stretch → Option Row
row_with p place = option_map (λ (r : RowRecord). let row : Row = record { values = r.values } in row) (row_of p.rows place.1.stamp)

-- a stretch as a period
abbrev pub span_on : Stretch → Span
span_on s = record { from = s.from; till = s.till }

-- a row with its period behind its values
abbrev pub with_span : Span → Row → Row
with_span period row = record { values = row.values ++ values.Span period ∷ [] }

-- what is shown of the row on a stretch: the row; where it has valid time, the row with its whole period if that overlaps the asked one,
-- and else nothing
abbrev pub seen_row : Bool → Span → Stretch → Option Row → Option Row
seen_row false within s row = row
seen_row true within s row = let nothing : Option Row = None in if overlaps (span_on s) within then option_map (with_span (span_on s)) row else nothing

-- what is shown of the row that a list holds on a stretch of a key
abbrev pub row_shown : List Entry → ℕ → Bool → Span → List Value × Stretch → Option Row
row_shown es table valid within place = seen_row valid within place.1 (row_on es table place)

-- what is shown of the row of a stamp on its stretch
abbrev pub row_shown_with : Parts → Bool → Span → List Value × Stretch → Option Row
row_shown_with p valid within place = seen_row valid within place.1 (row_with p place)

-- what a period shares with the first of these stretches that it overlaps
abbrev pub first_shared : Span → List Stretch → Option Span
first_shared period [] = None
first_shared period (s ∷ ss) = if overlaps (span_on s) period then Some (shared (span_on s) period) else first_shared period ss

-- no piece is of the table and the key
abbrev pub is_unwritten : List PieceRecord → ℕ → List Value → Type 0
is_unwritten pieces table key = list_any (λ (x : PieceRecord). (x.cells.table == table) && is_eq (key_order x.cells.key key)) pieces ≡ false

-- keys, each with the stretches of its rows
abbrev pub Groups : Type 0
Groups = List (List Value × List Stretch)

abbrev pub keys_of : Groups → List (List Value)
keys_of groups = map (λ g. g.0) groups

-- the stretches with their keys, one key after another
abbrev pub joined : Groups → List (List Value × Stretch)
joined [] = []
joined (g ∷ gs) = map (λ s. (g.0, s)) g.1 ++ joined gs

abbrev pub AreAllRowsBy : (Cell → Option Held) → ℕ → Groups → Type 0
AreAllRowsBy f table [] = Unit {0}
AreAllRowsBy f table (g ∷ gs) = AreRowsBy f table g.0 g.1 × AreAllRowsBy f table gs

abbrev pub AreAllRowsOf : Parts → ℕ → ℕ → Groups → Type 0
AreAllRowsOf p version = AreAllRowsBy (seen p version)

-- the rows of a table that a version holds, by key and from
pub record IsListing (p : Parts) (version table : ℕ) (rows : List Row) : Type 0 where
  pub groups : Groups
  pub ascend : KeysAscend (keys_of groups)
  -- a key of which there is a piece is one of the keys
  pub whole : (k : List Value) → is_key_in k (keys_of groups) ≡ false → is_unwritten p.pieces table k
  pub held : AreAllRowsOf p version table groups
  pub are : rows ≡ filter_map (row_with p) (joined groups)

-- what is shown of them: of a table with valid time those that overlap a period, each with its own behind its values
pub record IsShowing (p : Parts) (version table : ℕ) (valid : Bool) (within : Span) (rows : List Row) : Type 0 where
  pub groups : Groups
  pub ascend : KeysAscend (keys_of groups)
  pub whole : (k : List Value) → is_key_in k (keys_of groups) ≡ false → is_unwritten p.pieces table k
  pub held : AreAllRowsOf p version table groups
  pub are : rows ≡ filter_map (row_shown_with p valid within) (joined groups)

-- the same of what a function of the cell holds
pub record IsShowingBy (p : Parts) (f : Cell → Option Held) (table : ℕ) (valid : Bool) (within : Span) (rows : List Row) : Type 0 where
  pub groups : Groups
  pub ascend : KeysAscend (keys_of groups)
  -- of a key that is none of them nothing is held
  pub whole : (k : List Value) → is_key_in k (keys_of groups) ≡ false → (t : ℕ) → f (record { table = table; key = k; time = t }) ≡ None
  pub held : AreAllRowsBy f table groups
  pub are : rows ≡ filter_map (row_shown_with p valid within) (joined groups)
