-- Lists of entries: what a list holds at a cell is what the last entry that covers the cell says.
use Rattle.std.specs.Prelude.{ℕ, ◌≡◌, ◌+◌, Bool, ◌&&◌, ◌==◌, nat_le, nat_lt, if◌then◌else◌, List, [], ◌∷◌, Option, None, is_some}
use Rattle.std.specs.Bool.{then_some}
use Rattle.std.specs.Option.{option_or, option_and_then}
use Rattle.std.specs.Ordering.{is_eq}
use Rattle.wm_base.specs.Key.{key_order}
use Rattle.wm_base.specs.declared.kind.Kind.{Kind}
use Rattle.wm_base.specs.declared.row.Row.{Row}
use Rattle.wm_base.specs.declared.value.Value.{Value}

-- a key of a table at a moment
pub record Cell : Type 0 where
  pub table : ℕ
  pub key : List Value
  pub time : ℕ

-- what was written for a key over a period, by whom and when; a row, or none where the row is gone
pub record Entry : Type 0 where
  pub table : ℕ
  pub key : List Value
  pub from : ℕ
  pub till : ℕ
  pub row : Option Row
  pub stamp : ℕ
  pub kind : Kind
  pub moment : ℕ
  pub user : List ℕ

-- what an entry says of each cell that it covers
pub record Told : Type 0 where
  pub stamp : ℕ
  pub kind : Kind
  pub row : Option Row

abbrev pub told_of : Entry → Told
told_of e = record { stamp = e.stamp; kind = e.kind; row = e.row }

-- the entry is of the table and the key
abbrev pub is_of : ℕ → List Value → Entry → Bool
is_of table key e = (e.table == table) && is_eq (key_order e.key key)

-- the entry's period has the moment
abbrev pub has_time : ℕ → Entry → Bool
has_time t e = nat_le e.from t && nat_lt t e.till

-- the entry covers the cell
abbrev pub covers : Entry → Cell → Bool
covers e c = is_of c.table c.key e && has_time c.time e

-- what a list holds at a cell
abbrev pub told : List Entry → Cell → Option Told
told [] c = None
told (e ∷ es) c = option_or (told es c) (then_some (covers e c) (told_of e))

-- some entry covers the cell
abbrev pub touched : List Entry → Cell → Bool
touched es c = is_some (told es c)

-- one more than the position of the last entry that covers the cell; 0 where there is none
abbrev pub reach : List Entry → Cell → ℕ
reach [] c = 0
reach (e ∷ es) c = if touched es c then reach es c + 1 else (if covers e c then 1 else 0)

-- two lists hold the same at each cell
pub record Alike (xs ys : List Entry) : Type 0 where
  pub same : (c : Cell) → told xs c ≡ told ys c

-- the stamp of a row that stands, and none of one that is gone
abbrev pub standing_stamp : Told → Option ℕ
standing_stamp t = then_some (is_some t.row) t.stamp

-- the stamp of the row that a list holds for a key at a moment
abbrev pub stamp_at : List Entry → ℕ → List Value → ℕ → Option ℕ
stamp_at es table key t = option_and_then standing_stamp (told es (record { table = table; key = key; time = t }))
