-- The rows of views.
use Rattle.std.specs.Prelude.{ℕ, ◌+◌, ◌==◌, ◌&&◌, Bool, true, false, nat_lt, min, if◌then◌else◌, List, [], ◌∷◌, ◌++◌, Option, Some, None, option_map, is_some, unwrap_or, codes}
use Rattle.std.specs.List.{find}
use Rattle.std.specs.Ordering.{is_eq}
use Rattle.wm_base.specs.Key.{key_order}
use Rattle.wm_base.specs.Period.{Span}
use Rattle.wm_base.specs.declared.instant.TheConstants.{END}
use Rattle.wm_base.specs.declared.kind.Kind.{Kind}
use Rattle.wm_base.specs.declared.kind.Kind.TheVariants.{Insert, Update, Delete}
use Rattle.wm_base.specs.declared.row.Row.{Row}
use Rattle.wm_base.specs.declared.value.Value.{Value}
use Rattle.wm_base.specs.declared.value.Value.TheVariants as values
use Rattle.wm_net.specs.Conflicts.{Stamps}
use Rattle.wm_spec.specs.declared.record.column.TableColumn.{TableColumn}
use Rattle.wm_spec.specs.declared.record.table.Table.{Table}

-- ---- what is shown where a row stands or none does

-- the value of a key in the column at a place, and NULL where that is no key column
abbrev pub key_value : List ℕ → List Value → ℕ → Value
key_value (p ∷ places) (v ∷ key) place = if p == place then v else key_value places key place
key_value _ _ place = values.Null

-- so for each column, from a place on
abbrev pub key_values : List ℕ → List Value → ℕ → List TableColumn → List Value
key_values places key place [] = []
key_values places key place (c ∷ columns) = key_value places key place ∷ key_values places key (place + 1) columns

-- the values of the row, or its key among NULLs
abbrev pub side_values : Table → List Value → Option (List Value) → List Value
side_values t key (Some row) = row
side_values t key None = key_values t.key_columns key 0 t.columns

-- with the period behind them, where the table has valid time
abbrev pub shown_values : Table → List Value → Span → Option (List Value) → List Value
shown_values t key period row = side_values t key row ++ (if t.valid then values.Span period ∷ [] else [])

-- ---- conflicts

-- a row that stands is not deleted; one that does not is, where the base has one, and else there never was one
abbrev pub deleted_word : Bool → Option (List Value) → List ℕ
deleted_word based (Some row) = codes "NO"
deleted_word true None = codes "YES"
deleted_word false None = codes "NE"

abbrev pub conflict_row : Table → List Value → Span → List ℕ → Bool → Option (List Value) → Row
conflict_row t key period name based row =
    record { values = values.Text name ∷ (shown_values t key period row ++ values.Text (deleted_word based row) ∷ []) }

-- the values of the rows that stand on the three sides of a stretch of conflict, or none; of a difference the base is the common point,
-- and the others are the first and the second
pub record SideRows : Type 0 where
  pub base : Option (List Value)
  pub parent : Option (List Value)
  pub child : Option (List Value)

-- a row for each side, under its name
abbrev pub conflict_rows : Table → List Value → Span → List ℕ → List ℕ → SideRows → List Row
conflict_rows t key period parent child rows =
    conflict_row t key period (codes "BASE") false rows.base
    ∷ conflict_row t key period parent (is_some rows.base) rows.parent
    ∷ conflict_row t key period child (is_some rows.base) rows.child
    ∷ []

-- ---- differences

-- what became of a row of one stamp at a point: it stands, another one stands, it is gone, there is a new one, or there was none and is none
abbrev pub change_word : Option ℕ → Option ℕ → List ℕ
change_word None None = codes "NE"
change_word None (Some stamp) = codes "I"
change_word (Some stamp) None = codes "D"
change_word (Some one) (Some other) = if one == other then codes "NC" else codes "U"

-- the point by its name: its workspace and its savepoint, LATEST where that is what is newest
abbrev pub point_name : List ℕ → Option (List ℕ) → List ℕ
point_name workspace savepoint = workspace ++ (codes ", " ++ unwrap_or savepoint (codes "LATEST"))

abbrev pub difference_row : Table → List Value → Span → List ℕ → List ℕ → Option (List Value) → Row
difference_row t key period name word row = record { values = shown_values t key period row ++ values.Text name ∷ values.Text word ∷ [] }

-- a row for the common point and for each of the two, under their names
abbrev pub difference_rows : Table → List Value → Span → List ℕ → List ℕ → Stamps → SideRows → List Row
difference_rows t key period first second stamps rows =
    difference_row t key period (codes "DiffBase") (change_word stamps.base stamps.base) rows.base
    ∷ difference_row t key period first (change_word stamps.base stamps.parent) rows.parent
    ∷ difference_row t key period second (change_word stamps.base stamps.child) rows.child
    ∷ []

-- ---- history

-- what the history of a table tells of an entry of a log: the key, the period, the row or that it is gone, what was done, when and by whom
pub record Event : Type 0 where
  pub key : List Value
  pub from : ℕ
  pub till : ℕ
  pub row : Option (List Value)
  pub kind : Kind
  pub moment : ℕ
  pub user : List ℕ

-- two have a moment of one key in common
abbrev pub shares : Event → Event → Bool
shares e f = is_eq (key_order e.key f.key) && (nat_lt e.from f.till && nat_lt f.from e.till)

-- when the first of later ones was written that has a moment of its key in common with it
abbrev pub retired : Event → List Event → Option ℕ
retired e later = option_map (λ (f : Event). f.moment) (find (shares e) later)

abbrev pub kind_word : Kind → List ℕ
kind_word Insert = codes "I"
kind_word Update = codes "U"
kind_word Delete = codes "D"

-- a time; there is none above the end, which no line is written at
abbrev pub time_value : Option ℕ → Value
time_value None = values.Null
time_value (Some moment) = values.Time (min moment END)

abbrev pub history_row : List ℕ → Table → Event → Option ℕ → Row
history_row workspace t e over =
    record {
      values =
          shown_values t e.key (record { from = e.from; till = e.till }) e.row
          ++ values.Text workspace ∷ values.Text e.user ∷ values.Text (kind_word e.kind) ∷ time_value (Some e.moment) ∷ time_value over ∷ [];
    }

-- one after another
abbrev pub history_rows : List ℕ → Table → List Event → List Row
history_rows workspace t [] = []
history_rows workspace t (e ∷ es) = history_row workspace t e (retired e es) ∷ history_rows workspace t es
