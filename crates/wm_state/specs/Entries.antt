-- Entries that one line writes in one table: what is asked of them, and their rows and pieces.
use Rattle.std.specs.Prelude.{ℕ, ◌≡◌, ◌+◌, Bool, true, false, ◌&&◌, nat_lt, nat_le, if◌then◌else◌, List, [], ◌∷◌, map, is_none, Option}
use Rattle.std.specs.List.{filter_map}
use Rattle.std.specs.Option.{option_map, option_map_or}
use Rattle.wm_base.specs.declared.instant.TheConstants.{END}
use Rattle.wm_base.specs.declared.row.Row.{Row}
use Rattle.wm_base.specs.declared.value.Value.{Value}
use Rattle.wm_graph.specs.Rules.{is_row_of, is_key_of, is_key, key_of}
use Rattle.wm_spec.specs.Lists.{Entry}
use Rattle.wm_spec.specs.declared.record.hist.Hist.{Hist}
use Rattle.wm_spec.specs.declared.record.piece.PieceRecord.{PieceRecord}
use Rattle.wm_spec.specs.declared.record.row.RowRecord.{RowRecord}
use Rattle.wm_spec.specs.declared.record.table.Table.{Table}
use Rattle.wm_state.specs.Standing.{has_history}

-- ---- what is asked of them

-- the entry is of the table, over a period, and has the stamp
pub record IsStamped (in_table with_stamp : ℕ) (e : Entry) : Type 0 where
  pub table : e.table ≡ in_table
  pub period : (nat_lt e.from e.till && nat_le e.till END) ≡ true
  pub stamp : e.stamp ≡ with_stamp

-- all are of the table, each over a period, and their stamps follow one another from this one on
abbrev pub AreStamped : ℕ → ℕ → List Entry → Type 0
AreStamped table stamp [] = Unit {0}
AreStamped table stamp (e ∷ es) = IsStamped table stamp e × AreStamped table (stamp + 1) es

-- the keys of entries
abbrev pub entry_keys : List Entry → List (List Value)
entry_keys es = map (λ (e : Entry). e.key) es

-- the row is one of the table's, and its key is this one
abbrev pub is_keyed : Table → List Value → Row → Bool
is_keyed t key row = is_row_of row.values t && is_key key (key_of t row.values)

-- the key is one of the table's, and the row, where there is one, is one of its rows with this key
abbrev pub fits_table : List Value → Option Row → Table → Bool
fits_table key row t = is_key_of key t && option_map_or (is_keyed t key) row true

-- the entry's table is there, and the entry fits it
abbrev pub is_well : (ℕ → Option Table) → Entry → Bool
is_well tables e = option_map_or (fits_table e.key e.row) (tables e.table) false

-- ---- their records

-- what a version says of an entry's cells
abbrev pub piece_of : ℕ → Entry → PieceRecord
piece_of version e = record {
  version = version;
  cells = record { table = e.table; key = e.key; from = e.from; till = e.till };
  stamp = e.stamp;
  kind = e.kind;
  gone = is_none e.row;
}

abbrev pub pieces_of : ℕ → List Entry → List PieceRecord
pieces_of version es = map (piece_of version) es

-- the row of an entry, where it has one
abbrev pub row_in : Entry → Option RowRecord
row_in e = option_map (λ (row : Row). let made : RowRecord = record { stamp = e.stamp; table = e.table; values = row.values } in made) e.row

abbrev pub rows_in : List Entry → List RowRecord
rows_in es = filter_map row_in es

-- the record of an entry at a position of a workspace's log
abbrev pub hist_of : ℕ → ℕ → Entry → Hist
hist_of n position e = record {
  space = n;
  position = position;
  cells = record { table = e.table; key = e.key; from = e.from; till = e.till };
  stamp = e.stamp;
  kind = e.kind;
  gone = is_none e.row;
  moment = e.moment;
  user = e.user;
}

-- and those of the ones whose table keeps its history, from a position on
abbrev pub hists_kept : List Table → ℕ → ℕ → List Entry → List Hist
hists_kept tables n position [] = []
hists_kept tables n position (e ∷ es) =
    if has_history tables e.table then hist_of n position e ∷ hists_kept tables n (position + 1) es else hists_kept tables n (position + 1) es
