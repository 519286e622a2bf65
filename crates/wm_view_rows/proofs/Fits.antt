-- The rows of views fit their columns.
use Rattle.std.proofs.Common.{◌≡◌, ℕ, suc, ◌+◌, ◌<◌, ◌==◌, ◌&&◌, ◌||◌, Bool, true, false, nat_lt, nat_le, if◌then◌else◌, List, [], ◌∷◌, ◌++◌, map, slice_get, Option, Some, None, is_some, refl, sym, ap, ◌∙◌, arith, subst, eqb-true, eq-eqb, codes}
use Rattle.std.proofs.lemmas.Bool.{ne_eqb, and_from, and_parts, or_right, true≢false}
use Rattle.std.proofs.lemmas.List.Folds.{list_all-map}
use Rattle.std.proofs.lemmas.Option.{same_Some, none-some}
use Rattle.std.specs.Bool.{then_some}
use Rattle.std.specs.List.{AllByRecursion, filter_map, find, flat_map, list_all}
use Rattle.std.specs.Option.{option_and_then, option_map, option_map_or, option_or}
use Rattle.std.specs.Ordering.{is_eq}
use Rattle.wm_base.specs.Key.{key_order}
use Rattle.wm_base.specs.Period.{Span}
use Rattle.wm_base.specs.Value.{type_place}
use Rattle.wm_listing.specs.declared.columns.Column.{Column}
use Rattle.wm_base.specs.declared.instant.TheConstants.{END}
use Rattle.wm_base.specs.declared.row.Row.{Row}
use Rattle.wm_base.specs.declared.value.Value.{Value}
use Rattle.wm_base.specs.declared.value.Value.TheVariants as values
use Rattle.wm_graph.specs.Parts.{Parts, row_of, space_of, table_of, version_of}
use Rattle.wm_decided.specs.Keys.{key_columns}
use Rattle.wm_graph.specs.Rules.{are_cells, are_typed, differ, fit_columns, fits_column, has_key, is_hist, is_key_of, is_piece, is_row, is_row_at, is_row_of, is_short, is_typed, keep_rules, type_of, weight}
use Rattle.wm_guard.specs.Barring.{is_of, lock_word, locks_in, span_of}
use Rattle.wm_net.specs.Conflicts.{Stamps, in_table, same_stamps}
use Rattle.wm_net.specs.Groups.{Group, cell}
use Rattle.wm_net.specs.Listed.{Stretch}
use Rattle.wm_net.proofs.Tabled.{Begins, all_begin, each_if, given_in}
use Rattle.wm_period.specs.Pieces.{Held}
use Rattle.wm_spec.specs.Conditions.{fits}
use Rattle.wm_spec.specs.Lists.{Cell}
use Rattle.wm_spec.specs.Operands.{fits_columns}
use Rattle.wm_spec.specs.declared.record.cell_range.CellRange.{CellRange}
use Rattle.wm_spec.specs.declared.record.column.ColumnKind.{ColumnKind}
use Rattle.wm_spec.specs.declared.record.column.ColumnKind.TheVariants as kinds
use Rattle.wm_spec.specs.declared.record.column.TableColumn.{TableColumn}
use Rattle.wm_spec.specs.declared.record.hist.Hist.{Hist}
use Rattle.wm_spec.specs.declared.record.lock.Lock.{Lock}
use Rattle.wm_spec.specs.declared.record.piece.PieceRecord.{PieceRecord}
use Rattle.wm_spec.specs.declared.record.row.RowRecord.{RowRecord}
use Rattle.wm_spec.specs.declared.record.space.Space.{Space}
use Rattle.wm_spec.specs.declared.record.table.Table.{Table}
use Rattle.wm_state.specs.Listing.{standing}
use Rattle.wm_state.specs.Standing.{covers_at, held_by, latest, newest_first, own_at, seen, seen_at, stored_at}
use Rattle.wm_state.proofs.Apart.{found-passes, ruled}
use Rattle.wm_state.proofs.Laying.{key_same}
use Rattle.wm_state.proofs.Appending.{all_append}
use Rattle.wm_state.proofs.Tests.{all_if}
use Rattle.wm_telling.specs.Telling.{clash_held, is_pending, is_unsettled, own_held, stamps_of}
use Rattle.wm_typing.specs.Columns.{columns_of_table, declared_column, valid_column}
use Rattle.wm_view_rows.proofs.Locked.{is_ruled, locks_ruled}
use Rattle.wm_view_rows.specs.Columns.{columns_of_view, history_columns, text_column}
use Rattle.wm_view_rows.specs.Conflicts.{IsConflictView, clash_rows, rows_with, values_with}
use Rattle.wm_view_rows.specs.History.{AreLogged, Follow, IsHistoryView, event_by}
use Rattle.wm_view_rows.specs.Locks.{lock_row, lock_view}
use Rattle.wm_view_rows.specs.Rows.{Event, SideRows, conflict_row, conflict_rows, deleted_word, history_row, history_rows, key_value, key_values, kind_word, retired, shown_values, side_values, time_value}
use Rattle.wm_view_rows.specs.declared.view.View.TheVariants.{Conflicts, History, Locks}

-- ---- values that fit columns

-- NULL, or a value of the column's type
abbrev fits_one : Value → ℕ → Bool
fits_one v kind = (type_place v == 0) || (type_place v == kind)

pub fits_more : (xs ys : List Column) (vs ws : List Value) → fits_columns xs vs ≡ true → fits_columns ys ws ≡ true → fits_columns (xs ++ ys) (vs ++ ws) ≡ true
fits_more [] ys [] ws one two = two
fits_more [] ys (v ∷ vs) ws one two = absurd (true≢false (sym one))
fits_more (x ∷ xs) ys [] ws one two = absurd (true≢false (sym one))
fits_more (x ∷ xs) ys (v ∷ vs) ws one two =
    let h = and_parts (fits_one v x.kind) (fits_columns xs vs) one in
    and_from (fits_one v x.kind) (fits_columns (xs ++ ys) (vs ++ ws)) h.0 (fits_more xs ys vs ws h.1 two)

value_fits : (c : TableColumn) (v : Value) → fits_column c v ≡ true → fits_one v (type_of c.kind) ≡ true
value_fits c values.Null is = refl
value_fits c (values.Num n) is = is
value_fits c (values.Text t) is = by_kind c.kind (and_parts (type_of c.kind == 2) _ is).0
  where
    by_kind : (k : ColumnKind) → (type_of k == 2) ≡ true → (2 == type_of k) ≡ true
    by_kind kinds.Number e = e
    by_kind kinds.Text e = refl
    by_kind kinds.Time e = e
value_fits c (values.Time i) is = is
value_fits c (values.Span s) is = is

-- the values of a row of a table
row_fits : (source : List ℕ) (cs : List TableColumn) (vs : List Value) → fit_columns cs vs ≡ true → fits_columns (map (declared_column source) cs) vs ≡ true
row_fits source [] [] is = refl
row_fits source [] (v ∷ vs) is = absurd (true≢false (sym is))
row_fits source (c ∷ cs) [] is = absurd (true≢false (sym is))
row_fits source (c ∷ cs) (v ∷ vs) is =
    let h = and_parts (fits_column c v) (fit_columns cs vs) is in
    and_from (fits_one v (type_of c.kind)) (fits_columns (map (declared_column source) cs) vs) (value_fits c v h.0) (row_fits source cs vs h.1)

-- ---- a key among NULLs

key_fits : (columns : List TableColumn) (places : List ℕ) (key : List Value) (place : ℕ) (c : TableColumn) → are_typed columns places key ≡ true → slice_get columns place ≡ Some c
    → fits_one (key_value places key place) (type_of c.kind) ≡ true
key_fits columns [] [] place c typed at = refl
key_fits columns [] (v ∷ key) place c typed at = refl
key_fits columns (p ∷ places) [] place c typed at = refl
key_fits columns (p ∷ places) (v ∷ key) place c typed at =
    let h = and_parts (is_typed columns p v) (are_typed columns places key) typed in
    by_test (p == place) refl h.0 (key_fits columns places key place c h.1 at)
  where
    by_test : (b : Bool) → (p == place) ≡ b → is_typed columns p v ≡ true → fits_one (key_value places key place) (type_of c.kind) ≡ true
        → fits_one (if b then v else key_value places key place) (type_of c.kind) ≡ true
    by_test false e is rest = rest
    by_test true e is rest =
        or_right (type_place v == 0) (type_place v == type_of c.kind)
        (sym (ap (λ (o : Option TableColumn). option_map_or (λ (c : TableColumn). type_place v == type_of c.kind) o false) (ap (slice_get columns) (eqb-true p place e) ∙ at)) ∙ is)

keys_fit : (source : List ℕ) (columns : List TableColumn) (places : List ℕ) (key : List Value) (place : ℕ) (cs : List TableColumn) → are_typed columns places key ≡ true
    → ((i : ℕ) → slice_get columns (place + i) ≡ slice_get cs i) → fits_columns (map (declared_column source) cs) (key_values places key place cs) ≡ true
keys_fit source columns places key place [] typed at = refl
keys_fit source columns places key place (c ∷ cs) typed at =
    and_from (fits_one (key_value places key place) (type_of c.kind)) (fits_columns (map (declared_column source) cs) (key_values places key (place + 1) cs))
    (key_fits columns places key place c typed (ap (slice_get columns) (here place) ∙ at 0))
    (keys_fit source columns places key (place + 1) cs typed (λ i. ap (slice_get columns) (next place i) ∙ at (suc i)))
  where
    here : (m : ℕ) → m ≡ m + 0
    here m = omega arith

    next : (m i : ℕ) → m + 1 + i ≡ m + suc i
    next m i = omega arith

-- ---- what is shown of a side

-- the values of a row of the table, where there are any
abbrev pub FitsTable : Table → Option (List Value) → Type 0
FitsTable t row = (vs : List Value) → row ≡ Some vs → fit_columns t.columns vs ≡ true

key_typed : (t : Table) (key : List Value) → is_key_of key t ≡ true → are_typed t.columns t.key_columns key ≡ true
key_typed t key keyed = (and_parts (has_key t) (are_typed t.columns t.key_columns key) (and_parts (nat_le (weight key) 200) (has_key t && are_typed t.columns t.key_columns key) keyed).1).1

side_fits : (source : List ℕ) (t : Table) (key : List Value) (row : Option (List Value)) → is_key_of key t ≡ true → FitsTable t row
    → fits_columns (map (declared_column source) t.columns) (side_values t key row) ≡ true
side_fits source t key (Some vs) keyed fit = row_fits source t.columns vs (fit vs refl)
side_fits source t key None keyed fit =
    keys_fit source t.columns t.key_columns key 0 t.columns
    (key_typed t key keyed)
    (λ i. ap (slice_get t.columns) (first i))
  where
    first : (i : ℕ) → 0 + i ≡ i
    first i = omega arith

valid_fits : (source : List ℕ) (period : Span) (valid : Bool) → fits_columns (if valid then valid_column source ∷ [] else []) (if valid then values.Span period ∷ [] else []) ≡ true
valid_fits source period true = refl
valid_fits source period false = refl

pub shown_fits : (source : List ℕ) (t : Table) (key : List Value) (period : Span) (row : Option (List Value)) → is_key_of key t ≡ true → FitsTable t row
    → fits_columns (columns_of_table source t) (shown_values t key period row) ≡ true
shown_fits source t key period row keyed fit =
    fits_more (map (declared_column source) t.columns) (if t.valid then valid_column source ∷ [] else []) (side_values t key row) (if t.valid then values.Span period ∷ [] else [])
    (side_fits source t key row keyed fit) (valid_fits source period t.valid)

-- ---- what the rules say of what is held

-- the row of a stamp is one of the table
abbrev FitsStamp : Parts → Table → ℕ → Type 0
FitsStamp p t stamp = FitsTable t (values_with p stamp)

-- records that keep the rules, and a table of them
pub record Asks (p : Parts) (t : Table) : Type 0 where
  pub rules : keep_rules p ≡ true
  pub there : table_of p.tables t.number ≡ Some t

abbrev next_of : (p : Parts) (t : Table) → Asks p t → ℕ
next_of p t asks = (ruled p asks.rules).counters.next_stamp

-- a key of cells of the table is one of its keys
cells_key : (p : Parts) (t : Table) (cells : CellRange) → Asks p t → are_cells (table_of p.tables) cells ≡ true → cells.table ≡ t.number → is_key_of cells.key t ≡ true
cells_key p t cells asks are same =
    sym (ap (λ (o : Option Table). option_map_or (is_key_of cells.key) o false) (ap (table_of p.tables) same ∙ asks.there))
    ∙ (and_parts (nat_lt cells.from cells.till && nat_le cells.till END) (option_map_or (is_key_of cells.key) (table_of p.tables cells.table) false) are).1

-- and the row of a stamp that stands there is one of its rows
cells_row : (p : Parts) (t : Table) (cells : CellRange) (stamp : ℕ) (asks : Asks p t) → option_map_or (is_row_at (table_of p.tables) cells) (row_of p.rows stamp) false ≡ true → cells.table ≡ t.number
    → FitsStamp p t stamp
cells_row p t cells stamp asks at same vs is = by_row (row_of p.rows stamp) refl at is
  where
    next : ℕ
    next = next_of p t asks

    of_table : (r : RowRecord) → row_of p.rows stamp ≡ Some r → is_row_at (table_of p.tables) cells r ≡ true → fit_columns t.columns r.values ≡ true
    of_table r found there =
        let here : r.table ≡ t.number = eqb-true r.table cells.table (and_parts (r.table == cells.table) _ there).0 ∙ same in
        let passed = (found-passes (λ (r : RowRecord). r.stamp == stamp) (is_row (table_of p.tables) next) p.rows r found (and_parts (differ _ p.rows) _ (ruled p asks.rules).rows).1).1 in
        (and_parts (fit_columns t.columns r.values) _
        (sym (ap (λ (o : Option Table). option_map_or (is_row_of r.values) o false) (ap (table_of p.tables) here ∙ asks.there)) ∙ (and_parts (nat_lt r.stamp next) _ passed).1)).0

    by_row : (o : Option RowRecord) → row_of p.rows stamp ≡ o → option_map_or (is_row_at (table_of p.tables) cells) o false ≡ true → option_map (λ (r : RowRecord). r.values) o ≡ Some vs
        → fit_columns t.columns vs ≡ true
    by_row None found there e = absurd (none-some vs e)
    by_row (Some r) found there e = ap (fit_columns t.columns) (sym (same_Some r.values vs e)) ∙ of_table r found there

-- what is held at a cell of the table: its key is one of the table's, and its row, where it is not gone, one of its rows
abbrev pub Suits : Parts → Table → Cell → Option Held → Type 0
Suits p t c None = Unit {0}
Suits p t c (Some h) = (is_key_of c.key t ≡ true) × (h.gone ≡ false → FitsStamp p t h.stamp.number)

piece_suits : (p : Parts) (t : Table) (x : PieceRecord) (version : ℕ) (c : Cell) (asks : Asks p t) → c.table ≡ t.number → is_piece (table_of p.tables) (version_of p.versions) (row_of p.rows) (next_of p t asks) x ≡ true
    → Suits p t c (then_some (covers_at x version c) (held_by x))
piece_suits p t x version c asks of is = by_test (covers_at x version c) refl
  where
    cells : (are_cells (table_of p.tables) x.cells ≡ true) × ((nat_lt x.stamp (next_of p t asks) && (x.gone || option_map_or (is_row_at (table_of p.tables) x.cells) (row_of p.rows x.stamp) false)) ≡ true)
    cells = and_parts (are_cells (table_of p.tables) x.cells) _ (and_parts (is_some (version_of p.versions x.version)) _ is).1

    row_there : x.gone ≡ false → option_map_or (is_row_at (table_of p.tables) x.cells) (row_of p.rows x.stamp) false ≡ true
    row_there stands =
        sym (ap (λ g. g || option_map_or (is_row_at (table_of p.tables) x.cells) (row_of p.rows x.stamp) false) stands)
        ∙ (and_parts (nat_lt x.stamp (next_of p t asks)) (x.gone || option_map_or (is_row_at (table_of p.tables) x.cells) (row_of p.rows x.stamp) false) cells.1).1

    place : covers_at x version c ≡ true → (x.cells.table ≡ t.number) × (x.cells.key ≡ c.key)
    place e =
        let a = and_parts (x.version == version) _ e in
        let b = and_parts ((x.cells.table == c.table) && is_eq (key_order x.cells.key c.key)) _ a.1 in
        let d = and_parts (x.cells.table == c.table) (is_eq (key_order x.cells.key c.key)) b.0 in
        (eqb-true x.cells.table c.table d.0 ∙ of, key_same x.cells.key c.key d.1)

    by_test : (b : Bool) → covers_at x version c ≡ b → Suits p t c (then_some b (held_by x))
    by_test false e = tt
    by_test true e =
        let at = place e in
        (ap (λ (k : List Value). is_key_of k t) (sym at.1) ∙ cells_key p t x.cells asks cells.0 at.0, λ stands. cells_row p t x.cells x.stamp asks (row_there stands) at.0)

or_suits : (p : Parts) (t : Table) (c : Cell) (a b : Option Held) → Suits p t c a → Suits p t c b → Suits p t c (option_or a b)
or_suits p t c None b one two = two
or_suits p t c (Some h) b one two = one

stored_suits : (p : Parts) (t : Table) (pieces : List PieceRecord) (version : ℕ) (c : Cell) (asks : Asks p t) → c.table ≡ t.number
    → list_all (is_piece (table_of p.tables) (version_of p.versions) (row_of p.rows) (next_of p t asks)) pieces ≡ true → Suits p t c (stored_at pieces version c)
stored_suits p t [] version c asks of all = tt
stored_suits p t (x ∷ xs) version c asks of all =
    let h = and_parts (is_piece (table_of p.tables) (version_of p.versions) (row_of p.rows) (next_of p t asks) x) _ all in
    or_suits p t c (then_some (covers_at x version c) (held_by x)) (stored_at xs version c) (piece_suits p t x version c asks of h.0) (stored_suits p t xs version c asks of h.1)

all_suit : (p : Parts) (t : Table) (version : ℕ) (c : Cell) → Asks p t → c.table ≡ t.number → Suits p t c (stored_at p.pieces version c)
all_suit p t version c asks of = stored_suits p t p.pieces version c asks of (and_parts (differ _ p.pieces) _ (ruled p asks.rules).pieces).1

pub seen_suits : (p : Parts) (t : Table) (nodes : _) (version : ℕ) (c : Cell) → Asks p t → c.table ≡ t.number → Suits p t c (seen_at p.pieces nodes version c)
seen_suits p t [] version c asks of = tt
seen_suits p t (x ∷ older) version c asks of = by_number (x.number == version) (seen_suits p t older x.parent c asks of) (seen_suits p t older version c asks of)
  where
    by_number : (b : Bool) → Suits p t c (seen_at p.pieces older x.parent c) → Suits p t c (seen_at p.pieces older version c)
        → Suits p t c (if b then option_or (stored_at p.pieces version c) (seen_at p.pieces older x.parent c) else seen_at p.pieces older version c)
    by_number true up along = or_suits p t c (stored_at p.pieces version c) (seen_at p.pieces older x.parent c) (all_suit p t version c asks of) up
    by_number false up along = along

own_suits : (p : Parts) (t : Table) (nodes : _) (base version : ℕ) (c : Cell) → Asks p t → c.table ≡ t.number → Suits p t c (own_at p.pieces nodes base version c)
own_suits p t [] base version c asks of = tt
own_suits p t (x ∷ older) base version c asks of = by_base (version == base) (x.number == version) (own_suits p t older base x.parent c asks of) (own_suits p t older base version c asks of)
  where
    nothing : Option Held
    nothing = None

    by_base : (a b : Bool) → Suits p t c (own_at p.pieces older base x.parent c) → Suits p t c (own_at p.pieces older base version c)
        → Suits p t c (if a then None else (if b then option_or (stored_at p.pieces version c) (own_at p.pieces older base x.parent c) else own_at p.pieces older base version c))
    by_base true b up along = tt
    by_base false true up along = or_suits p t c (stored_at p.pieces version c) (own_at p.pieces older base x.parent c) (all_suit p t version c asks of) up
    by_base false false up along = along

-- ---- conflicts

-- the rows of three sides are rows of the table, under one of its keys
pub record AreSuited (t : Table) (key : List Value) (rows : SideRows) : Type 0 where
  pub keyed : is_key_of key t ≡ true
  pub base : FitsTable t rows.base
  pub parent : FitsTable t rows.parent
  pub child : FitsTable t rows.child

pub standing_fits : (p : Parts) (t : Table) (c : Cell) (o : Option Held) → Suits p t c o → FitsTable t (option_and_then (values_with p) (option_and_then standing o))
standing_fits p t c None suits vs e = absurd (none-some vs e)
standing_fits p t c (Some h) suits vs e = by_gone h.gone refl e
  where
    nothing : Option ℕ
    nothing = None

    by_gone : (g : Bool) → h.gone ≡ g → option_and_then (values_with p) (if g then nothing else Some h.stamp.number) ≡ Some vs → fit_columns t.columns vs ≡ true
    by_gone true is e = absurd (none-some vs e)
    by_gone false is e = suits.1 is vs e

held_key : (p : Parts) (t : Table) (c : Cell) (o : Option Held) → Suits p t c o → is_some o ≡ true → is_key_of c.key t ≡ true
held_key p t c None suits some = absurd (true≢false (sym some))
held_key p t c (Some h) suits some = suits.0

pub given_parts : {A : Type 0} (b : Bool) (x y : A) → then_some b x ≡ Some y → (b ≡ true) × (x ≡ y)
given_parts true x y e = (refl, same_Some x y e)
given_parts false x y e = absurd (none-some y e)

-- where both changed a cell of the table, they are
clash_suits : (p : Parts) (t : Table) (a b : Space) (c : Cell) (x : Stamps) → Asks p t → c.table ≡ t.number → clash_held p a b c ≡ Some x → AreSuited t c.key (rows_with p x)
clash_suits p t a b c x asks of held =
    let given = given_parts (is_some (own_held p a c) && (is_pending p a b c && is_unsettled p a b c)) (stamps_of p a b c) x held in
    let own = and_parts (is_some (own_held p a c)) (is_pending p a b c && is_unsettled p a b c) given.0 in
    subst (λ (s : Stamps). AreSuited t c.key (rows_with p s)) given.1 (record {
      keyed = held_key p t c (own_held p a c) (own_suits p t (newest_first p.versions) a.base_version (latest p a.number) c asks of) own.0;
      base = standing_fits p t c (seen p a.base_version c) (seen_suits p t (newest_first p.versions) a.base_version c asks of);
      parent = standing_fits p t c (seen p (latest p b.number) c) (seen_suits p t (newest_first p.versions) (latest p b.number) c asks of);
      child = standing_fits p t c (seen p (latest p a.number) c) (seen_suits p t (newest_first p.versions) (latest p a.number) c asks of);
    })

conflict_row_fits : (source : List ℕ) (t : Table) (key : List Value) (period : Span) (name : List ℕ) (based : Bool) (row : Option (List Value)) → is_key_of key t ≡ true → FitsTable t row
    → fits (columns_of_view Conflicts source t) (conflict_row t key period name based row) ≡ true
unfolding fits
conflict_row_fits source t key period name based row keyed fit =
    fits_more (columns_of_table source t) (text_column source (codes "WM_DELETED") ∷ []) (shown_values t key period row) (values.Text (deleted_word based row) ∷ []) (shown_fits source t key period row keyed fit) refl

conflict_rows_fit : (source : List ℕ) (t : Table) (key : List Value) (period : Span) (parent child : List ℕ) (rows : SideRows) → AreSuited t key rows
    → list_all (fits (columns_of_view Conflicts source t)) (conflict_rows t key period parent child rows) ≡ true
conflict_rows_fit source t key period parent child rows are =
    and_from _ _ (conflict_row_fits source t key period (codes "BASE") false rows.base are.keyed are.base)
    (and_from _ _ (conflict_row_fits source t key period parent (is_some rows.base) rows.parent are.keyed are.parent)
    (and_from _ true (conflict_row_fits source t key period child (is_some rows.base) rows.child are.keyed are.child) refl))

pub all_flat : {A B : Type 0} (P : B → Bool) (F : A → List B) (xs : List A) → AllByRecursion (λ x. list_all P (F x) ≡ true) xs → list_all P (flat_map F xs) ≡ true
all_flat P F [] all = refl
all_flat P F (x ∷ xs) all = all_append P (F x) (flat_map F xs) all.0 (all_flat P F xs all.1)

clash_rows_fit : (p : Parts) (a b : Space) (t : Table) (source : List ℕ) (x : Group × Stretch Stamps) → Asks p t → Begins (in_table t.number (clash_held p a b)) x
    → list_all (fits (columns_of_view Conflicts source t)) (clash_rows p a b t x) ≡ true
clash_rows_fit p a b t source x asks begins =
    let given = given_in t.number (clash_held p a b) x.0 x.1.from x.1.value begins in
    conflict_rows_fit source t x.0.key (record { from = x.1.from; till = x.1.till }) b.name a.name (rows_with p x.1.value) (clash_suits p t a b (cell x.0 x.1.from) x.1.value asks given.0 given.1)

pub conflicts_fit : (p : Parts) (a b : Space) (t : Table) (source : List ℕ) (rows : List Row) → keep_rules p ≡ true → table_of p.tables t.number ≡ Some t → IsConflictView p a b t rows
    → list_all (fits (columns_of_view Conflicts source t)) rows ≡ true
conflicts_fit p a b t source rows rules there view =
    ap (list_all (fits (columns_of_view Conflicts source t))) view.are
    ∙ all_flat (fits (columns_of_view Conflicts source t)) (clash_rows p a b t) view.found
    (each_if (Begins (in_table t.number (clash_held p a b))) (λ (x : Group × Stretch Stamps). list_all (fits (columns_of_view Conflicts source t)) (clash_rows p a b t x) ≡ true) view.found
    (λ x begins. clash_rows_fit p a b t source x asks begins) (all_begin same_stamps (in_table t.number (clash_held p a b)) view.found view.listed))
  where
    asks : Asks p t
    asks = record { rules = rules; there = there }

-- ---- history

-- the last columns
told_fits : (source workspace user kind : List ℕ) (moment : ℕ) (over : Option ℕ)
    → fits_columns (history_columns source) (values.Text workspace ∷ values.Text user ∷ values.Text kind ∷ time_value (Some moment) ∷ time_value over ∷ []) ≡ true
told_fits source workspace user kind moment None = refl
told_fits source workspace user kind moment (Some later) = refl

history_row_fits : (source workspace : List ℕ) (t : Table) (e : Event) (over : Option ℕ) → is_key_of e.key t ≡ true → FitsTable t e.row
    → fits (columns_of_view History source t) (history_row workspace t e over) ≡ true
unfolding fits
history_row_fits source workspace t e over keyed fit =
    fits_more (columns_of_table source t) (history_columns source) (shown_values t e.key (record { from = e.from; till = e.till }) e.row)
    (values.Text workspace ∷ values.Text e.user ∷ values.Text (kind_word e.kind) ∷ time_value (Some e.moment) ∷ time_value over ∷ [])
    (shown_fits source t e.key (record { from = e.from; till = e.till }) e.row keyed fit) (told_fits source workspace e.user (kind_word e.kind) e.moment over)

-- an event of a key and a row of the table
abbrev IsOfTable : Table → Event → Type 0
IsOfTable t e = (is_key_of e.key t ≡ true) × FitsTable t e.row

-- so is that of an entry of a log that is of the table
hist_suits : (p : Parts) (t : Table) (x : Hist) (asks : Asks p t) → x.cells.table ≡ t.number → is_hist (table_of p.tables) (space_of p.spaces) (row_of p.rows) (next_of p t asks) x ≡ true
    → IsOfTable t (event_by p x)
hist_suits p t x asks of is = (cells_key p t x.cells asks cells.0 of, by_gone x.gone refl)
  where
    cells : (are_cells (table_of p.tables) x.cells ≡ true) × ((nat_lt x.stamp (next_of p t asks) && (x.gone || option_map_or (is_row_at (table_of p.tables) x.cells) (row_of p.rows x.stamp) false)) ≡ true)
    cells = and_parts (are_cells (table_of p.tables) x.cells) _ (and_parts (is_short x.user && option_map_or (λ (s : Space). nat_lt x.position s.log_length) (space_of p.spaces x.space) false) _ is).1

    row_there : x.gone ≡ false → option_map_or (is_row_at (table_of p.tables) x.cells) (row_of p.rows x.stamp) false ≡ true
    row_there stands =
        sym (ap (λ g. g || option_map_or (is_row_at (table_of p.tables) x.cells) (row_of p.rows x.stamp) false) stands)
        ∙ (and_parts (nat_lt x.stamp (next_of p t asks)) (x.gone || option_map_or (is_row_at (table_of p.tables) x.cells) (row_of p.rows x.stamp) false) cells.1).1

    by_gone : (g : Bool) → x.gone ≡ g → FitsTable t (if g then None else values_with p x.stamp)
    by_gone true e vs is = absurd (none-some vs is)
    by_gone false e vs is = cells_row p t x.cells x.stamp asks (row_there e) of vs is

-- entries that follow one another are found by their positions
follow_tail : (x : Hist) (xs : List Hist) → Follow (x ∷ xs) → Follow xs
follow_tail x [] follow = tt
follow_tail x (y ∷ ys) follow = follow.1

follow_less : (x : Hist) (xs : List Hist) → Follow (x ∷ xs) → AllByRecursion (λ (y : Hist). x.position < y.position) xs
follow_less x [] follow = tt
follow_less x (y ∷ ys) follow =
    (follow.0, each_if (λ (z : Hist). y.position < z.position) (λ (z : Hist). x.position < z.position) ys (λ z less. omega (arith, follow.0, less)) (follow_less y ys follow.1))

abbrev pub at_position : List Hist → ℕ → Option Hist
at_position xs position = find (λ (x : Hist). x.position == position) xs

pub each_found : (xs : List Hist) → Follow xs → AllByRecursion (λ (x : Hist). at_position xs x.position ≡ Some x) xs
each_found [] follow = tt
each_found (x ∷ xs) follow = (first, behind xs (follow_less x xs follow) (each_found xs (follow_tail x xs follow)))
  where
    first : at_position (x ∷ xs) x.position ≡ Some x
    first = rw (eq-eqb x.position x.position refl) refl

    past : (y : Hist) → x.position < y.position → at_position (x ∷ xs) y.position ≡ at_position xs y.position
    past y less = rw (ne_eqb x.position y.position (λ same. absurd (omega (arith, same, less)))) refl

    behind : (ys : List Hist) → AllByRecursion (λ (y : Hist). x.position < y.position) ys → AllByRecursion (λ (y : Hist). at_position xs y.position ≡ Some y) ys
        → AllByRecursion (λ (y : Hist). at_position (x ∷ xs) y.position ≡ Some y) ys
    behind [] less found = tt
    behind (y ∷ ys) less found = (past y less.0 ∙ found.0, behind ys less.1 found.1)

logged_suits : (p : Parts) (n : ℕ) (t : Table) (xs : List Hist) → Asks p t → AreLogged p n t.number xs → AllByRecursion (λ (x : Hist). IsOfTable t (event_by p x)) xs
logged_suits p n t xs asks are = each_if (λ (x : Hist). at_position xs x.position ≡ Some x) (λ (x : Hist). IsOfTable t (event_by p x)) xs suits (each_found xs are.follow)
  where
    suits : (x : Hist) → at_position xs x.position ≡ Some x → IsOfTable t (event_by p x)
    suits x found =
        let passed =
        found-passes (λ (y : Hist). (y.space == n) && ((y.cells.table == t.number) && (y.position == x.position))) (is_hist (table_of p.tables) (space_of p.spaces) (row_of p.rows) (next_of p t asks)) p.hists x
        (sym (are.same x.position) ∙ found) (and_parts (differ _ p.hists) _ (ruled p asks.rules).hists).1 in
        let placed = and_parts (x.cells.table == t.number) (x.position == x.position) (and_parts (x.space == n) _ passed.0).1 in
        hist_suits p t x asks (eqb-true x.cells.table t.number placed.0) passed.1

events_fit : (p : Parts) (source workspace : List ℕ) (t : Table) (xs : List Hist) → AllByRecursion (λ (x : Hist). IsOfTable t (event_by p x)) xs
    → list_all (fits (columns_of_view History source t)) (history_rows workspace t (map (event_by p) xs)) ≡ true
events_fit p source workspace t [] all = refl
events_fit p source workspace t (x ∷ xs) all =
    and_from _ _ (history_row_fits source workspace t (event_by p x) (retired (event_by p x) (map (event_by p) xs)) all.0.0 all.0.1) (events_fit p source workspace t xs all.1)

pub history_fits : (p : Parts) (a : Space) (t : Table) (source : List ℕ) (rows : List Row) → keep_rules p ≡ true → table_of p.tables t.number ≡ Some t → IsHistoryView p a t rows
    → list_all (fits (columns_of_view History source t)) rows ≡ true
history_fits p a t source rows rules there view =
    ap (list_all (fits (columns_of_view History source t))) view.are
    ∙ events_fit p source a.name t view.logged (logged_suits p a.number t view.logged (record { rules = rules; there = there }) view.are_logged)

-- ---- locks

-- a key fits the columns of keys
keyed_fits : (source : List ℕ) (columns : List TableColumn) (places : List ℕ) (key : List Value) → are_typed columns places key ≡ true
    → fits_columns (map (declared_column source) (filter_map (slice_get columns) places)) key ≡ true
keyed_fits source columns [] [] typed = refl
keyed_fits source columns [] (v ∷ key) typed = absurd (true≢false (sym typed))
keyed_fits source columns (p ∷ places) [] typed = absurd (true≢false (sym typed))
keyed_fits source columns (p ∷ places) (v ∷ key) typed =
    let h = and_parts (is_typed columns p v) (are_typed columns places key) typed in
    by_column (slice_get columns p) refl h.0 (keyed_fits source columns places key h.1)
  where
    by_column : (o : Option TableColumn) → slice_get columns p ≡ o → option_map_or (λ (c : TableColumn). type_place v == type_of c.kind) o false ≡ true
        → fits_columns (map (declared_column source) (filter_map (slice_get columns) places)) key ≡ true
        → fits_columns (map (declared_column source) (filter_map (slice_get columns) (p ∷ places))) (v ∷ key) ≡ true
    by_column None found is rest = absurd (true≢false (sym is))
    by_column (Some c) found is rest =
        rw found
        (and_from (fits_one v (type_of c.kind)) (fits_columns (map (declared_column source) (filter_map (slice_get columns) places)) key)
        (or_right (type_place v == 0) (type_place v == type_of c.kind) is) rest)

lock_row_fits : (source : List ℕ) (name : ℕ → List ℕ) (t : Table) (x : Lock) → is_key_of x.cells.key t ≡ true → fits (columns_of_view Locks source t) (lock_row name t x) ≡ true
unfolding fits
lock_row_fits source name t x keyed =
    fits_more (map (declared_column source) (key_columns t)) ((if t.valid then valid_column source ∷ [] else []) ++ told) x.cells.key ((if t.valid then values.Span (span_of x.cells) ∷ [] else []) ++ texts)
    (keyed_fits source t.columns t.key_columns x.cells.key (key_typed t x.cells.key keyed))
    (fits_more (if t.valid then valid_column source ∷ [] else []) told (if t.valid then values.Span (span_of x.cells) ∷ [] else []) texts (valid_fits source (span_of x.cells) t.valid) refl)
  where
    told : List Column
    told = text_column source (codes "WM_WORKSPACE") ∷ text_column source (codes "WM_LOCKMODE") ∷ text_column source (codes "WM_USERNAME") ∷ []

    texts : List Value
    texts = values.Text (name x.space) ∷ values.Text (lock_word x.mode) ∷ values.Text x.user ∷ []

pub locks_fit : (p : Parts) (name : ℕ → List ℕ) (t : Table) (source : List ℕ) (rows : List Row) → keep_rules p ≡ true → table_of p.tables t.number ≡ Some t → rows ≡ lock_view name t p.locks
    → list_all (fits (columns_of_view Locks source t)) rows ≡ true
locks_fit p name t source rows rules there are =
    ap (list_all (fits (columns_of_view Locks source t))) are
    ∙ list_all-map (fits (columns_of_view Locks source t)) (lock_row name t) (locks_in t.number p.locks)
    ∙ all_if (is_ruled p t.number) (λ (x : Lock). fits (columns_of_view Locks source t) (lock_row name t x))
    (λ x is. let h = and_parts (is_of t.number x) (are_cells (table_of p.tables) x.cells) is in
    lock_row_fits source name t x (cells_key p t x.cells (record { rules = rules; there = there }) h.1 (eqb-true x.cells.table t.number h.0)))
    (locks_in t.number p.locks) (locks_ruled p t.number rules)
