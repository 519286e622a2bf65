-- Records that keep the rules fit pages, where no text in them is empty.
use Rattle.std.proofs.Common.{◌≡◌, ℕ, suc, ◌≤◌, ◌+◌, ◌==◌, ◌&&◌, nat_le, nat_lt, if◌then◌else◌, Bool, true, false, List, [], ◌∷◌, length, Option, Some, None, is_some, slice_get, refl, sym, ap, ◌∙◌, arith}
use Rattle.std.specs.List.{list_all, AllByRecursion}
use Rattle.std.proofs.lemmas.List.Sums.{sum_by-cons}
use Rattle.std.proofs.lemmas.Bool.{and_from, and_parts, leb-true, true≢false}
use Rattle.std.specs.Option.{option_map_or}
use Rattle.std.specs.Str.{bytes_eq}
use Rattle.wm_base.specs.Value.{type_place, weight_of}
use Rattle.wm_base.specs.declared.instant.TheConstants.{END}
use Rattle.wm_base.specs.declared.value.Value.{Value}
use Rattle.wm_base.specs.declared.value.Value.TheVariants.{Null, Num, Text, Time, Span}
use Rattle.wm_graph.specs.Parts.{Parts, parts_of, as_hist, as_lock, as_mark, as_piece, as_row, as_savepoint, as_space, as_table, as_touch, row_of, space_of, table_of, version_of}
use Rattle.wm_graph.specs.Rules.{keep_rules, are_cells, are_key_columns, are_savepoints, are_tables, are_typed, collide, differ, fit_columns, fits_column, has_few, has_key, is_given, is_hist, is_key_of, is_light_key, is_lock, is_piece, is_placed, is_row, is_row_of, is_savepoint, is_short, is_space, is_table, is_touch, is_trace, is_typed, key_of, meet, same_column, same_position, same_savepoint, type_of, weight}
use Rattle.wm_spec.specs.Records.{record_at}
use Rattle.wm_spec.specs.declared.record.Record.{Record}
use Rattle.wm_spec.specs.declared.record.Record.TheVariants as records
use Rattle.wm_spec.specs.declared.record.cell_range.CellRange.{CellRange}
use Rattle.wm_spec.specs.declared.record.column.ColumnKind.{ColumnKind}
use Rattle.wm_spec.specs.declared.record.column.ColumnKind.TheVariants as kinds
use Rattle.wm_spec.specs.declared.record.column.TableColumn.{TableColumn}
use Rattle.wm_spec.specs.declared.record.hist.Hist.{Hist}
use Rattle.wm_spec.specs.declared.record.lock.Lock.{Lock}
use Rattle.wm_spec.specs.declared.record.piece.PieceRecord.{PieceRecord}
use Rattle.wm_spec.specs.declared.record.row.RowRecord.{RowRecord}
use Rattle.wm_spec.specs.declared.record.savepoint.Savepoint.{Savepoint}
use Rattle.wm_spec.specs.declared.record.space.Space.{Space}
use Rattle.wm_spec.specs.declared.record.stored.Stored.{Stored}
use Rattle.wm_spec.specs.declared.record.table.Table.{Table}
use Rattle.wm_spec.specs.declared.record.trace.Trace.{Trace}
use Rattle.wm_state.specs.Drafts.{can_keep, is_kept}
use Rattle.wm_state.proofs.Apart.{ruled, each_space, found-passes}
use Rattle.wm_state.proofs.ByKind.{kinds as of_kind, Split, split_of, kinds-one}
use Rattle.wm_state.proofs.Tests.{all_middle}
use Rattle.wm_store.proofs.Fitting.{FitsPage, is_spelled, fits_counters, fits_version, fits_turn, fits_space, fits_savepoint, fits_table, fits_row, fits_piece, fits_touch, fits_mark, fits_lock, fits_hist}

-- ---- records that fit

record IsSmall (t : Table) : Type 0 where
  name : length t.name ≤ 30
  single : length t.key_columns ≤ 1
  few : length t.columns ≤ 32
  names : AllByRecursion (λ (c : TableColumn). length c.name ≤ 30) t.columns

small : (t : Table) → is_table t ≡ true → IsSmall t
small t e =
    let few = nat_le 1 (length t.columns) && nat_le (length t.columns) 32 in
    let names = differ same_column t.columns && (is_short t.name && list_all (λ (c : TableColumn). is_short c.name) t.columns) in
    let h = and_parts (few && names) (are_key_columns t && (if t.versioned then has_key t else true)) e in
    let g = and_parts few names h.0 in
    let k = and_parts (differ same_column t.columns) (is_short t.name && list_all (λ (c : TableColumn). is_short c.name) t.columns) g.1 in
    let l = and_parts (is_short t.name) (list_all (λ (c : TableColumn). is_short c.name) t.columns) k.1 in
    let places = and_parts (are_key_columns t) (if t.versioned then has_key t else true) h.1 in
    record {
      name = leb-true (length t.name) 30 l.0;
      single = leb-true (length t.key_columns) 1 (and_parts (nat_le (length t.key_columns) 1) (list_all (λ place. nat_lt place (length t.columns)) t.key_columns) places.0).0;
      few = leb-true (length t.columns) 32 (and_parts (nat_le 1 (length t.columns)) (nat_le (length t.columns) 32) g.0).1;
      names = each t.columns l.1;
    }
  where
    each : (cs : List TableColumn) → list_all (λ (c : TableColumn). is_short c.name) cs ≡ true → AllByRecursion (λ (c : TableColumn). length c.name ≤ 30) cs
    each [] all = tt
    each (c ∷ cs) all = let h = and_parts (is_short c.name) (list_all (λ (c : TableColumn). is_short c.name) cs) all in (leb-true (length c.name) 30 h.0, each cs h.1)

table_fits : (t : Table) → is_table t ≡ true → FitsPage (records.Table t)
table_fits t e = let s = small t e in fits_table t s.name s.single s.few s.names

space_fits : (a : Space) → is_short a.name ≡ true → is_short a.writer ≡ true → FitsPage (records.Space a)
space_fits a name writer = fits_space a (leb-true (length a.name) 30 name) (leb-true (length a.writer) 30 writer)

savepoint_fits : (x : Savepoint) → is_short x.name ≡ true → FitsPage (records.Savepoint x)
savepoint_fits x name = fits_savepoint x (leb-true (length x.name) 30 name)

-- ---- rows of any values

-- columns have no periods
not_span : (k : ColumnKind) → (4 == type_of k) ≡ true → ⊥
not_span kinds.Number e = true≢false (sym e)
not_span kinds.Text e = true≢false (sym e)
not_span kinds.Time e = true≢false (sym e)

spelled_of : (k : ColumnKind) (v : Value) → can_keep v ≡ true → ((p : _) → v ≡ Span p → (4 == type_of k) ≡ true) → is_spelled v ≡ true
spelled_of k Null filled typed = refl
spelled_of k (Num n) filled typed = refl
spelled_of k (Text t) filled typed = filled
spelled_of k (Time i) filled typed = refl
spelled_of k (Span p) filled typed = absurd (not_span k (typed p refl))

fitted_column : (c : TableColumn) (v : Value) → can_keep v ≡ true → fits_column c v ≡ true → is_spelled v ≡ true
fitted_column c v filled e = spelled_of c.kind v filled (λ p is. sym (ap (fits_column c) is) ∙ e)

fitted : (cs : List TableColumn) (vs : List Value) → list_all can_keep vs ≡ true → fit_columns cs vs ≡ true → (list_all is_spelled vs ≡ true) × (length vs ≡ length cs)
fitted [] [] filled e = (refl, refl)
fitted [] (v ∷ vs) filled e = absurd (true≢false (sym e))
fitted (c ∷ cs) [] filled e = absurd (true≢false (sym e))
fitted (c ∷ cs) (v ∷ vs) filled e =
    let f = and_parts (can_keep v) (list_all can_keep vs) filled in
    let h = and_parts (fits_column c v) (fit_columns cs vs) e in
    let rest = fitted cs vs f.1 h.1 in
    (and_from (is_spelled v) (list_all is_spelled vs) (fitted_column c v f.0 h.0) rest.0, ap suc rest.1)

-- a row of a table fits, where no text in it is empty
row_fits : (r : RowRecord) (t : Table) → is_table t ≡ true → is_row_of r.values t ≡ true → list_all can_keep r.values ≡ true → FitsPage (records.Row r)
row_fits r t e row filled =
    let s = small t e in
    let h = and_parts (fit_columns t.columns r.values) (nat_le (weight r.values) 2000 && is_light_key (key_of t r.values)) row in
    let f = fitted t.columns r.values filled h.0 in
    fits_row r (omega (arith, f.1, s.few)) f.0 (leb-true (weight r.values) 2000 (and_parts (nat_le (weight r.values) 2000) (is_light_key (key_of t r.values)) h.1).0)

-- a key of a table, where no text in it is empty, is one value that is spelled
record OneKey (key : List Value) : Type 0 where
  value : Value
  is : key ≡ value ∷ []
  spelled : is_spelled value ≡ true
  light : weight_of value ≤ 2000

typed_value : (columns : List TableColumn) (place : ℕ) (v : Value) → is_typed columns place v ≡ true → can_keep v ≡ true → is_spelled v ≡ true
typed_value columns place v e kept = by_column (slice_get columns place) e
  where
    by_column : (o : Option TableColumn) → option_map_or (λ (c : TableColumn). type_place v == type_of c.kind) o false ≡ true → is_spelled v ≡ true
    by_column None g = absurd (true≢false (sym g))
    by_column (Some c) g = spelled_of c.kind v kept (λ p is. sym (ap (λ w. type_place w == type_of c.kind) is) ∙ g)

typed_key : (columns : List TableColumn) (places : List ℕ) (key : List Value) → length places ≤ 1 → nat_lt 0 (length places) ≡ true → are_typed columns places key ≡ true → weight key ≤ 200 → list_all can_keep key ≡ true → OneKey key
typed_key columns [] key single some e light kept = absurd (true≢false (sym some))
typed_key columns (place ∷ other ∷ places) key single some e light kept = absurd (omega (arith, single))
typed_key columns (place ∷ []) [] single some e light kept = absurd (true≢false (sym e))
typed_key columns (place ∷ []) (v ∷ w ∷ vs) single some e light kept = absurd (true≢false (sym (and_parts (is_typed columns place v) false e).1))
typed_key columns (place ∷ []) (v ∷ []) single some e light kept = record {
  value = v;
  is = refl;
  spelled = typed_value columns place v (and_parts (is_typed columns place v) true e).0 (and_parts (can_keep v) true kept).0;
  light = omega (arith, light, sum_by-cons weight_of v []);
}

one_key : (key : List Value) (t : Table) → is_table t ≡ true → is_key_of key t ≡ true → list_all can_keep key ≡ true → OneKey key
one_key key t table e kept =
    let h = and_parts (nat_le (weight key) 200) (has_key t && are_typed t.columns t.key_columns key) e in
    let g = and_parts (has_key t) (are_typed t.columns t.key_columns key) h.1 in
    typed_key t.columns t.key_columns key (small t table).single g.0 g.1 (leb-true (weight key) 200 h.0) kept

-- and a piece whose key is one of the table
piece_fits : (x : PieceRecord) (t : Table) → is_table t ≡ true → is_key_of x.cells.key t ≡ true → list_all can_keep x.cells.key ≡ true → FitsPage (records.Piece x)
piece_fits x t table key filled = let k = one_key x.cells.key t table key filled in fits_piece x k.value k.is k.spelled k.light

-- and a touch, and a mark
touch_fits : (x : Trace) (t : Table) → is_table t ≡ true → is_key_of x.cells.key t ≡ true → list_all can_keep x.cells.key ≡ true → FitsPage (records.Touch x)
touch_fits x t table key filled = let k = one_key x.cells.key t table key filled in fits_touch x k.value k.is k.spelled k.light

mark_fits : (x : Trace) (t : Table) → is_table t ≡ true → is_key_of x.cells.key t ≡ true → list_all can_keep x.cells.key ≡ true → FitsPage (records.Mark x)
mark_fits x t table key filled = let k = one_key x.cells.key t table key filled in fits_mark x k.value k.is k.spelled k.light

-- and a lock and an entry of a log, if its user is short
lock_fits : (x : Lock) (t : Table) → is_table t ≡ true → is_key_of x.cells.key t ≡ true → list_all can_keep x.cells.key ≡ true → is_short x.user ≡ true → FitsPage (records.Lock x)
lock_fits x t table key filled user = let k = one_key x.cells.key t table key filled in fits_lock x k.value k.is k.spelled k.light (leb-true (length x.user) 30 user)

hist_fits : (x : Hist) (t : Table) → is_table t ≡ true → is_key_of x.cells.key t ≡ true → list_all can_keep x.cells.key ≡ true → is_short x.user ≡ true → FitsPage (records.Hist x)
hist_fits x t table key filled user = let k = one_key x.cells.key t table key filled in fits_hist x k.value k.is k.spelled k.light (leb-true (length x.user) 30 user)

-- ---- what the rules say of all records of a kind

each_table : (p : Parts) → are_tables p.tables ≡ true → list_all is_table p.tables ≡ true
each_table p e =
    let h = and_parts (nat_le (length p.tables) 256) _ e in
    let g = and_parts (differ (λ (t u : Table). t.number == u.number) p.tables) _ h.1 in
    (and_parts (differ (λ (t u : Table). bytes_eq t.name u.name) p.tables) (list_all is_table p.tables) g.1).1

each_savepoint : (p : Parts) (work : ℕ) → are_savepoints p work ≡ true → list_all (is_savepoint (space_of p.spaces) (version_of p.versions) work) p.savepoints ≡ true
each_savepoint p work e =
    let h = and_parts (differ (λ (x y : Savepoint). x.making == y.making) p.savepoints) _ e in
    let g = and_parts (differ same_savepoint p.savepoints) _ h.1 in
    (and_parts (list_all (has_few p.savepoints) p.spaces) (list_all (is_savepoint (space_of p.spaces) (version_of p.versions) work) p.savepoints) g.1).1

-- the table of a number is in order, and passes the test that a table of the number passes
record TableThat (passes : Table → Bool) : Type 0 where
  table : Table
  well : is_table table ≡ true
  that : passes table ≡ true

table_that : (p : Parts) (n : ℕ) (passes : Table → Bool) → are_tables p.tables ≡ true → option_map_or passes (table_of p.tables n) false ≡ true → TableThat passes
table_that p n passes rules e = by_table (table_of p.tables n) refl e
  where
    by_table : (o : Option Table) → table_of p.tables n ≡ o → option_map_or passes o false ≡ true → TableThat passes
    by_table None found e = absurd (true≢false (sym e))
    by_table (Some t) found e = record { table = t; well = (found-passes (λ (u : Table). u.number == n) is_table p.tables t found (each_table p rules)).1; that = e }

-- what is asked of each record of a kind holds of the one that an id has
one_of : {A : Type 0} (as_kind : Record → Option A) (P : A → Bool) (ss : List Stored) (id : ℕ) (r : Record) (a : A) → record_at ss id ≡ Some r → as_kind r ≡ Some a → list_all P (of_kind as_kind ss) ≡ true → P a ≡ true
one_of as_kind P ss id r a found is each = by_split (split_of ss id r found)
  where
    by_split : Split ss id r → P a ≡ true
    by_split s = all_middle P a (of_kind as_kind s.front) (of_kind as_kind s.back) (ap (list_all P) (sym (ap (of_kind as_kind) s.is ∙ kinds-one as_kind s.front s.back id r a is)) ∙ each)

-- ---- a record in order fits

space_in : (spaces : ℕ → Option Space) (a : Space) → is_space spaces a ≡ true → FitsPage (records.Space a)
space_in spaces a e =
    let h = and_parts (is_placed spaces a && (is_short a.name && is_short a.writer)) _ e in
    let g = and_parts (is_short a.name) (is_short a.writer) (and_parts (is_placed spaces a) (is_short a.name && is_short a.writer) h.0).1 in
    space_fits a g.0 g.1

savepoint_in : (p : Parts) (work : ℕ) (x : Savepoint) → is_savepoint (space_of p.spaces) (version_of p.versions) work x ≡ true → FitsPage (records.Savepoint x)
savepoint_in p work x e =
    let h = and_parts (is_short x.name && nat_le x.making (work + 2)) _ e in savepoint_fits x (and_parts (is_short x.name) (nat_le x.making (work + 2)) h.0).0

row_in : (p : Parts) (next : ℕ) (r : RowRecord) → are_tables p.tables ≡ true → is_row (table_of p.tables) next r ≡ true → list_all can_keep r.values ≡ true → FitsPage (records.Row r)
row_in p next r rules e kept =
    let t = table_that p r.table (is_row_of r.values) rules (and_parts (nat_lt r.stamp next) _ e).1 in
    row_fits r t.table t.well t.that kept

-- cells of a table have a key of it
cells_of : (p : Parts) (c : CellRange) → are_tables p.tables ≡ true → are_cells (table_of p.tables) c ≡ true → TableThat (is_key_of c.key)
cells_of p c rules e = table_that p c.table (is_key_of c.key) rules (and_parts (nat_lt c.from c.till && nat_le c.till END) _ e).1

piece_in : (p : Parts) (next : ℕ) (x : PieceRecord) → are_tables p.tables ≡ true → is_piece (table_of p.tables) (version_of p.versions) (row_of p.rows) next x ≡ true → list_all can_keep x.cells.key ≡ true → FitsPage (records.Piece x)
piece_in p next x rules e kept =
    let h = and_parts (is_some (version_of p.versions x.version)) _ e in
    let t = cells_of p x.cells rules (and_parts (are_cells (table_of p.tables) x.cells) _ h.1).0 in
    piece_fits x t.table t.well t.that kept

trace_cells : (p : Parts) (x : Trace) → are_tables p.tables ≡ true → is_trace (table_of p.tables) (space_of p.spaces) x ≡ true → TableThat (is_key_of x.cells.key)
trace_cells p x rules e = cells_of p x.cells rules (and_parts (are_cells (table_of p.tables) x.cells) (is_given (space_of p.spaces) x.space x.place) e).0

touch_in : (p : Parts) (x : Trace) → are_tables p.tables ≡ true → is_touch (table_of p.tables) (space_of p.spaces) x ≡ true → list_all can_keep x.cells.key ≡ true → FitsPage (records.Touch x)
touch_in p x rules e kept = let t = trace_cells p x rules (and_parts (is_trace (table_of p.tables) (space_of p.spaces) x) _ e).0 in touch_fits x t.table t.well t.that kept

mark_in : (p : Parts) (x : Trace) → are_tables p.tables ≡ true → is_trace (table_of p.tables) (space_of p.spaces) x ≡ true → list_all can_keep x.cells.key ≡ true → FitsPage (records.Mark x)
mark_in p x rules e kept = let t = trace_cells p x rules e in mark_fits x t.table t.well t.that kept

lock_in : (p : Parts) (work : ℕ) (x : Lock) → are_tables p.tables ≡ true → is_lock (table_of p.tables) (space_of p.spaces) work x ≡ true → list_all can_keep x.cells.key ≡ true → FitsPage (records.Lock x)
lock_in p work x rules e kept =
    let h = and_parts (is_short x.user && nat_le x.making (work + 2)) (are_cells (table_of p.tables) x.cells && is_given (space_of p.spaces) x.space x.place) e in
    let t = cells_of p x.cells rules (and_parts (are_cells (table_of p.tables) x.cells) (is_given (space_of p.spaces) x.space x.place) h.1).0 in
    lock_fits x t.table t.well t.that kept (and_parts (is_short x.user) (nat_le x.making (work + 2)) h.0).0

hist_in : (p : Parts) (next : ℕ) (x : Hist) → are_tables p.tables ≡ true → is_hist (table_of p.tables) (space_of p.spaces) (row_of p.rows) next x ≡ true → list_all can_keep x.cells.key ≡ true → FitsPage (records.Hist x)
hist_in p next x rules e kept =
    let h = and_parts (is_short x.user && option_map_or (λ (s : Space). nat_lt x.position s.log_length) (space_of p.spaces x.space) false) _ e in
    let user = (and_parts (is_short x.user) (option_map_or (λ (s : Space). nat_lt x.position s.log_length) (space_of p.spaces x.space) false) h.0).0 in
    let t = cells_of p x.cells rules (and_parts (are_cells (table_of p.tables) x.cells) _ h.1).0 in
    hist_fits x t.table t.well t.that kept user

-- a record of records that keep the rules fits a page, where no text in it is empty
pub record_fits : (ss : List Stored) (id : ℕ) (r : Record) → keep_rules (parts_of ss) ≡ true → record_at ss id ≡ Some r → is_kept r ≡ true → FitsPage r
unfolding parts_of
record_fits ss id (records.Counters c) rules found kept = fits_counters c
record_fits ss id (records.Version v) rules found kept = fits_version v
record_fits ss id (records.Turn t) rules found kept = fits_turn t
record_fits ss id (records.Table t) rules found kept =
    table_fits t (one_of as_table is_table ss id (records.Table t) t found refl (each_table (parts_of ss) (ruled (parts_of ss) rules).tables))
record_fits ss id (records.Space a) rules found kept =
    let p = parts_of ss in
    space_in (space_of p.spaces) a (one_of as_space (is_space (space_of p.spaces)) ss id (records.Space a) a found refl (each_space p.spaces (ruled p rules).spaces))
record_fits ss id (records.Savepoint x) rules found kept =
    let p = parts_of ss in
    let g = ruled p rules in
    savepoint_in p g.counters.work x (one_of as_savepoint (is_savepoint (space_of p.spaces) (version_of p.versions) g.counters.work) ss id (records.Savepoint x) x found refl (each_savepoint p g.counters.work g.savepoints))
record_fits ss id (records.Row r) rules found kept =
    let p = parts_of ss in
    let g = ruled p rules in
    let each = (and_parts (differ (λ (r q : RowRecord). r.stamp == q.stamp) p.rows) (list_all (is_row (table_of p.tables) g.counters.next_stamp) p.rows) g.rows).1 in
    row_in p g.counters.next_stamp r g.tables (one_of as_row (is_row (table_of p.tables) g.counters.next_stamp) ss id (records.Row r) r found refl each) kept
record_fits ss id (records.Piece x) rules found kept =
    let p = parts_of ss in
    let g = ruled p rules in
    let test = is_piece (table_of p.tables) (version_of p.versions) (row_of p.rows) g.counters.next_stamp in
    piece_in p g.counters.next_stamp x g.tables (one_of as_piece test ss id (records.Piece x) x found refl (and_parts (differ collide p.pieces) (list_all test p.pieces) g.pieces).1) kept
record_fits ss id (records.Touch x) rules found kept =
    let p = parts_of ss in
    let g = ruled p rules in
    let test = is_touch (table_of p.tables) (space_of p.spaces) in
    touch_in p x g.tables (one_of as_touch test ss id (records.Touch x) x found refl (and_parts (differ meet p.touches) (list_all test p.touches) g.touches).1) kept
record_fits ss id (records.Lock x) rules found kept =
    let p = parts_of ss in
    let g = ruled p rules in
    let test = is_lock (table_of p.tables) (space_of p.spaces) g.counters.work in
    lock_in p g.counters.work x g.tables (one_of as_lock test ss id (records.Lock x) x found refl (and_parts (differ (λ (x y : Lock). x.making == y.making) p.locks) (list_all test p.locks) g.locks).1) kept
record_fits ss id (records.Mark x) rules found kept =
    let p = parts_of ss in
    let g = ruled p rules in
    let test = is_trace (table_of p.tables) (space_of p.spaces) in
    mark_in p x g.tables (one_of as_mark test ss id (records.Mark x) x found refl (and_parts (differ meet p.marks) (list_all test p.marks) g.marks).1) kept
record_fits ss id (records.Hist x) rules found kept =
    let p = parts_of ss in
    let g = ruled p rules in
    let test = is_hist (table_of p.tables) (space_of p.spaces) (row_of p.rows) g.counters.next_stamp in
    hist_in p g.counters.next_stamp x g.tables (one_of as_hist test ss id (records.Hist x) x found refl (and_parts (differ same_position p.hists) (list_all test p.hists) g.hists).1) kept
