-- Records whose spellings fit one page.
use Rattle.std.proofs.Common.{◌≡◌, ℕ, ◌+◌, ◌*◌, ◌^◌, ◌<◌, ◌≤◌, nat_lt, Bool, true, false, List, [], ◌∷◌, length, refl, sym, ap, subst, ◌∙◌, arith}
use Rattle.std.specs.List.{flat_map, list_all, sum_by, AllByRecursion}
use Rattle.std.proofs.lemmas.List.{length-append}
use Rattle.std.proofs.lemmas.List.Concat.{flat_map-cons}
use Rattle.std.proofs.lemmas.List.Sums.{sum_by-cons}
use Rattle.std.proofs.lemmas.Bool.{and_parts, false≢true}
use Rattle.wm_base.specs.Value.{weight_of}
use Rattle.wm_base.specs.declared.value.Value.{Value}
use Rattle.wm_base.specs.declared.value.Value.TheVariants.{Null, Num, Text, Time, Span}
use Rattle.wm_codec.specs.Fields.{spell_value, spell_key, spell_key_columns, CanSpellKey, CanSpellKeyColumns, CanSpellValue, cell_range}
use Rattle.wm_codec.specs.Spelling.{CanSpell, spelling, column}
use Rattle.wm_spec.specs.declared.record.Record.{Record}
use Rattle.wm_spec.specs.declared.record.Record.TheVariants as records
use Rattle.wm_spec.specs.declared.record.cell_range.CellRange.{CellRange}
use Rattle.wm_spec.specs.declared.record.column.TableColumn.{TableColumn}
use Rattle.wm_spec.specs.declared.record.counters.Counters.{Counters}
use Rattle.wm_spec.specs.declared.record.hist.Hist.{Hist}
use Rattle.wm_spec.specs.declared.record.lock.Lock.{Lock}
use Rattle.wm_spec.specs.declared.record.piece.PieceRecord.{PieceRecord}
use Rattle.wm_spec.specs.declared.record.row.RowRecord.{RowRecord}
use Rattle.wm_spec.specs.declared.record.savepoint.Savepoint.{Savepoint}
use Rattle.wm_spec.specs.declared.record.space.Space.{Space}
use Rattle.wm_spec.specs.declared.record.table.Table.{Table}
use Rattle.wm_spec.specs.declared.record.trace.Trace.{Trace}
use Rattle.wm_spec.specs.declared.record.turn.Turn.{Turn}
use Rattle.wm_spec.specs.declared.record.version.Version.{Version}

-- a record has a spelling of at most 4,084 bytes
abbrev pub FitsPage : Record → Type 0
FitsPage r = CanSpell r × (length (spelling r) ≤ 4084)

-- ---- what is of one length

pub fits_counters : (c : Counters) → FitsPage (records.Counters c)
unfolding spelling
fits_counters c = ((tt, (tt, (tt, (tt, tt)))), let e : length (spelling (records.Counters c)) ≡ 37 = refl in omega (arith, e))

pub fits_version : (v : Version) → FitsPage (records.Version v)
unfolding spelling
fits_version v = ((tt, (tt, tt)), let e : length (spelling (records.Version v)) ≡ 21 = refl in omega (arith, e))

pub fits_turn : (t : Turn) → FitsPage (records.Turn t)
unfolding spelling
fits_turn t = ((tt, (tt, (tt, tt))), let e : length (spelling (records.Turn t)) ≡ 21 = refl in omega (arith, e))

-- ---- workspaces

in_text : (t : List ℕ) → length t ≤ 30 → length t < 2 ^ 16
in_text t e = omega (arith, e)

pub fits_space : (s : Space) → length s.name ≤ 30 → length s.writer ≤ 30 → FitsPage (records.Space s)
unfolding spelling
fits_space s name writer = (
  (tt, (in_text s.name name, (tt, (tt, (tt, (tt, (tt, (tt, (tt, (tt, (tt, (tt, (tt, in_text s.writer writer))))))))))))),
  simp length-append (omega (arith, name, writer)),
)

-- ---- savepoints

pub fits_savepoint : (x : Savepoint) → length x.name ≤ 30 → FitsPage (records.Savepoint x)
unfolding spelling
fits_savepoint x name = (
  (tt, (in_text x.name name, (tt, (tt, (tt, (tt, (tt, (tt, (tt, (tt, tt)))))))))),
  simp length-append (omega (arith, name)),
)

-- ---- tables

-- a column whose name is short
abbrev pub HasShortName : TableColumn → Type 0
HasShortName c = length c.name ≤ 30

can_columns : (cs : List TableColumn) → AllByRecursion HasShortName cs → AllByRecursion column.CanSpell cs
can_columns [] names = tt
can_columns (c ∷ cs) names = ((in_text c.name names.0, (tt, (tt, tt))), can_columns cs names.1)

length-column : (c : TableColumn) → length (column.spell c) ≡ 6 + length c.name
length-column c = rw length-append (omega arith)

length-columns : (cs : List TableColumn) → AllByRecursion HasShortName cs → length (flat_map column.spell cs) ≤ 36 * length cs
length-columns [] names = omega arith
length-columns (c ∷ cs) names =
    let one = ap length (flat_map-cons column.spell c cs) ∙ length-append (column.spell c) (flat_map column.spell cs) in
    omega (arith, one, length-column c, names.0, length-columns cs names.1)

can_key_columns : (places : List ℕ) → length places ≤ 1 → CanSpellKeyColumns places
can_key_columns [] single = tt
can_key_columns (place ∷ []) single = tt
can_key_columns (place ∷ other ∷ places) single = absurd (omega (arith, single))

length-key_columns : (places : List ℕ) → length (spell_key_columns places) ≡ 2
length-key_columns [] = refl
length-key_columns (place ∷ places) = refl

pub fits_table : (t : Table) → length t.name ≤ 30 → length t.key_columns ≤ 1 → length t.columns ≤ 32 → AllByRecursion HasShortName t.columns → FitsPage (records.Table t)
unfolding spelling
fits_table t name single few names = (
  (tt, (in_text t.name name, (tt, (tt, (tt, (can_key_columns t.key_columns single, (omega (arith, few), can_columns t.columns names))))))),
  simp length-append (omega (arith, name, few, length-key_columns t.key_columns, length-columns t.columns names)),
)

-- ---- rows

-- a value that is no empty text and no period
abbrev pub is_spelled : Value → Bool
is_spelled (Text t) = nat_lt 0 (length t)
is_spelled (Span p) = false
is_spelled v = true

-- it has a spelling, where it is not too heavy
can_value : (v : Value) → is_spelled v ≡ true → weight_of v ≤ 2000 → CanSpellValue v
can_value Null e light = tt
can_value (Num n) e light = tt
can_value (Text t) e light = (some (length t) e, omega (arith, light))
  where
    some : (n : ℕ) → nat_lt 0 n ≡ true → 0 < n
    some n e = grind (arith, e)
can_value (Time i) e light = tt
can_value (Span p) e light = absurd (false≢true e)

-- which is no longer than it weighs
length-value : (v : Value) → length (spell_value v) ≤ weight_of v
unfolding spell_value
length-value Null = omega arith
length-value (Num n) = omega arith
length-value (Text t) = omega arith
length-value (Time i) = omega arith
length-value (Span p) = omega arith

can_values : (vs : List Value) → list_all is_spelled vs ≡ true → sum_by weight_of vs ≤ 2000 → AllByRecursion CanSpellValue vs
can_values [] e light = tt
can_values (v ∷ vs) e light =
    let h = and_parts (is_spelled v) (list_all is_spelled vs) e in
    let one = sum_by-cons weight_of v vs in
    (can_value v h.0 (omega (arith, light, one)), can_values vs h.1 (omega (arith, light, one)))

length-values : (vs : List Value) → length (flat_map spell_value vs) ≤ sum_by weight_of vs
length-values [] = omega arith
length-values (v ∷ vs) =
    let one = ap length (flat_map-cons spell_value v vs) ∙ length-append (spell_value v) (flat_map spell_value vs) in
    omega (arith, one, length-value v, length-values vs, sum_by-cons weight_of v vs)

pub fits_row : (r : RowRecord) → length r.values < 256 → list_all is_spelled r.values ≡ true → sum_by weight_of r.values ≤ 2000 → FitsPage (records.Row r)
unfolding spelling
fits_row r few spelled light = ((tt, (tt, (few, can_values r.values spelled light))), omega (arith, light, length-values r.values))

-- ---- cells

can_cells : (c : CellRange) (v : Value) → c.key ≡ v ∷ [] → is_spelled v ≡ true → weight_of v ≤ 2000 → cell_range.CanSpell c
can_cells c v is spelled light = (tt, (subst CanSpellKey (sym is) (can_value v spelled light), (tt, tt)))

length-key : (key : List Value) (v : Value) → key ≡ v ∷ [] → length (spell_key key) ≤ weight_of v
unfolding spell_key
length-key key v is = rw is (length-value v)

-- ---- pieces

pub fits_piece : (x : PieceRecord) (v : Value) → x.cells.key ≡ v ∷ [] → is_spelled v ≡ true → weight_of v ≤ 2000 → FitsPage (records.Piece x)
unfolding spelling
fits_piece x v is spelled light = (
  (tt, (can_cells x.cells v is spelled light, (tt, (tt, tt)))),
  simp length-append (omega (arith, light, length-key x.cells.key v is)),
)

-- ---- touches and marks

pub fits_touch : (x : Trace) (v : Value) → x.cells.key ≡ v ∷ [] → is_spelled v ≡ true → weight_of v ≤ 2000 → FitsPage (records.Touch x)
unfolding spelling
fits_touch x v is spelled light = (
  (tt, (tt, (can_cells x.cells v is spelled light, tt))),
  simp length-append (omega (arith, light, length-key x.cells.key v is)),
)

pub fits_mark : (x : Trace) (v : Value) → x.cells.key ≡ v ∷ [] → is_spelled v ≡ true → weight_of v ≤ 2000 → FitsPage (records.Mark x)
unfolding spelling
fits_mark x v is spelled light = (
  (tt, (tt, (can_cells x.cells v is spelled light, tt))),
  simp length-append (omega (arith, light, length-key x.cells.key v is)),
)

-- ---- locks

pub fits_lock : (x : Lock) (v : Value) → x.cells.key ≡ v ∷ [] → is_spelled v ≡ true → weight_of v ≤ 2000 → length x.user ≤ 30 → FitsPage (records.Lock x)
unfolding spelling
fits_lock x v is spelled light user = (
  (tt, (tt, (can_cells x.cells v is spelled light, (tt, (in_text x.user user, tt))))),
  simp length-append (omega (arith, light, length-key x.cells.key v is, user)),
)

-- ---- entries of logs

pub fits_hist : (x : Hist) (v : Value) → x.cells.key ≡ v ∷ [] → is_spelled v ≡ true → weight_of v ≤ 2000 → length x.user ≤ 30 → FitsPage (records.Hist x)
unfolding spelling
fits_hist x v is spelled light user = (
  (tt, (tt, (can_cells x.cells v is spelled light, (tt, (tt, (tt, (tt, in_text x.user user))))))),
  simp length-append (omega (arith, light, length-key x.cells.key v is, user)),
)
