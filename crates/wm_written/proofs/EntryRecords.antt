-- The rows, the pieces and the records of entries that one line writes keep the rules.
use Rattle.std.proofs.Common.{◌≡◌, ℕ, suc, ◌+◌, ◌==◌, nat_lt, nat_le, Bool, true, false, not, ◌&&◌, ◌||◌, cond, List, [], ◌∷◌, length, Option, Some, None, is_none, is_some, refl, sym, ap, ◌∙◌, arith}
use Rattle.std.proofs.lemmas.Bool.{eq-eqb, and_from, and_parts, and_right, leb-true, ltb-true, true≢false}
use Rattle.std.specs.Bool.{then_some}
use Rattle.std.proofs.lemmas.List.Elements.{All-nil, All-cons}
use Rattle.std.proofs.lemmas.Option.{same_Some}
use Rattle.std.specs.List.{All, list_all, list_any, slice_index_or}
use Rattle.std.specs.Option.{option_or, option_map, option_map_or, option_and_then}
use Rattle.wm_base.proofs.Plain.{nat_le-itself}
use Rattle.wm_base.specs.declared.instant.TheConstants.{END}
use Rattle.wm_base.specs.declared.row.Row.{Row}
use Rattle.wm_graph.specs.Parts.{row_of}
use Rattle.wm_graph.specs.Rules.{differ, is_row, is_row_of, is_key_of, is_key, key_of, is_piece, is_row_at, are_cells, is_short, is_hist, same_position}
use Rattle.wm_spec.specs.Lists.{Entry, Cell, Told, told, told_of, covers}
use Rattle.wm_spec.specs.declared.record.cell_range.CellRange.{CellRange}
use Rattle.wm_spec.specs.declared.record.hist.Hist.{Hist}
use Rattle.wm_spec.specs.declared.record.row.RowRecord.{RowRecord}
use Rattle.wm_spec.specs.declared.record.space.Space.{Space}
use Rattle.wm_spec.specs.declared.record.table.Table.{Table}
use Rattle.wm_spec.specs.declared.record.version.Version.{Version}
use Rattle.wm_state.specs.Entries.{IsStamped, AreStamped, is_keyed, fits_table, is_well, piece_of, pieces_of, rows_in, hist_of, hists_kept}
use Rattle.wm_state.specs.Standing.{IsReal, has_history, is_ready}
use Rattle.wm_state.proofs.Apart.{found-passes}
use Rattle.wm_state.proofs.Tests.{none_if}

-- the row of an entry
abbrev pub row_with : Entry → Row → RowRecord
row_with e row = record { stamp = e.stamp; table = e.table; values = row.values }

-- an entry's row and the others
abbrev rows_with : Entry → Option Row → List RowRecord → List RowRecord
rows_with e None rows = rows
rows_with e (Some row) rows = row_with e row ∷ rows

rows_are : (e : Entry) (es : List Entry) → rows_in (e ∷ es) ≡ rows_with e e.row (rows_in es)
rows_are e es = by_row e.row refl
  where
    by_row : (o : Option Row) → e.row ≡ o → rows_in (e ∷ es) ≡ rows_with e o (rows_in es)
    by_row None is = rw is refl
    by_row (Some row) is = rw is refl

-- ---- what an entry's table says of it

pub record Well (tables : ℕ → Option Table) (e : Entry) : Type 0 where
  pub table : Table
  pub is : tables e.table ≡ Some table
  pub key : is_key_of e.key table ≡ true
  pub row : (row : Row) → e.row ≡ Some row → is_keyed table e.key row ≡ true

pub well_of : (tables : ℕ → Option Table) (e : Entry) → is_well tables e ≡ true → Well tables e
well_of tables e well = by_table (tables e.table) refl well
  where
    by_table : (o : Option Table) → tables e.table ≡ o → option_map_or (fits_table e.key e.row) o false ≡ true → Well tables e
    by_table None is h = absurd (true≢false (sym h))
    by_table (Some t) is h =
        let g = and_parts (is_key_of e.key t) (option_map_or (is_keyed t e.key) e.row true) h in
        record { table = t; is = is; key = g.0; row = λ row found. sym (ap (λ o. option_map_or (is_keyed t e.key) o true) found) ∙ g.1 }

-- ---- rows

-- the stamps of the rows are not below the first
pub rows_from : (table stamp low : ℕ) (es : List Entry) → AreStamped table stamp es → nat_le low stamp ≡ true → list_all (λ (r : RowRecord). nat_le low r.stamp) (rows_in es) ≡ true
rows_from table stamp low [] stamped le = refl
rows_from table stamp low (e ∷ es) stamped le = ap (list_all (λ (r : RowRecord). nat_le low r.stamp)) (rows_are e es) ∙ by_row e.row (rows_from table (stamp + 1) low es stamped.1 (later low stamp le))
  where
    later : (m n : ℕ) → nat_le m n ≡ true → nat_le m (n + 1) ≡ true
    later m n e = grind (arith, e)

    by_row : (o : Option Row) → list_all (λ (r : RowRecord). nat_le low r.stamp) (rows_in es) ≡ true → list_all (λ (r : RowRecord). nat_le low r.stamp) (rows_with e o (rows_in es)) ≡ true
    by_row None rest = rest
    by_row (Some row) rest = and_from (nat_le low e.stamp) _ (ap (nat_le low) stamped.0.stamp ∙ le) rest

not_above : (m n k : ℕ) → m ≡ k → nat_le (k + 1) n ≡ true → (m == n) ≡ false
not_above m n k same le = grind (arith, same, le)

pub rows_differ : (table stamp : ℕ) (es : List Entry) → AreStamped table stamp es → differ (λ (r q : RowRecord). r.stamp == q.stamp) (rows_in es) ≡ true
rows_differ table stamp [] stamped = refl
rows_differ table stamp (e ∷ es) stamped = ap (differ (λ (r q : RowRecord). r.stamp == q.stamp)) (rows_are e es) ∙ by_row e.row (rows_differ table (stamp + 1) es stamped.1)
  where
    apart : list_any (λ (q : RowRecord). e.stamp == q.stamp) (rows_in es) ≡ false
    apart = none_if (λ (q : RowRecord). nat_le (stamp + 1) q.stamp) (λ (q : RowRecord). e.stamp == q.stamp) (λ q le. not_above e.stamp q.stamp stamp stamped.0.stamp le) (rows_in es)
        (rows_from table (stamp + 1) (stamp + 1) es stamped.1 (nat_le-itself (stamp + 1)))

    by_row : (o : Option Row) → differ (λ (r q : RowRecord). r.stamp == q.stamp) (rows_in es) ≡ true → differ (λ (r q : RowRecord). r.stamp == q.stamp) (rows_with e o (rows_in es)) ≡ true
    by_row None rest = rest
    by_row (Some row) rest = and_from (not (list_any (λ (q : RowRecord). e.stamp == q.stamp) (rows_in es))) _ (ap not apart) rest

-- a stamp of them is below what comes after all of them
stamp_below : (m n k next : ℕ) → m ≡ n → nat_le (n + suc k) next ≡ true → nat_lt m next ≡ true
stamp_below m n k next same le = grind (arith, same, le)

rest_below : (n k next : ℕ) → nat_le (n + suc k) next ≡ true → nat_le (n + 1 + k) next ≡ true
rest_below n k next le = grind (arith, le)

pub rows_well : (tables : ℕ → Option Table) (table stamp next : ℕ) (es : List Entry) → AreStamped table stamp es → nat_le (stamp + length es) next ≡ true → list_all (is_well tables) es ≡ true
    → list_all (is_row tables next) (rows_in es) ≡ true
rows_well tables table stamp next [] stamped le well = refl
rows_well tables table stamp next (e ∷ es) stamped le well =
    let h = and_parts (is_well tables e) (list_all (is_well tables) es) well in
    ap (list_all (is_row tables next)) (rows_are e es)
    ∙ by_row e.row refl (well_of tables e h.0) (rows_well tables table (stamp + 1) next es stamped.1 (rest_below stamp (length es) next le) h.1)
  where
    by_row : (o : Option Row) → e.row ≡ o → Well tables e → list_all (is_row tables next) (rows_in es) ≡ true → list_all (is_row tables next) (rows_with e o (rows_in es)) ≡ true
    by_row None is w rest = rest
    by_row (Some row) is w rest =
        and_from (is_row tables next (row_with e row)) _
        (and_from (nat_lt e.stamp next) _ (stamp_below e.stamp stamp (length es) next stamped.0.stamp le)
        (ap (λ o. option_map_or (is_row_of row.values) o false) w.is ∙ (and_parts (is_row_of row.values w.table) (is_key e.key (key_of w.table row.values)) (w.row row is)).0))
        rest

-- ---- what is found

row_first : (e : Entry) (es : List Entry) (row : Row) → e.row ≡ Some row → row_of (rows_in (e ∷ es)) e.stamp ≡ Some (row_with e row)
row_first e es row is = ap (λ rows. row_of rows e.stamp) (rows_are e es ∙ ap (λ o. rows_with e o (rows_in es)) is) ∙ rw (eq-eqb e.stamp e.stamp refl) refl

row_later : (table stamp : ℕ) (e : Entry) (es : List Entry) → AreStamped table stamp (e ∷ es) → (k : ℕ) (r : RowRecord) → row_of (rows_in es) k ≡ Some r → row_of (rows_in (e ∷ es)) k ≡ Some r
row_later table stamp e es stamped k r found = ap (λ rows. row_of rows k) (rows_are e es) ∙ by_row e.row
  where
    is_new : ((r.stamp == k) ≡ true) × (nat_le (stamp + 1) r.stamp ≡ true)
    is_new = found-passes (λ (x : RowRecord). x.stamp == k) (λ (x : RowRecord). nat_le (stamp + 1) x.stamp) (rows_in es) r found
        (rows_from table (stamp + 1) (stamp + 1) es stamped.1 (nat_le-itself (stamp + 1)))

    apart : (m n k s : ℕ) → m ≡ s → (n == k) ≡ true → nat_le (s + 1) n ≡ true → (m == k) ≡ false
    apart m n k s same is le = grind (arith, same, is, le)

    by_row : (o : Option Row) → row_of (rows_with e o (rows_in es)) k ≡ Some r
    by_row None = found
    by_row (Some row) = rw (apart e.stamp r.stamp k stamp stamped.0.stamp is_new.0 is_new.1) found

-- the row that is told at a cell is found by its stamp
pub told_row : (table stamp : ℕ) (es : List Entry) → AreStamped table stamp es → (c : Cell) (t : Told) (row : Row) → told es c ≡ Some t → t.row ≡ Some row
    → option_map (λ (r : RowRecord). r.values) (row_of (rows_in es) t.stamp) ≡ Some row.values
told_row table stamp [] stamped c t row found is = cc
told_row table stamp (e ∷ es) stamped c t row found is = by_told (told es c) refl (told_row table (stamp + 1) es stamped.1 c t row) (covers e c) found
  where
    still : (o : Option RowRecord) → row_of (rows_in es) t.stamp ≡ o → option_map (λ (r : RowRecord). r.values) o ≡ Some row.values
        → option_map (λ (r : RowRecord). r.values) (row_of (rows_in (e ∷ es)) t.stamp) ≡ Some row.values
    still None at h = cc
    still (Some r) at h = ap (option_map (λ (r : RowRecord). r.values)) (row_later table stamp e es stamped t.stamp r at) ∙ h

    by_told : (o : Option Told) → told es c ≡ o
        → (told es c ≡ Some t → t.row ≡ Some row → option_map (λ (r : RowRecord). r.values) (row_of (rows_in es) t.stamp) ≡ Some row.values)
        → (b : Bool) → option_or o (then_some b (told_of e)) ≡ Some t → option_map (λ (r : RowRecord). r.values) (row_of (rows_in (e ∷ es)) t.stamp) ≡ Some row.values
    by_told (Some x) at rest b h = still (row_of (rows_in es) t.stamp) refl (rest (at ∙ h) is)
    by_told None at rest true h =
        let same : told_of e ≡ t = same_Some (told_of e) t h in
        ap (λ (x : Told). option_map (λ (r : RowRecord). r.values) (row_of (rows_in (e ∷ es)) x.stamp)) (sym same)
        ∙ ap (option_map (λ (r : RowRecord). r.values)) (row_first e es row (ap (λ (x : Told). x.row) same ∙ is))
    by_told None at rest false h = cc

-- ---- pieces

-- the cells of an entry are those of its table, its stamp was given, and its row is there
pub cells_well : (tables : ℕ → Option Table) (rows : ℕ → Option RowRecord) (table stamp next : ℕ) (e : Entry) (cells : CellRange) → cells ≡ record { table = e.table; key = e.key; from = e.from; till = e.till } → IsStamped table stamp e
    → Well tables e → nat_lt e.stamp next ≡ true → ((row : Row) → e.row ≡ Some row → rows e.stamp ≡ Some (row_with e row))
    → (are_cells tables cells && (nat_lt e.stamp next && (is_none e.row || option_map_or (is_row_at tables cells) (rows e.stamp) false))) ≡ true
cells_well tables rows table stamp next e cells is_so w well below found =
    rw is_so
    (and_from (are_cells tables of_entry) _
    (and_from (nat_lt e.from e.till && nat_le e.till END) _ w.period (ap (λ o. option_map_or (is_key_of e.key) o false) well.is ∙ well.key))
    (and_from (nat_lt e.stamp next) _ below (by_row e.row refl)))
  where
    of_entry : CellRange
    of_entry = record { table = e.table; key = e.key; from = e.from; till = e.till }

    by_row : (o : Option Row) → e.row ≡ o → (is_none o || option_map_or (is_row_at tables of_entry) (rows e.stamp) false) ≡ true
    by_row None is = refl
    by_row (Some row) is =
        ap (λ o. option_map_or (is_row_at tables of_entry) o false) (found row is)
        ∙ and_from (e.table == e.table) _ (eq-eqb e.table e.table refl)
        (ap (λ o. is_key e.key (option_and_then (λ (t : Table). key_of t row.values) o)) well.is ∙ (and_parts (is_row_of row.values well.table) (is_key e.key (key_of well.table row.values)) (well.row row is)).1)

piece_well : (tables : ℕ → Option Table) (versions : ℕ → Option Version) (rows : ℕ → Option RowRecord) (table stamp next version : ℕ) (e : Entry) → IsStamped table stamp e → Well tables e
    → is_some (versions version) ≡ true → nat_lt e.stamp next ≡ true → ((row : Row) → e.row ≡ Some row → rows e.stamp ≡ Some (row_with e row))
    → is_piece tables versions rows next (piece_of version e) ≡ true
piece_well tables versions rows table stamp next version e w well there below found =
    and_from (is_some (versions version)) _ there (cells_well tables rows table stamp next e (piece_of version e).cells refl w well below found)

pub pieces_well : (tables : ℕ → Option Table) (versions : ℕ → Option Version) (rows : ℕ → Option RowRecord) (table stamp next version : ℕ) (es : List Entry) → AreStamped table stamp es → nat_le (stamp + length es) next ≡ true
    → list_all (is_well tables) es ≡ true → is_some (versions version) ≡ true → ((k : ℕ) (r : RowRecord) → row_of (rows_in es) k ≡ Some r → rows k ≡ Some r)
    → list_all (is_piece tables versions rows next) (pieces_of version es) ≡ true
pieces_well tables versions rows table stamp next version [] stamped le well there found = refl
pieces_well tables versions rows table stamp next version (e ∷ es) stamped le well there found =
    let h = and_parts (is_well tables e) (list_all (is_well tables) es) well in
    and_from (is_piece tables versions rows next (piece_of version e)) (list_all (is_piece tables versions rows next) (pieces_of version es))
    (piece_well tables versions rows table stamp next version e stamped.0 (well_of tables e h.0) there (stamp_below e.stamp stamp (length es) next stamped.0.stamp le) (λ row is. found e.stamp (row_with e row) (row_first e es row is)))
    (pieces_well tables versions rows table (stamp + 1) next version es stamped.1 (rest_below stamp (length es) next le) h.1 there (λ k r at. found k r (row_later table stamp e es stamped k r at)))

-- ---- the entries of a log

-- they are of the workspace, at this position or behind it
pub hists_on : (tables : List Table) (n low k : ℕ) (es : List Entry) → nat_le low k ≡ true → list_all (λ (x : Hist). (x.space == n) && nat_le low x.position) (hists_kept tables n k es) ≡ true
hists_on tables n low k [] le = refl
hists_on tables n low k (e ∷ es) le = by_test (has_history tables e.table) (hists_on tables n low (k + 1) es (later low k le))
  where
    later : (m j : ℕ) → nat_le m j ≡ true → nat_le m (j + 1) ≡ true
    later m j le = grind (arith, le)

    by_test : (b : Bool) → list_all (λ (x : Hist). (x.space == n) && nat_le low x.position) (hists_kept tables n (k + 1) es) ≡ true
        → list_all (λ (x : Hist). (x.space == n) && nat_le low x.position) (cond b (hist_of n k e ∷ hists_kept tables n (k + 1) es) (hists_kept tables n (k + 1) es)) ≡ true
    by_test true rest = and_from ((n == n) && nat_le low k) _ (and_from (n == n) (nat_le low k) (eq-eqb n n refl) le) rest
    by_test false rest = rest

pub hists_differ : (tables : List Table) (n k : ℕ) (es : List Entry) → differ same_position (hists_kept tables n k es) ≡ true
hists_differ tables n k [] = refl
hists_differ tables n k (e ∷ es) = by_test (has_history tables e.table) (hists_differ tables n (k + 1) es)
  where
    apart : list_any (same_position (hist_of n k e)) (hists_kept tables n (k + 1) es) ≡ false
    apart = none_if (λ (x : Hist). (x.space == n) && nat_le (k + 1) x.position) (same_position (hist_of n k e))
        (λ x is. and_right (n == x.space) (k == x.position) (not_above k x.position k refl (and_parts (x.space == n) (nat_le (k + 1) x.position) is).1)) (hists_kept tables n (k + 1) es) (hists_on tables n (k + 1) (k + 1) es (nat_le-itself (k + 1)))

    by_test : (b : Bool) → differ same_position (hists_kept tables n (k + 1) es) ≡ true → differ same_position (cond b (hist_of n k e ∷ hists_kept tables n (k + 1) es) (hists_kept tables n (k + 1) es)) ≡ true
    by_test true rest = and_from (not (list_any (same_position (hist_of n k e)) (hists_kept tables n (k + 1) es))) _ (ap not apart) rest
    by_test false rest = rest

pub hists_well : (all : List Table) (tables : ℕ → Option Table) (spaces : ℕ → Option Space) (rows : ℕ → Option RowRecord) (table stamp next n k : ℕ) (a : Space) (es : List Entry) → AreStamped table stamp es
    → nat_le (stamp + length es) next ≡ true → list_all (is_well tables) es ≡ true → list_all (λ (e : Entry). is_short e.user) es ≡ true → spaces n ≡ Some a → nat_le (k + length es) a.log_length ≡ true
    → ((s : ℕ) (r : RowRecord) → row_of (rows_in es) s ≡ Some r → rows s ≡ Some r) → list_all (is_hist tables spaces rows next) (hists_kept all n k es) ≡ true
hists_well all tables spaces rows table stamp next n k a [] stamped le well short there room found = refl
hists_well all tables spaces rows table stamp next n k a (e ∷ es) stamped le well short there room found =
    let h = and_parts (is_well tables e) (list_all (is_well tables) es) well in
    let g = and_parts (is_short e.user) (list_all (λ (x : Entry). is_short x.user) es) short in
    by_test (has_history all e.table)
    (and_from (is_short e.user && option_map_or (λ (s : Space). nat_lt k s.log_length) (spaces n) false) _
    (and_from (is_short e.user) _ g.0 (ap (λ o. option_map_or (λ (s : Space). nat_lt k s.log_length) o false) there ∙ stamp_below k k (length es) a.log_length refl room))
    (cells_well tables rows table stamp next e (hist_of n k e).cells refl stamped.0 (well_of tables e h.0) (stamp_below e.stamp stamp (length es) next stamped.0.stamp le)
    (λ row is. found e.stamp (row_with e row) (row_first e es row is))))
    (hists_well all tables spaces rows table (stamp + 1) next n (k + 1) a es stamped.1 (rest_below stamp (length es) next le) h.1 g.1 there (rest_below k (length es) a.log_length room)
    (λ s r at. found s r (row_later table stamp e es stamped s r at)))
  where
    by_test : (b : Bool) → is_hist tables spaces rows next (hist_of n k e) ≡ true → list_all (is_hist tables spaces rows next) (hists_kept all n (k + 1) es) ≡ true
        → list_all (is_hist tables spaces rows next) (cond b (hist_of n k e ∷ hists_kept all n (k + 1) es) (hists_kept all n (k + 1) es)) ≡ true
    by_test true first rest = and_from (is_hist tables spaces rows next (hist_of n k e)) _ first rest
    by_test false first rest = rest

-- ---- each of them

-- it is over a period, of a table that is ready for rows
pub each_real : (tables : List Table) (table stamp : ℕ) (es : List Entry) → AreStamped table stamp es → is_ready tables table ≡ true → All (IsReal tables) es
each_real tables table stamp [] stamped on = All-nil (IsReal tables)
each_real tables table stamp (e ∷ es) stamped on =
    let h = and_parts (nat_lt e.from e.till) (nat_le e.till END) stamped.0.period in
    All-cons (IsReal tables) e es (record { some = ltb-true e.from e.till h.0; till = leb-true e.till END h.1; on = ap (is_ready tables) stamped.0.table ∙ on }) (each_real tables table (stamp + 1) es stamped.1 on)

-- the row of each is found by its stamp
pub each_row : (table stamp : ℕ) (es : List Entry) → AreStamped table stamp es
    → All (λ (e : Entry). (row : Row) → e.row ≡ Some row → option_map (λ (r : RowRecord). r.values) (row_of (rows_in es) e.stamp) ≡ Some row.values) es
each_row table stamp [] stamped = All-nil (λ (e : Entry). (row : Row) → e.row ≡ Some row → option_map (λ (r : RowRecord). r.values) (row_of (rows_in []) e.stamp) ≡ Some row.values)
each_row table stamp (e ∷ es) stamped =
    All-cons Found e es (λ row is. ap (option_map (λ (r : RowRecord). r.values)) (row_first e es row is)) (λ k d lt row is. later (slice_index_or es k d) row (row_of (rows_in es) (slice_index_or es k d).stamp) refl (each_row table (stamp + 1) es stamped.1 k d lt row is))
  where
    Found : Entry → Type 0
    Found x = (row : Row) → x.row ≡ Some row → option_map (λ (r : RowRecord). r.values) (row_of (rows_in (e ∷ es)) x.stamp) ≡ Some row.values

    later : (x : Entry) (row : Row) (o : Option RowRecord) → row_of (rows_in es) x.stamp ≡ o → option_map (λ (r : RowRecord). r.values) o ≡ Some row.values
        → option_map (λ (r : RowRecord). r.values) (row_of (rows_in (e ∷ es)) x.stamp) ≡ Some row.values
    later x row None at h = cc
    later x row (Some r) at h = ap (option_map (λ (r : RowRecord). r.values)) (row_later table stamp e es stamped x.stamp r at) ∙ h
