-- What is shown of a table: rows of it, each under a key of the table's, and with a period where the table has valid time.
use Rattle.std.proofs.Common.{◌≡◌, ℕ, ◌≤◌, ◌<◌, ◌-◌, ◌==◌, ◌&&◌, ◌||◌, nat_lt, nat_le, Bool, true, false, if◌then◌else◌, List, [], ◌∷◌, map, Option, Some, None, unwrap_or, refl, sym, ap, ◌∙◌, subst, arith}
use Rattle.std.proofs.lemmas.Bool.{eqb-true, and_from, and_parts, true≢false}
use Rattle.std.proofs.lemmas.List.Elements.{filter_map-append}
use Rattle.std.proofs.lemmas.Option.{same_Some, none-some}
use Rattle.std.specs.Cmp.{Equal-is}
use Rattle.std.specs.Bool.{then_some}
use Rattle.std.specs.List.{filter_map, list_all}
use Rattle.std.specs.Option.{option_or, option_and_then, option_map_or, option_map}
use Rattle.std.specs.Ordering.{is_eq}
use Rattle.wm_base.specs.Key.{key_order}
use Rattle.wm_base.specs.Orders.{key_order-equal}
use Rattle.wm_base.specs.Period.{Span, overlaps}
use Rattle.wm_base.specs.declared.instant.TheConstants.{END}
use Rattle.wm_base.specs.declared.row.Row.{Row}
use Rattle.wm_base.specs.declared.value.Value.{Value}
use Rattle.wm_dml.specs.Changing.{row_key}
use Rattle.wm_dml.specs.Standing.{is_lasting}
use Rattle.wm_period.specs.Pieces.{Held}
use Rattle.wm_graph.specs.Parts.{Parts, row_of, table_of, version_of}
use Rattle.wm_graph.specs.Rules.{keep_rules, differ, is_piece, is_row, is_row_at, is_row_of, is_key, is_key_of, key_of, are_cells}
use Rattle.wm_spec.specs.Lists.{Cell}
use Rattle.wm_spec.specs.Stretches.{Stretch, value_at, AreMaximal}
use Rattle.wm_spec.specs.declared.record.cell_range.CellRange.{CellRange}
use Rattle.wm_spec.specs.declared.record.piece.PieceRecord.{PieceRecord}
use Rattle.wm_spec.specs.declared.record.row.RowRecord.{RowRecord}
use Rattle.wm_spec.specs.declared.record.table.Table.{Table}
use Rattle.wm_state.specs.Listing.{standing, row_with, row_shown_with, seen_row, span_on, with_span, AreRowsOf, IsShowing, IsShowingBy, Groups, joined, AreAllRowsBy}
use Rattle.wm_state.specs.Standing.{covers_at, held_by, in_cells, stored_at, seen_at, seen, newest_first}
use Rattle.wm_state.proofs.Apart.{found-passes, ruled}
use Rattle.wm_state.proofs.Laying.{key_same}
use Rattle.wm_state.proofs.Listing.{first-held, behind-held}
use Rattle.wm_state.proofs.Shown.{has_period, shown_step}
use Rattle.wm_state.proofs.Appending.{all_append}
use Rattle.wm_chosen.specs.Chosen.{is_keyed_row}

-- ---- what a version holds is a row of its table

-- the row of a stamp is one of the table, under the key of the cell, which is one of the table's; the cell is before the end of time
pub record IsKeyedAt (p : Parts) (t : Table) (c : Cell) (stamp : ℕ) : Type 0 where
  pub row : RowRecord
  pub found : row_of p.rows stamp ≡ Some row
  pub keyed : is_keyed_row t row.values ≡ true
  pub under : is_key c.key (key_of t row.values) ≡ true
  pub early : c.time < END

-- what is held at a cell, where it is not gone, is such a row
abbrev pub Backs : Parts → Table → Cell → Option Held → Type 0
Backs p t c None = Unit {0}
Backs p t c (Some h) = (stamp : ℕ) → standing h ≡ Some stamp → IsKeyedAt p t c stamp

abbrev InOrder : Parts → ℕ → List PieceRecord → Type 0
InOrder p next pieces = list_all (is_piece (table_of p.tables) (version_of p.versions) (row_of p.rows) next) pieces ≡ true

-- what is asked of the records and the table
pub record Asks (p : Parts) (t : Table) : Type 0 where
  pub rules : keep_rules p ≡ true
  pub there : table_of p.tables t.number ≡ Some t

-- the key of a row that is at cells of a key of the table is that one
at_key : (t : Table) (key row : List Value) → is_key_of key t ≡ true → is_key key (key_of t row) ≡ true → is_key_of (row_key t row) t ≡ true
at_key t key row fits is = by_key (key_of t row) refl is
  where
    by_key : (o : Option (List Value)) → key_of t row ≡ o → is_key key o ≡ true → is_key_of (row_key t row) t ≡ true
    by_key None e h = absurd (true≢false (sym h))
    by_key (Some k) e h = ap (λ (o : Option (List Value)). is_key_of (unwrap_or o []) t) e ∙ ap (λ j. is_key_of j t) (key_order-equal k key ((Equal-is (key_order k key)).0 h)) ∙ fits

before_end : (from till time end : ℕ) → nat_lt time till ≡ true → (nat_lt from till && nat_le till end) ≡ true → time < end
before_end from till time end at cells = grind (arith, at, (and_parts (nat_lt from till) (nat_le till end) cells).1)

-- where a row is gone or there, and it is not gone, it is there
pub row_kept : (gone given there : Bool) → (given && (gone || there)) ≡ true → gone ≡ false → there ≡ true
row_kept gone given there is kept = sym (ap (λ g. g || there) kept) ∙ (and_parts given (gone || there) is).1

-- what was written at cells in order, where a row stands that is not gone
pub cells_back : (p : Parts) (t : Table) (cells : CellRange) (h : Held) (c : Cell) → Asks p t → c.table ≡ t.number → are_cells (table_of p.tables) cells ≡ true
    → (h.gone ≡ false → option_map_or (is_row_at (table_of p.tables) cells) (row_of p.rows h.stamp.number) false ≡ true) → in_cells cells c ≡ true → Backs p t c (Some h)
cells_back p t cells h c asks of are row_there at = λ stamp held. by_gone h.gone refl stamp held
  where
    place : (((cells.table == c.table) && is_eq (key_order cells.key c.key)) ≡ true) × ((nat_le cells.from c.time && nat_lt c.time cells.till) ≡ true)
    place = and_parts ((cells.table == c.table) && is_eq (key_order cells.key c.key)) (nat_le cells.from c.time && nat_lt c.time cells.till) at

    same : cells.table ≡ t.number
    same = eqb-true cells.table c.table (and_parts (cells.table == c.table) (is_eq (key_order cells.key c.key)) place.0).0 ∙ of

    key : cells.key ≡ c.key
    key = key_same cells.key c.key (and_parts (cells.table == c.table) (is_eq (key_order cells.key c.key)) place.0).1

    bounds : ((nat_lt cells.from cells.till && nat_le cells.till END) ≡ true) × (option_map_or (is_key_of cells.key) (table_of p.tables cells.table) false ≡ true)
    bounds = and_parts (nat_lt cells.from cells.till && nat_le cells.till END) (option_map_or (is_key_of cells.key) (table_of p.tables cells.table) false) are

    here : table_of p.tables cells.table ≡ Some t
    here = ap (table_of p.tables) same ∙ asks.there

    key_there : is_key_of cells.key t ≡ true
    key_there = sym (ap (λ (o : Option Table). option_map_or (is_key_of cells.key) o false) here) ∙ bounds.1

    early : c.time < END
    early = before_end cells.from cells.till c.time END (and_parts (nat_le cells.from c.time) (nat_lt c.time cells.till) place.1).1 bounds.0

    row_at : (r : RowRecord) → is_row_at (table_of p.tables) cells r ≡ true → (r.table ≡ cells.table) × (is_key cells.key (key_of t r.values) ≡ true)
    row_at r there =
        let h = and_parts (r.table == cells.table) (is_key cells.key (option_and_then (λ (u : Table). key_of u r.values) (table_of p.tables cells.table))) there in
        (eqb-true r.table cells.table h.0, sym (ap (λ (o : Option Table). is_key cells.key (option_and_then (λ (u : Table). key_of u r.values) o)) here) ∙ h.1)

    keyed_at : (r : RowRecord) → row_of p.rows h.stamp.number ≡ Some r → is_row_at (table_of p.tables) cells r ≡ true → is_keyed_row t r.values ≡ true
    keyed_at r found there =
        let next = (ruled p asks.rules).counters.next_stamp in
        let passed = (found-passes (λ (r : RowRecord). r.stamp == h.stamp.number) (is_row (table_of p.tables) next) p.rows r found (and_parts (differ _ p.rows) _ (ruled p asks.rules).rows).1).1 in
        and_from (is_row_of r.values t) (is_key_of (row_key t r.values) t)
        (sym (ap (λ (o : Option Table). option_map_or (is_row_of r.values) o false) (ap (table_of p.tables) (row_at r there).0 ∙ here)) ∙ (and_parts (nat_lt r.stamp next) _ passed).1)
        (at_key t cells.key r.values key_there (row_at r there).1)

    by_row : (o : Option RowRecord) → row_of p.rows h.stamp.number ≡ o → option_map_or (is_row_at (table_of p.tables) cells) o false ≡ true → IsKeyedAt p t c h.stamp.number
    by_row None e there = absurd (true≢false (sym there))
    by_row (Some r) e there = record {
      row = r;
      found = e;
      keyed = keyed_at r e there;
      under = ap (λ (k : List Value). is_key k (key_of t r.values)) (sym key) ∙ (row_at r there).1;
      early = early;
    }

    by_gone : (g : Bool) → h.gone ≡ g → (stamp : ℕ) → (let nothing : Option ℕ = None in if g then nothing else Some h.stamp.number) ≡ Some stamp → IsKeyedAt p t c stamp
    by_gone true e stamp held = absurd (none-some stamp held)
    by_gone false e stamp held = subst (IsKeyedAt p t c) (same_Some h.stamp.number stamp held) (by_row (row_of p.rows h.stamp.number) refl (row_there e))

piece_backs : (p : Parts) (t : Table) (x : PieceRecord) (version : ℕ) (c : Cell) (asks : Asks p t) → c.table ≡ t.number
    → is_piece (table_of p.tables) (version_of p.versions) (row_of p.rows) (ruled p asks.rules).counters.next_stamp x ≡ true → Backs p t c (then_some (covers_at x version c) (held_by x))
piece_backs p t x version c asks of is = by_test (covers_at x version c) refl
  where
    next : ℕ
    next = (ruled p asks.rules).counters.next_stamp

    cells : (are_cells (table_of p.tables) x.cells ≡ true) × ((nat_lt x.stamp next && (x.gone || option_map_or (is_row_at (table_of p.tables) x.cells) (row_of p.rows x.stamp) false)) ≡ true)
    cells =
        let a = and_parts _ (are_cells (table_of p.tables) x.cells && (nat_lt x.stamp next && (x.gone || option_map_or (is_row_at (table_of p.tables) x.cells) (row_of p.rows x.stamp) false))) is in
        and_parts (are_cells (table_of p.tables) x.cells) (nat_lt x.stamp next && (x.gone || option_map_or (is_row_at (table_of p.tables) x.cells) (row_of p.rows x.stamp) false)) a.1

    by_test : (b : Bool) → covers_at x version c ≡ b → Backs p t c (then_some b (held_by x))
    by_test false e = tt
    by_test true e = cells_back p t x.cells (held_by x) c asks of cells.0 (row_kept x.gone (nat_lt x.stamp next) _ cells.1) (and_parts (x.version == version) (in_cells x.cells c) e).1

pub or_backs : (p : Parts) (t : Table) (c : Cell) (a b : Option Held) → Backs p t c a → Backs p t c b → Backs p t c (option_or a b)
or_backs p t c None b one two = two
or_backs p t c (Some h) b one two = one

stored_backs : (p : Parts) (t : Table) (pieces : List PieceRecord) (version : ℕ) (c : Cell) (asks : Asks p t) → c.table ≡ t.number → InOrder p (ruled p asks.rules).counters.next_stamp pieces → Backs p t c (stored_at pieces version c)
stored_backs p t [] version c asks of all = tt
stored_backs p t (x ∷ xs) version c asks of all =
    let h = and_parts (is_piece (table_of p.tables) (version_of p.versions) (row_of p.rows) (ruled p asks.rules).counters.next_stamp x) (list_all (is_piece (table_of p.tables) (version_of p.versions) (row_of p.rows) (ruled p asks.rules).counters.next_stamp) xs) all in
    or_backs p t c (then_some (covers_at x version c) (held_by x)) (stored_at xs version c) (piece_backs p t x version c asks of h.0) (stored_backs p t xs version c asks of h.1)

pub seen_backs : (p : Parts) (t : Table) (nodes : _) (version : ℕ) (c : Cell) → Asks p t → c.table ≡ t.number → Backs p t c (seen_at p.pieces nodes version c)
seen_backs p t [] version c asks of = tt
seen_backs p t (x ∷ older) version c asks of = by_number (x.number == version) (seen_backs p t older x.parent c asks of) (seen_backs p t older version c asks of)
  where
    ordered : InOrder p (ruled p asks.rules).counters.next_stamp p.pieces
    ordered = (and_parts (differ _ p.pieces) _ (ruled p asks.rules).pieces).1

    by_number : (b : Bool) → Backs p t c (seen_at p.pieces older x.parent c) → Backs p t c (seen_at p.pieces older version c)
        → Backs p t c (if b then option_or (stored_at p.pieces version c) (seen_at p.pieces older x.parent c) else seen_at p.pieces older version c)
    by_number true up along = or_backs p t c (stored_at p.pieces version c) (seen_at p.pieces older x.parent c) (stored_backs p t p.pieces version c asks of ordered) up
    by_number false up along = along

-- what is held of each cell of the table is such a row
abbrev pub AllBack : Parts → Table → (Cell → Option Held) → Type 0
AllBack p t f = (c : Cell) → c.table ≡ t.number → Backs p t c (f c)

row_held : (p : Parts) (t : Table) (c : Cell) (o : Option Held) (stamp : ℕ) → Backs p t c o → option_and_then standing o ≡ Some stamp → IsKeyedAt p t c stamp
row_held p t c None stamp backs e = absurd (none-some stamp e)
row_held p t c (Some h) stamp backs e = backs stamp e

-- ---- what is shown of it

-- a row that is shown is one of the table's, under this key; where the table has valid time, a period stands behind its values that is not
-- empty, ends at most at END and overlaps the asked one
pub record IsShownUnder (t : Table) (within : Span) (key : List Value) (shown : Row) : Type 0 where
  pub row : Row
  pub period : Span
  pub keyed : is_keyed_row t row.values ≡ true
  pub under : is_key key (key_of t row.values) ≡ true
  pub lasts : is_lasting period ≡ true
  pub overlapping : t.valid ≡ true → overlaps period within ≡ true
  pub is : shown ≡ (if t.valid then with_span period row else row)

row_shown : (p : Parts) (t : Table) (within : Span) (c : Cell) (s : Stretch) (shown : Row) → IsKeyedAt p t c s.stamp → is_lasting (span_on s) ≡ true → row_shown_with p t.valid within (c.key, s) ≡ Some shown
    → IsShownUnder t within c.key shown
row_shown p t within c s shown at lasts e = by_valid t.valid refl e
  where
    row : Row
    row = record { values = at.row.values }

    found : row_with p (c.key, s) ≡ Some row
    found = ap (λ (o : Option RowRecord). option_map (λ (r : RowRecord). let made : Row = record { values = r.values } in made) o) at.found

    by_valid : (valid : Bool) → t.valid ≡ valid → seen_row valid within s (row_with p (c.key, s)) ≡ Some shown → IsShownUnder t within c.key shown
    by_valid false plain h = record {
      row = row;
      period = span_on s;
      keyed = at.keyed;
      under = at.under;
      lasts = lasts;
      overlapping = λ valid. absurd (true≢false (sym valid ∙ plain));
      is = same_Some shown row (sym h ∙ found) ∙ sym (ap (λ b. if b then with_span (span_on s) row else row) plain);
    }
    by_valid true valid h =
        let has = has_period within s (row_with p (c.key, s)) shown h in
        record {
          row = row;
          period = span_on s;
          keyed = at.keyed;
          under = at.under;
          lasts = lasts;
          overlapping = λ valid. has.overlapping;
          is = has.timed ∙ ap (with_span (span_on s)) (same_Some has.row row (sym has.found ∙ found)) ∙ sym (ap (λ b. if b then with_span (span_on s) row else row) valid);
        }

-- ---- all of them

-- a stretch that is held up to its end ends at most at the end of time
lasting : (from till end : ℕ) → from < till → till - 1 < end → (nat_lt from till && nat_le till end) ≡ true
lasting from till end lt early = and_from (nat_lt from till) (nat_le till end) (grind (arith, lt)) (grind (arith, lt, early))

key_all : (P : Row → Bool) (p : Parts) (t : Table) (f : Cell → Option Held) (within : Span) (key : List Value) (ss : List Stretch) (low : ℕ) → AllBack p t f → AreMaximal low ss
    → ((u : ℕ) → low ≤ u → value_at ss u ≡ option_and_then standing (f (record { table = t.number; key = key; time = u }))) → ((row : Row) → IsShownUnder t within key row → P row ≡ true)
    → list_all P (filter_map (row_shown_with p t.valid within) (map (λ x. (key, x)) ss)) ≡ true
key_all P p t f within key [] low back max held each = refl
key_all P p t f within key (x ∷ xs) low back max held each =
    shown_step P (row_shown_with p t.valid within) (key, x) (map (λ x. (key, x)) xs) (λ row shown. each row (row_shown p t within (cell x.from) x row (at x.from (omega arith) max.1) lasts shown))
    (key_all P p t f within key xs x.till back max.3 (λ u le. sym (behind-held x xs u le) ∙ held u (omega (arith, max.0, max.1, le))) each)
  where
    cell : ℕ → Cell
    cell u = record { table = t.number; key = key; time = u }

    at : (u : ℕ) → x.from ≤ u → u < x.till → IsKeyedAt p t (cell u) x.stamp
    at u le lt = row_held p t (cell u) (f (cell u)) x.stamp (back (cell u) refl) (sym (held u (omega (arith, max.0, le))) ∙ first-held low x xs u max le lt)

    lasts : is_lasting (span_on x) ≡ true
    lasts = lasting x.from x.till END max.1 (at (x.till - 1) (omega (arith, max.1)) (omega (arith, max.1))).early

groups_all : (P : Row → Bool) (p : Parts) (t : Table) (f : Cell → Option Held) (within : Span) (gs : Groups) → AllBack p t f → AreAllRowsBy f t.number gs → ((key : List Value) (row : Row) → IsShownUnder t within key row → P row ≡ true)
    → list_all P (filter_map (row_shown_with p t.valid within) (joined gs)) ≡ true
groups_all P p t f within [] back held each = refl
groups_all P p t f within (g ∷ gs) back held each =
    let shown = row_shown_with p t.valid within in
    ap (list_all P) (filter_map-append shown (map (λ s. (g.0, s)) g.1) (joined gs))
    ∙ all_append P (filter_map shown (map (λ s. (g.0, s)) g.1)) (filter_map shown (joined gs)) (key_all P p t f within g.0 g.1 0 back held.0.maximal (λ u le. held.0.held u) (each g.0))
    (groups_all P p t f within gs back held.1 each)

-- what a version holds
version_backs : (p : Parts) (t : Table) (version : ℕ) → Asks p t → AllBack p t (seen p version)
version_backs p t version asks c of = seen_backs p t (newest_first p.versions) version c asks of

-- what holds of each row that may be shown of a table holds of all that are
pub showing_all : (P : Row → Bool) (p : Parts) (version : ℕ) (t : Table) (within : Span) (rows : List Row) → keep_rules p ≡ true → table_of p.tables t.number ≡ Some t → IsShowing p version t.number t.valid within rows
    → ((key : List Value) (row : Row) → IsShownUnder t within key row → P row ≡ true) → list_all P rows ≡ true
showing_all P p version t within rows rules there is each =
    ap (list_all P) is.are ∙ groups_all P p t (seen p version) within is.groups (version_backs p t version (record { rules = rules; there = there })) is.held each

-- so of what a function of the cell holds
pub showing_by_all : (P : Row → Bool) (p : Parts) (f : Cell → Option Held) (t : Table) (within : Span) (rows : List Row) → AllBack p t f → IsShowingBy p f t.number t.valid within rows
    → ((key : List Value) (row : Row) → IsShownUnder t within key row → P row ≡ true) → list_all P rows ≡ true
showing_by_all P p f t within rows back is each = ap (list_all P) is.are ∙ groups_all P p t f within is.groups back is.held each

-- so of those of one key
pub key_showing_all : (P : Row → Bool) (p : Parts) (version : ℕ) (t : Table) (within : Span) (key : List Value) (ss : List Stretch) → keep_rules p ≡ true → table_of p.tables t.number ≡ Some t → AreRowsOf p version t.number key ss
    → ((row : Row) → IsShownUnder t within key row → P row ≡ true) → list_all P (filter_map (row_shown_with p t.valid within) (map (λ x. (key, x)) ss)) ≡ true
key_showing_all P p version t within key ss rules there are each = key_all P p t (seen p version) within key ss 0 (version_backs p t version (record { rules = rules; there = there })) are.maximal (λ u le. are.held u) each
