-- The rules on savepoints, rows, pieces and logs hold of records in which all that they look up is there still: the laws
-- are_savepoints-kept, are_rows-kept, are_pieces-kept and are_hists-kept, and each for one record (is_savepoint-kept and so on).
-- KeepTables, KeepSpaces, KeepVersions and KeepRows say so of each kind.
use Rattle.std.proofs.Common.{◌≡◌, ℕ, ◌+◌, ◌==◌, nat_lt, nat_le, Bool, true, false, ◌&&◌, ◌||◌, if◌then◌else◌, List, [], ◌∷◌, ◌++◌, Option, Some, None, is_some, refl, sym, ap, ◌∙◌, ⊎_elim, arith}
use Rattle.std.proofs.lemmas.Bool.{and_from, and_parts, true≢false}
use Rattle.std.specs.List.{list_all}
use Rattle.std.specs.Option.{option_and_then, option_map_or}
use Rattle.wm_base.proofs.Plain.{nat_le-itself}
use Rattle.wm_base.specs.declared.instant.TheConstants.{END}
use Rattle.wm_base.specs.declared.value.Value.{Value}
use Rattle.wm_graph.specs.Parts.{Parts, table_of, space_of, version_of, row_of}
use Rattle.wm_graph.specs.Rules.{is_version_of, is_short, is_base_of, is_saved_in, is_savepoint, same_savepoint, has_few, are_savepoints, is_row, is_row_of, are_rows, is_key_of, key_of, is_key, are_cells, is_row_at, is_piece, collide, are_pieces, is_hist, same_position, are_hists, differ}
use Rattle.wm_spec.specs.declared.record.cell_range.CellRange.{CellRange}
use Rattle.wm_spec.specs.declared.record.hist.Hist.{Hist}
use Rattle.wm_spec.specs.declared.record.piece.PieceRecord.{PieceRecord}
use Rattle.wm_spec.specs.declared.record.row.RowRecord.{RowRecord}
use Rattle.wm_spec.specs.declared.record.savepoint.Savepoint.{Savepoint}
use Rattle.wm_spec.specs.declared.record.space.Space.{Space}
use Rattle.wm_spec.specs.declared.record.table.Table.{Table}
use Rattle.wm_spec.specs.declared.record.version.Version.{Version}
use Rattle.wm_state.proofs.Tests.{all_if, find_push, find_swapped}
use Rattle.wm_state.proofs.Named.{ruled_savepoints}
use Rattle.wm_state.proofs.Frames.{KeepRows}

-- ---- what is there still

-- a table of the same columns and key
pub record TableStill (q : Parts) (n : ℕ) (t : Table) : Type 0 where
  pub new : Table
  pub is : table_of q.tables n ≡ Some new
  pub columns : new.columns ≡ t.columns
  pub key_columns : new.key_columns ≡ t.key_columns

abbrev pub KeepTables : Parts → Parts → Type 0
KeepTables p q = (n : ℕ) (t : Table) → table_of p.tables n ≡ Some t → TableStill q n t

-- a workspace with the same parent and rebases, whose log and places are no fewer
pub record SpaceStill (q : Parts) (n : ℕ) (s : Space) : Type 0 where
  pub new : Space
  pub is : space_of q.spaces n ≡ Some new
  pub number : new.number ≡ s.number
  pub parent : new.parent ≡ s.parent
  pub log : nat_le s.log_length new.log_length ≡ true
  pub place : nat_le s.next_place new.next_place ≡ true
  pub rebases : new.rebases ≡ s.rebases

abbrev pub KeepSpaces : Parts → Parts → Type 0
KeepSpaces p q = (n : ℕ) (s : Space) → space_of p.spaces n ≡ Some s → SpaceStill q n s

abbrev pub KeepVersions : Parts → Parts → Type 0
KeepVersions p q = (k : ℕ) (v : Version) → version_of p.versions k ≡ Some v → version_of q.versions k ≡ Some v

pub le_next : (n : ℕ) → nat_le n (n + 1) ≡ true
le_next n = grind arith

pub KeepTables-same : (p q : Parts) → q.tables ≡ p.tables → KeepTables p q
KeepTables-same p q same n t found = record { new = t; is = ap (λ ts. table_of ts n) same ∙ found; columns = refl; key_columns = refl }

pub KeepTables-push : (p q : Parts) (u : Table) → q.tables ≡ p.tables ++ u ∷ [] → KeepTables p q
KeepTables-push p q u more n t found = record {
  new = t;
  is = ap (λ ts. table_of ts n) more ∙ find_push (λ (x : Table). x.number == n) p.tables u t found;
  columns = refl;
  key_columns = refl;
}

-- one in the place of another of its number, columns and key
pub KeepTables-swap : (p q : Parts) (front back : List Table) (t u : Table) → u.number ≡ t.number → u.columns ≡ t.columns → u.key_columns ≡ t.key_columns → p.tables ≡ front ++ t ∷ back
    → q.tables ≡ front ++ u ∷ back → KeepTables p q
KeepTables-swap p q front back t u number columns key_columns old new n x found = ⊎_elim
    (λ h. record { new = x; is = ap (λ ts. table_of ts n) new ∙ h; columns = refl; key_columns = refl })
    (λ h. record {
      new = u;
      is = ap (λ ts. table_of ts n) new ∙ h.1;
      columns = columns ∙ ap (λ (y : Table). y.columns) (sym h.0);
      key_columns = key_columns ∙ ap (λ (y : Table). y.key_columns) (sym h.0);
    })
    (find_swapped (λ (y : Table). y.number == n) t u (ap (λ k. k == n) number) front back x (ap (λ ts. table_of ts n) (sym old) ∙ found))

pub KeepSpaces-same : (p q : Parts) → q.spaces ≡ p.spaces → KeepSpaces p q
KeepSpaces-same p q same n s found = record { new = s; is = ap (λ ss. space_of ss n) same ∙ found; number = refl; parent = refl; log = nat_le-itself s.log_length; place = nat_le-itself s.next_place; rebases = refl }

pub KeepSpaces-push : (p q : Parts) (a : Space) → q.spaces ≡ p.spaces ++ a ∷ [] → KeepSpaces p q
KeepSpaces-push p q a more n s found = record {
  new = s;
  is = ap (λ ss. space_of ss n) more ∙ find_push (λ (x : Space). x.number == n) p.spaces a s found;
  number = refl;
  parent = refl;
  log = nat_le-itself s.log_length;
  place = nat_le-itself s.next_place;
  rebases = refl;
}

-- one in the place of another of its number, parent and rebases, with no shorter log and no fewer places
pub KeepSpaces-swap : (p q : Parts) (front back : List Space) (a b : Space) → b.number ≡ a.number → b.parent ≡ a.parent → nat_le a.log_length b.log_length ≡ true → nat_le a.next_place b.next_place ≡ true
    → b.rebases ≡ a.rebases → p.spaces ≡ front ++ a ∷ back → q.spaces ≡ front ++ b ∷ back → KeepSpaces p q
KeepSpaces-swap p q front back a b number parent log place rebases old new n x found = ⊎_elim
    (λ h. record { new = x; is = ap (λ ss. space_of ss n) new ∙ h; number = refl; parent = refl; log = nat_le-itself x.log_length; place = nat_le-itself x.next_place; rebases = refl })
    (λ h. record {
      new = b;
      is = ap (λ ss. space_of ss n) new ∙ h.1;
      number = number ∙ ap (λ (y : Space). y.number) (sym h.0);
      parent = parent ∙ ap (λ (y : Space). y.parent) (sym h.0);
      log = ap (λ (y : Space). nat_le y.log_length b.log_length) h.0 ∙ log;
      place = ap (λ (y : Space). nat_le y.next_place b.next_place) h.0 ∙ place;
      rebases = rebases ∙ ap (λ (y : Space). y.rebases) (sym h.0);
    })
    (find_swapped (λ (y : Space). y.number == n) a b (ap (λ k. k == n) number) front back x (ap (λ ss. space_of ss n) (sym old) ∙ found))

pub KeepVersions-same : (p q : Parts) → q.versions ≡ p.versions → KeepVersions p q
KeepVersions-same p q same k v found = ap (λ vs. version_of vs k) same ∙ found

pub KeepVersions-push : (p q : Parts) (w : Version) → q.versions ≡ p.versions ++ w ∷ [] → KeepVersions p q
KeepVersions-push p q w more k v found = ap (λ vs. version_of vs k) more ∙ find_push (λ (x : Version). x.number == k) p.versions w v found

pub KeepRows-same : (p q : Parts) → q.rows ≡ p.rows → KeepRows p q
KeepRows-same p q same stamp r found = ap (λ rs. row_of rs stamp) same ∙ found

-- ---- numbers and tests

pub lt_le : (m n k : ℕ) → nat_le n k ≡ true → nat_lt m n ≡ true → nat_lt m k ≡ true
lt_le m n k le lt = grind (arith, le, lt)

le_le : (m n k : ℕ) → nat_le n k ≡ true → nat_le m n ≡ true → nat_le m k ≡ true
le_le m n k le lt = grind (arith, le, lt)

pub le_more : (m n k : ℕ) → nat_le n k ≡ true → nat_le m (n + 2) ≡ true → nat_le m (k + 2) ≡ true
le_more m n k le lt = grind (arith, le, lt)

or_if : (a b c : Bool) → (b ≡ true → c ≡ true) → (a || b) ≡ true → (a || c) ≡ true
or_if true b c to e = refl
or_if false b c to e = to e

-- what is asked of what is found is asked of what is found still
pub asked : {A : Type 0} (f g : A → Bool) (old new : Option A) → ((a : A) → old ≡ Some a → f a ≡ true → option_map_or g new false ≡ true) → option_map_or f old false ≡ true → option_map_or g new false ≡ true
asked f g None new to e = absurd (true≢false (sym e))
asked f g (Some a) new to e = to a refl e

-- ---- tables

row_of_same : (row : List Value) (t u : Table) → u.columns ≡ t.columns → u.key_columns ≡ t.key_columns → is_row_of row u ≡ is_row_of row t
row_of_same row t u columns key_columns = rw (columns, key_columns) refl

key_of_same : (row : List Value) (t u : Table) → u.key_columns ≡ t.key_columns → key_of u row ≡ key_of t row
key_of_same row t u key_columns = rw key_columns refl

is_key_of_same : (key : List Value) (t u : Table) → u.columns ≡ t.columns → u.key_columns ≡ t.key_columns → is_key_of key u ≡ is_key_of key t
is_key_of_same key t u columns key_columns = rw (columns, key_columns) refl

pub is_row-kept : (p q : Parts) (next more : ℕ) → nat_le next more ≡ true → KeepTables p q → (r : RowRecord) → is_row (table_of p.tables) next r ≡ true → is_row (table_of q.tables) more r ≡ true
is_row-kept p q next more le tables r e =
    let h = and_parts (nat_lt r.stamp next) (option_map_or (is_row_of r.values) (table_of p.tables r.table) false) e in
    and_from (nat_lt r.stamp more) _ (lt_le r.stamp next more le h.0)
    (asked (is_row_of r.values) (is_row_of r.values) (table_of p.tables r.table) (table_of q.tables r.table)
    (λ t found is. let s = tables r.table t found in rw s.is (row_of_same r.values t s.new s.columns s.key_columns ∙ is)) h.1)

pub are_cells-kept : (p q : Parts) → KeepTables p q → (c : CellRange) → are_cells (table_of p.tables) c ≡ true → are_cells (table_of q.tables) c ≡ true
are_cells-kept p q tables c e =
    let h = and_parts (nat_lt c.from c.till && nat_le c.till END) (option_map_or (is_key_of c.key) (table_of p.tables c.table) false) e in
    and_from (nat_lt c.from c.till && nat_le c.till END) _ h.0
    (asked (is_key_of c.key) (is_key_of c.key) (table_of p.tables c.table) (table_of q.tables c.table)
    (λ t found is. let s = tables c.table t found in rw s.is (is_key_of_same c.key t s.new s.columns s.key_columns ∙ is)) h.1)

is_row_at-kept : (p q : Parts) → KeepTables p q → (c : CellRange) (r : RowRecord) → is_row_at (table_of p.tables) c r ≡ true → is_row_at (table_of q.tables) c r ≡ true
is_row_at-kept p q tables c r e =
    let h = and_parts (r.table == c.table) _ e in
    and_from (r.table == c.table) _ h.0 (by_table (table_of p.tables c.table) refl h.1)
  where
    by_table : (o : Option Table) → table_of p.tables c.table ≡ o → is_key c.key (option_and_then (λ (t : Table). key_of t r.values) o) ≡ true
        → is_key c.key (option_and_then (λ (t : Table). key_of t r.values) (table_of q.tables c.table)) ≡ true
    by_table None found is = absurd (true≢false (sym is))
    by_table (Some t) found is = let s = tables c.table t found in rw s.is (ap (is_key c.key) (key_of_same r.values t s.new s.key_columns) ∙ is)

pub are_rows-kept : (p q : Parts) (next more : ℕ) → nat_le next more ≡ true → KeepTables p q → q.rows ≡ p.rows → are_rows p next ≡ true → are_rows q more ≡ true
are_rows-kept p q next more le tables rows e =
    let h = and_parts (differ (λ (r q : RowRecord). r.stamp == q.stamp) p.rows) (list_all (is_row (table_of p.tables) next) p.rows) e in
    rw rows
    (and_from (differ (λ (r q : RowRecord). r.stamp == q.stamp) p.rows) (list_all (is_row (table_of q.tables) more) p.rows) h.0
    (all_if (is_row (table_of p.tables) next) (is_row (table_of q.tables) more) (is_row-kept p q next more le tables) p.rows h.1))

-- ---- pieces and logs

-- the row of a change is there still
change-kept : (p q : Parts) → KeepTables p q → KeepRows p q → (gone : Bool) (c : CellRange) (stamp : ℕ) → (gone || option_map_or (is_row_at (table_of p.tables) c) (row_of p.rows stamp) false) ≡ true
    → (gone || option_map_or (is_row_at (table_of q.tables) c) (row_of q.rows stamp) false) ≡ true
change-kept p q tables rows gone c stamp e = or_if gone _ _
    (asked (is_row_at (table_of p.tables) c) (is_row_at (table_of q.tables) c) (row_of p.rows stamp) (row_of q.rows stamp)
    (λ r found is. rw (rows stamp r found) (is_row_at-kept p q tables c r is))) e

pub is_piece-kept : (p q : Parts) (next more : ℕ) → nat_le next more ≡ true → KeepTables p q → KeepVersions p q → KeepRows p q → (x : PieceRecord)
    → is_piece (table_of p.tables) (version_of p.versions) (row_of p.rows) next x ≡ true → is_piece (table_of q.tables) (version_of q.versions) (row_of q.rows) more x ≡ true
is_piece-kept p q next more le tables versions rows x e =
    let h = and_parts (is_some (version_of p.versions x.version)) _ e in
    let g = and_parts (are_cells (table_of p.tables) x.cells) _ h.1 in
    let k = and_parts (nat_lt x.stamp next) (x.gone || option_map_or (is_row_at (table_of p.tables) x.cells) (row_of p.rows x.stamp) false) g.1 in
    and_from (is_some (version_of q.versions x.version)) _ (still (version_of p.versions x.version) refl h.0)
    (and_from (are_cells (table_of q.tables) x.cells) _ (are_cells-kept p q tables x.cells g.0)
    (and_from (nat_lt x.stamp more) _ (lt_le x.stamp next more le k.0) (change-kept p q tables rows x.gone x.cells x.stamp k.1)))
  where
    still : (o : Option Version) → version_of p.versions x.version ≡ o → is_some o ≡ true → is_some (version_of q.versions x.version) ≡ true
    still None found is = absurd (true≢false (sym is))
    still (Some v) found is = rw (versions x.version v found) refl

pub are_pieces-kept : (p q : Parts) (next more : ℕ) → nat_le next more ≡ true → KeepTables p q → KeepVersions p q → KeepRows p q → q.pieces ≡ p.pieces → are_pieces p next ≡ true → are_pieces q more ≡ true
are_pieces-kept p q next more le tables versions rows pieces e =
    let h = and_parts (differ collide p.pieces) (list_all (is_piece (table_of p.tables) (version_of p.versions) (row_of p.rows) next) p.pieces) e in
    rw pieces
    (and_from (differ collide p.pieces) (list_all (is_piece (table_of q.tables) (version_of q.versions) (row_of q.rows) more) p.pieces) h.0
    (all_if (is_piece (table_of p.tables) (version_of p.versions) (row_of p.rows) next) (is_piece (table_of q.tables) (version_of q.versions) (row_of q.rows) more)
    (is_piece-kept p q next more le tables versions rows) p.pieces h.1))

pub is_hist-kept : (p q : Parts) (next more : ℕ) → nat_le next more ≡ true → KeepTables p q → KeepSpaces p q → KeepRows p q → (x : Hist)
    → is_hist (table_of p.tables) (space_of p.spaces) (row_of p.rows) next x ≡ true → is_hist (table_of q.tables) (space_of q.spaces) (row_of q.rows) more x ≡ true
is_hist-kept p q next more le tables spaces rows x e =
    let h = and_parts (is_short x.user && option_map_or (λ (s : Space). nat_lt x.position s.log_length) (space_of p.spaces x.space) false) _ e in
    let i = and_parts (is_short x.user) (option_map_or (λ (s : Space). nat_lt x.position s.log_length) (space_of p.spaces x.space) false) h.0 in
    let g = and_parts (are_cells (table_of p.tables) x.cells) _ h.1 in
    let k = and_parts (nat_lt x.stamp next) (x.gone || option_map_or (is_row_at (table_of p.tables) x.cells) (row_of p.rows x.stamp) false) g.1 in
    and_from (is_short x.user && option_map_or (λ (s : Space). nat_lt x.position s.log_length) (space_of q.spaces x.space) false) _
    (and_from (is_short x.user) _ i.0
    (asked (λ (s : Space). nat_lt x.position s.log_length) (λ (s : Space). nat_lt x.position s.log_length) (space_of p.spaces x.space) (space_of q.spaces x.space)
    (λ s found lt. let y = spaces x.space s found in rw y.is (lt_le x.position s.log_length y.new.log_length y.log lt)) i.1))
    (and_from (are_cells (table_of q.tables) x.cells) _ (are_cells-kept p q tables x.cells g.0)
    (and_from (nat_lt x.stamp more) _ (lt_le x.stamp next more le k.0) (change-kept p q tables rows x.gone x.cells x.stamp k.1)))

pub are_hists-kept : (p q : Parts) (next more : ℕ) → nat_le next more ≡ true → KeepTables p q → KeepSpaces p q → KeepRows p q → q.hists ≡ p.hists → are_hists p next ≡ true → are_hists q more ≡ true
are_hists-kept p q next more le tables spaces rows hists e =
    let h = and_parts (differ same_position p.hists) (list_all (is_hist (table_of p.tables) (space_of p.spaces) (row_of p.rows) next) p.hists) e in
    rw hists
    (and_from (differ same_position p.hists) (list_all (is_hist (table_of q.tables) (space_of q.spaces) (row_of q.rows) more) p.hists) h.0
    (all_if (is_hist (table_of p.tables) (space_of p.spaces) (row_of p.rows) next) (is_hist (table_of q.tables) (space_of q.spaces) (row_of q.rows) more)
    (is_hist-kept p q next more le tables spaces rows) p.hists h.1))

-- ---- savepoints

pub is_version_of-kept : (p q : Parts) → KeepVersions p q → (k space : ℕ) → is_version_of (version_of p.versions) k space ≡ true → is_version_of (version_of q.versions) k space ≡ true
is_version_of-kept p q versions k space =
    asked (λ (v : Version). v.space == space) (λ (v : Version). v.space == space) (version_of p.versions k) (version_of q.versions k) (λ v found is. rw (versions k v found) is)

is_base_of-kept : (p q : Parts) → KeepVersions p q → (base : ℕ) (s t : Space) → t.number ≡ s.number → t.parent ≡ s.parent → is_base_of (version_of p.versions) base s ≡ true → is_base_of (version_of q.versions) base t ≡ true
is_base_of-kept p q versions base s t number parent e = rw (number, parent) (by_live (s.number == 0) e)
  where
    by_live : (b : Bool) → (if b then base == 0 else is_version_of (version_of p.versions) base s.parent) ≡ true → (if b then base == 0 else is_version_of (version_of q.versions) base s.parent) ≡ true
    by_live true h = h
    by_live false h = is_version_of-kept p q versions base s.parent h

pub is_savepoint-kept : (p q : Parts) (work more : ℕ) → nat_le work more ≡ true → KeepSpaces p q → KeepVersions p q → (x : Savepoint)
    → is_savepoint (space_of p.spaces) (version_of p.versions) work x ≡ true → is_savepoint (space_of q.spaces) (version_of q.versions) more x ≡ true
is_savepoint-kept p q work more le spaces versions x e =
    let h = and_parts (is_short x.name && nat_le x.making (work + 2)) _ e in
    let g = and_parts (is_short x.name) (nat_le x.making (work + 2)) h.0 in
    and_from (is_short x.name && nat_le x.making (more + 2)) _ (and_from (is_short x.name) _ g.0 (le_more x.making work more le g.1))
    (asked (is_saved_in (version_of p.versions) x) (is_saved_in (version_of q.versions) x) (space_of p.spaces x.space) (space_of q.spaces x.space)
    (λ s found is. let y = spaces x.space s found in rw y.is (in_space s y is)) h.1)
  where
    in_space : (s : Space) (y : SpaceStill q x.space s) → is_saved_in (version_of p.versions) x s ≡ true → is_saved_in (version_of q.versions) x y.new ≡ true
    in_space s y is =
        let h = and_parts (is_version_of (version_of p.versions) x.version s.number && is_base_of (version_of p.versions) x.base_version s) _ is in
        let g = and_parts (is_version_of (version_of p.versions) x.version s.number) (is_base_of (version_of p.versions) x.base_version s) h.0 in
        let k = and_parts (nat_lt x.place s.next_place) (nat_le x.log_length s.log_length) h.1 in
        and_from (is_version_of (version_of q.versions) x.version y.new.number && is_base_of (version_of q.versions) x.base_version y.new) _
        (and_from (is_version_of (version_of q.versions) x.version y.new.number) (is_base_of (version_of q.versions) x.base_version y.new)
        (ap (is_version_of (version_of q.versions) x.version) y.number ∙ is_version_of-kept p q versions x.version s.number g.0)
        (is_base_of-kept p q versions x.base_version s y.new y.number y.parent g.1))
        (and_from (nat_lt x.place y.new.next_place) (nat_le x.log_length y.new.log_length) (lt_le x.place s.next_place y.new.next_place y.place k.0) (le_le x.log_length s.log_length y.new.log_length y.log k.1))

pub are_savepoints-kept : (p q : Parts) (work more : ℕ) → nat_le work more ≡ true → KeepSpaces p q → KeepVersions p q → q.savepoints ≡ p.savepoints → list_all (has_few p.savepoints) q.spaces ≡ true
    → are_savepoints p work ≡ true → are_savepoints q more ≡ true
are_savepoints-kept p q work more le spaces versions savepoints few e =
    let r = ruled_savepoints p work e in
    rw savepoints
    (and_from (differ (λ (x y : Savepoint). x.making == y.making) p.savepoints) _ r.makings
    (and_from (differ same_savepoint p.savepoints) _ r.names
    (and_from (list_all (has_few p.savepoints) q.spaces) (list_all (is_savepoint (space_of q.spaces) (version_of q.versions) more) p.savepoints) few
    (all_if (is_savepoint (space_of p.spaces) (version_of p.versions) work) (is_savepoint (space_of q.spaces) (version_of q.versions) more) (is_savepoint-kept p q work more le spaces versions) p.savepoints r.each))))

-- the same workspaces have as few as before
pub few-same : (p q : Parts) (work : ℕ) → q.spaces ≡ p.spaces → are_savepoints p work ≡ true → list_all (has_few p.savepoints) q.spaces ≡ true
few-same p q work same e = ap (list_all (has_few p.savepoints)) same ∙ (ruled_savepoints p work e).few
