-- The rules hold of the records with more rows, more pieces and touches in the place of some, and more entries of a log.
use Rattle.std.proofs.Common.{◌≡◌, ℕ, ◌+◌, ◌^◌, ◌≤◌, ◌==◌, nat_lt, nat_le, Bool, true, false, not, ◌&&◌, List, [], ◌∷◌, ◌++◌, Option, Some, refl, sym, ap, ◌∙◌, arith}
use Rattle.std.proofs.lemmas.Bool.{eqb-true, and_from, and_parts, le-leb}
use Rattle.std.specs.List.{list_all, list_any, filter}
use Rattle.std.specs.Option.{option_map_or}
use Rattle.wm_base.proofs.Plain.{nat_le-itself, nat_le-more}
use Rattle.wm_graph.specs.Parts.{Parts, table_of, space_of, version_of, row_of}
use Rattle.wm_graph.specs.Rules.{keep_rules, are_counters, are_spaces, is_space, is_placed, is_short, are_versions, are_savepoints, has_few, are_rows, is_row, are_pieces, is_piece, collide, is_hist, same_position, are_hists, meet, is_touch, are_locks, differ}
use Rattle.wm_spec.specs.declared.record.counters.Counters.{Counters}
use Rattle.wm_spec.specs.declared.record.hist.Hist.{Hist}
use Rattle.wm_spec.specs.declared.record.piece.PieceRecord.{PieceRecord}
use Rattle.wm_spec.specs.declared.record.row.RowRecord.{RowRecord}
use Rattle.wm_spec.specs.declared.record.space.Space.{Space}
use Rattle.wm_spec.specs.declared.record.trace.Trace.{Trace}
use Rattle.wm_state.specs.Writes.{longer_by}
use Rattle.wm_state.proofs.Appending.{all_append, differ_append, find_before, find_behind}
use Rattle.wm_state.proofs.Apart.{Ruled, ruled, each_space, keeps_all, found-passes}
use Rattle.wm_state.proofs.Frames.{KeepRows}
use Rattle.wm_state.proofs.Keeping.{KeepTables, KeepTables-same, KeepSpaces, KeepSpaces-swap, KeepVersions-same, is_row-kept, is_piece-kept, is_hist-kept, are_savepoints-kept}
use Rattle.wm_state.proofs.KeepingTurns.{are_locks-kept, are_marks-kept, are_turns-kept, turned-swap}
use Rattle.wm_state.proofs.Named.{ruled_savepoints}
use Rattle.wm_state.proofs.Respaced.{MayReplace, is_counted, space_here, spaces_replaced, versions_replaced}
use Rattle.wm_state.proofs.Tests.{all_if, all_filter, all_swap, all_middle, differ_filter, none_if}
use Rattle.wm_written.proofs.Touched.{AreApart}

-- what comes, and the tests of the pieces and of the touches that stay
pub record Entering : Type 0 where
  pub keep : PieceRecord → Bool
  pub stay : Trace → Bool
  pub rows : List RowRecord
  pub pieces : List PieceRecord
  pub touches : List Trace
  pub hists : List Hist

-- the records with that, a log of one workspace that is longer by so many, and other counters
abbrev pub all_written : Parts → Counters → List Space → Space → List Space → ℕ → Entering → Parts
all_written p c front a back k e = record p {
  counters = c ∷ [];
  spaces = front ++ longer_by k a ∷ back;
  rows = p.rows ++ e.rows;
  pieces = filter e.keep p.pieces ++ e.pieces;
  touches = filter e.stay p.touches ++ e.touches;
  hists = p.hists ++ e.hists;
}

-- what is asked of it: the rows have new stamps, each its own; the rows of the pieces and of the entries are among all rows, no two
-- pieces collide and no two touches meet, and the entries have new positions of the log that is longer, each its own
pub record MayPut (p : Parts) (old new : Counters) (front : List Space) (a : Space) (back : List Space) (k : ℕ) (e : Entering) : Type 0 where
  pub one : p.counters ≡ old ∷ []
  pub counters : are_counters new ≡ true
  pub stamps : new.next_stamp ≡ old.next_stamp + k
  pub versions : new.next_version ≡ old.next_version
  pub work : old.work ≤ new.work
  pub spaces : p.spaces ≡ front ++ a ∷ back
  pub room : nat_le (a.log_length + k) (2 ^ 62) ≡ true
  pub rows_well : list_all (is_row (table_of p.tables) new.next_stamp) e.rows ≡ true
  pub rows_new : list_all (λ (r : RowRecord). nat_le old.next_stamp r.stamp) e.rows ≡ true
  pub rows_differ : differ (λ (r q : RowRecord). r.stamp == q.stamp) e.rows ≡ true
  pub pieces_well : list_all (is_piece (table_of p.tables) (version_of p.versions) (row_of (p.rows ++ e.rows)) new.next_stamp) e.pieces ≡ true
  pub pieces_differ : differ collide e.pieces ≡ true
  pub apart : AreApart (filter e.keep p.pieces) e.pieces
  pub touches_differ : differ meet (filter e.stay p.touches ++ e.touches) ≡ true
  pub touches_well : list_all (is_touch (table_of p.tables) (space_of (front ++ longer_by k a ∷ back))) (filter e.stay p.touches ++ e.touches) ≡ true
  pub hists_well : list_all (is_hist (table_of p.tables) (space_of (front ++ longer_by k a ∷ back)) (row_of (p.rows ++ e.rows)) new.next_stamp) e.hists ≡ true
  pub hists_differ : differ same_position e.hists ≡ true
  pub hists_new : list_all (λ (x : Hist). (x.space == a.number) && nat_le a.log_length x.position) e.hists ≡ true

-- ---- rows

-- a row of before has none of the new stamps
stamps_apart : (p : Parts) (next : ℕ) (rows : List RowRecord) → list_all (λ (r : RowRecord). nat_le next r.stamp) rows ≡ true → (x : RowRecord) → is_row (table_of p.tables) next x ≡ true
    → list_any (λ (r : RowRecord). x.stamp == r.stamp) rows ≡ false
stamps_apart p next rows new x is =
    none_if (λ (r : RowRecord). nat_le next r.stamp) (λ (r : RowRecord). x.stamp == r.stamp) (λ r le. below x.stamp r.stamp next (and_parts (nat_lt x.stamp next) _ is).0 le) rows new
  where
    below : (m n k : ℕ) → nat_lt m k ≡ true → nat_le k n ≡ true → (m == n) ≡ false
    below m n k lt le = grind (arith, lt, le)

rows_kept : (p q : Parts) (next more : ℕ) (rows : List RowRecord) → nat_le next more ≡ true → q.tables ≡ p.tables → q.rows ≡ p.rows ++ rows → list_all (is_row (table_of p.tables) more) rows ≡ true
    → list_all (λ (r : RowRecord). nat_le next r.stamp) rows ≡ true → differ (λ (r q : RowRecord). r.stamp == q.stamp) rows ≡ true → are_rows p next ≡ true → are_rows q more ≡ true
rows_kept p q next more rows le tables are well new apart e =
    let h = and_parts (differ (λ (r q : RowRecord). r.stamp == q.stamp) p.rows) (list_all (is_row (table_of p.tables) next) p.rows) e in
    rw (tables, are)
    (and_from (differ (λ (r q : RowRecord). r.stamp == q.stamp) (p.rows ++ rows)) (list_all (is_row (table_of p.tables) more) (p.rows ++ rows))
    (differ_append (λ (r q : RowRecord). r.stamp == q.stamp) p.rows rows h.0 apart
    (all_if (is_row (table_of p.tables) next) (λ (x : RowRecord). not (list_any (λ (r : RowRecord). x.stamp == r.stamp) rows)) (λ x is. ap not (stamps_apart p next rows new x is)) p.rows h.1))
    (all_append (is_row (table_of p.tables) more) p.rows rows
    (all_if (is_row (table_of p.tables) next) (is_row (table_of p.tables) more) (is_row-kept p p next more le (KeepTables-same p p refl)) p.rows h.1)
    well))

-- the new rows are found by their stamps
pub rows_found : (p : Parts) (next : ℕ) (rows : List RowRecord) → are_rows p next ≡ true → list_all (λ (r : RowRecord). nat_le next r.stamp) rows ≡ true
    → (stamp : ℕ) (r : RowRecord) → row_of rows stamp ≡ Some r → row_of (p.rows ++ rows) stamp ≡ Some r
rows_found p next rows e new stamp r found =
    find_behind (λ (x : RowRecord). x.stamp == stamp) p.rows rows
    (none_if (is_row (table_of p.tables) next) (λ (x : RowRecord). x.stamp == stamp) (λ x is. below x.stamp r.stamp stamp next (and_parts (nat_lt x.stamp next) _ is).0 is_new.1 is_new.0) p.rows
    (and_parts (differ (λ (r q : RowRecord). r.stamp == q.stamp) p.rows) (list_all (is_row (table_of p.tables) next) p.rows) e).1)
    ∙ found
  where
    is_new : ((r.stamp == stamp) ≡ true) × (nat_le next r.stamp ≡ true)
    is_new = found-passes (λ (x : RowRecord). x.stamp == stamp) (λ (x : RowRecord). nat_le next x.stamp) rows r found new

    below : (m n s k : ℕ) → nat_lt m k ≡ true → nat_le k n ≡ true → (n == s) ≡ true → (m == s) ≡ false
    below m n s k lt le same = grind (arith, lt, le, same)

pub KeepRows-append : (p q : Parts) (rows : List RowRecord) → q.rows ≡ p.rows ++ rows → KeepRows p q
KeepRows-append p q rows more stamp r found = ap (λ rs. row_of rs stamp) more ∙ find_before (λ (y : RowRecord). y.stamp == stamp) p.rows rows r found

-- ---- pieces

pub pieces_kept : (p q : Parts) (next more : ℕ) (rows : List RowRecord) (keep : PieceRecord → Bool) (pieces : List PieceRecord) → nat_le next more ≡ true → q.tables ≡ p.tables → q.versions ≡ p.versions
    → q.rows ≡ p.rows ++ rows → q.pieces ≡ filter keep p.pieces ++ pieces
    → list_all (is_piece (table_of p.tables) (version_of p.versions) (row_of (p.rows ++ rows)) more) pieces ≡ true → differ collide pieces ≡ true
    → AreApart (filter keep p.pieces) pieces → are_pieces p next ≡ true → are_pieces q more ≡ true
pieces_kept p q next more rows keep pieces le tables versions are_rows are well differ_so apart e =
    let h = and_parts (differ collide p.pieces) (list_all (is_piece (table_of p.tables) (version_of p.versions) (row_of p.rows) next) p.pieces) e in
    rw are
    (and_from (differ collide (filter keep p.pieces ++ pieces)) (list_all (is_piece (table_of q.tables) (version_of q.versions) (row_of q.rows) more) (filter keep p.pieces ++ pieces))
    (differ_append collide (filter keep p.pieces) pieces (differ_filter collide keep p.pieces h.0) differ_so apart)
    (all_append (is_piece (table_of q.tables) (version_of q.versions) (row_of q.rows) more) (filter keep p.pieces) pieces
    (all_filter (is_piece (table_of q.tables) (version_of q.versions) (row_of q.rows) more) keep p.pieces
    (all_if (is_piece (table_of p.tables) (version_of p.versions) (row_of p.rows) next) (is_piece (table_of q.tables) (version_of q.versions) (row_of q.rows) more)
    (is_piece-kept p q next more le (KeepTables-same p q tables) (KeepVersions-same p q versions) (KeepRows-append p q rows are_rows)) p.pieces h.1))
    (rw (tables, versions, are_rows) well)))

-- ---- logs

position_below : (m n k : ℕ) → nat_lt m k ≡ true → nat_le k n ≡ true → (m == n) ≡ false
position_below m n k lt le = grind (arith, lt, le)

-- an entry of before stands at none of the new positions
positions_apart : (p : Parts) (next : ℕ) (a : Space) (hists : List Hist) → space_of p.spaces a.number ≡ Some a → list_all (λ (x : Hist). (x.space == a.number) && nat_le a.log_length x.position) hists ≡ true → (x : Hist)
    → is_hist (table_of p.tables) (space_of p.spaces) (row_of p.rows) next x ≡ true → list_any (same_position x) hists ≡ false
positions_apart p next a hists there new x is =
    none_if (λ (y : Hist). (y.space == a.number) && nat_le a.log_length y.position) (same_position x) (λ y e. by_space y (and_parts (y.space == a.number) (nat_le a.log_length y.position) e) (x.space == y.space) refl) hists new
  where
    within : Space → Bool
    within s = nat_lt x.position s.log_length

    inside : option_map_or within (space_of p.spaces x.space) false ≡ true
    inside = (and_parts (is_short x.user) (option_map_or within (space_of p.spaces x.space) false) (and_parts (is_short x.user && option_map_or within (space_of p.spaces x.space) false) _ is).0).1

    by_space : (y : Hist) → ((y.space == a.number) ≡ true) × (nat_le a.log_length y.position ≡ true) → (b : Bool) → (x.space == y.space) ≡ b → (b && (x.position == y.position)) ≡ false
    by_space y h false e = refl
    by_space y h true e = position_below x.position y.position a.log_length
        (sym (ap (λ o. option_map_or within o false) (ap (space_of p.spaces) (eqb-true x.space y.space e ∙ eqb-true y.space a.number h.0) ∙ there)) ∙ inside) h.1

pub hists_kept : (p q : Parts) (next more : ℕ) (a : Space) (hists : List Hist) → nat_le next more ≡ true → KeepTables p q → KeepSpaces p q → KeepRows p q → q.hists ≡ p.hists ++ hists → space_of p.spaces a.number ≡ Some a
    → list_all (is_hist (table_of q.tables) (space_of q.spaces) (row_of q.rows) more) hists ≡ true → differ same_position hists ≡ true → list_all (λ (x : Hist). (x.space == a.number) && nat_le a.log_length x.position) hists ≡ true
    → are_hists p next ≡ true → are_hists q more ≡ true
hists_kept p q next more a hists le tables spaces rows are there well apart new e =
    let h = and_parts (differ same_position p.hists) (list_all (is_hist (table_of p.tables) (space_of p.spaces) (row_of p.rows) next) p.hists) e in
    rw are
    (and_from (differ same_position (p.hists ++ hists)) (list_all (is_hist (table_of q.tables) (space_of q.spaces) (row_of q.rows) more) (p.hists ++ hists))
    (differ_append same_position p.hists hists h.0 apart
    (all_if (is_hist (table_of p.tables) (space_of p.spaces) (row_of p.rows) next) (λ (x : Hist). not (list_any (same_position x) hists)) (λ x is. ap not (positions_apart p next a hists there new x is)) p.hists h.1))
    (all_append (is_hist (table_of q.tables) (space_of q.spaces) (row_of q.rows) more) p.hists hists
    (all_if (is_hist (table_of p.tables) (space_of p.spaces) (row_of p.rows) next) (is_hist (table_of q.tables) (space_of q.spaces) (row_of q.rows) more) (is_hist-kept p q next more le tables spaces rows) p.hists h.1)
    well))

-- ---- workspaces

-- a longer log is counted
counted_longer : (spaces : ℕ → Option Space) (a : Space) (k : ℕ) → nat_le (a.log_length + k) (2 ^ 62) ≡ true → is_space spaces a ≡ true → is_counted (longer_by k a) ≡ true
counted_longer spaces a k room e =
    let h = and_parts (is_placed spaces a && (is_short a.name && is_short a.writer)) (nat_le 1 a.next_place && (nat_le 1 a.next_implicit && nat_le a.log_length (2 ^ 62))) e in
    let g = and_parts (is_placed spaces a) (is_short a.name && is_short a.writer) h.0 in
    let i = and_parts (is_short a.name) (is_short a.writer) g.1 in
    let j = and_parts (nat_le 1 a.next_place) (nat_le 1 a.next_implicit && nat_le a.log_length (2 ^ 62)) h.1 in
    let l = and_parts (nat_le 1 a.next_implicit) (nat_le a.log_length (2 ^ 62)) j.1 in
    and_from (is_short a.writer) _ i.1 (and_from (nat_le 1 a.next_place) _ j.0 (and_from (nat_le 1 a.next_implicit) _ l.0 room))

longer_may : (a : Space) (k : ℕ) → MayReplace a (longer_by k a)
longer_may a k = record { number = refl; name = refl; parent = refl; birth = refl; base = refl }

-- the workspaces with the log that is longer keep the rules
pub spaces_longer : (p : Parts) (front back : List Space) (a : Space) (k : ℕ) → keep_rules p ≡ true → p.spaces ≡ front ++ a ∷ back → nat_le (a.log_length + k) (2 ^ 62) ≡ true → are_spaces (front ++ longer_by k a ∷ back) ≡ true
spaces_longer p front back a k e spaces room = spaces_replaced front back a (longer_by k a) (longer_may a k) counted before
  where
    before : are_spaces (front ++ a ∷ back) ≡ true
    before = ap are_spaces (sym spaces) ∙ (ruled p e).spaces

    counted : is_counted (longer_by k a) ≡ true
    counted = counted_longer (space_of (front ++ a ∷ back)) a k room (all_middle (is_space (space_of (front ++ a ∷ back))) a front back (each_space (front ++ a ∷ back) before))

-- ---- all rules

pub keep-written : (p : Parts) (old new : Counters) (front : List Space) (a : Space) (back : List Space) (k : ℕ) (e : Entering)
    → MayPut p old new front a back k e → keep_rules p ≡ true → keep_rules (all_written p new front a back k e) ≡ true
keep-written p old new front a back k e may rules = keeps_all q new refl may.counters
    rule.tables
    (spaces_longer p front back a k rules may.spaces may.room)
    (ap (are_versions q) may.versions
    ∙ versions_replaced p q front back a (longer_by k a) old.next_version (longer_may a k) may.spaces refl refl (ap (λ (c : Counters). are_versions p c.next_version) same ∙ rule.versions))
    (are_savepoints-kept p q old.work new.work worked spaces (KeepVersions-same p q refl) refl few savepoints)
    (rows_kept p q old.next_stamp new.next_stamp e.rows later refl refl may.rows_well may.rows_new may.rows_differ rows_before)
    (pieces_kept p q old.next_stamp new.next_stamp e.rows e.keep e.pieces later refl refl refl refl may.pieces_well may.pieces_differ may.apart
    (ap (λ (c : Counters). are_pieces p c.next_stamp) same ∙ rule.pieces))
    (hists_kept p q old.next_stamp new.next_stamp a e.hists later (KeepTables-same p q refl) spaces (KeepRows-append p q e.rows refl) refl
    (ap (λ ss. space_of ss a.number) may.spaces ∙ space_here front back a a.number before refl) may.hists_well may.hists_differ may.hists_new (ap (λ (c : Counters). are_hists p c.next_stamp) same ∙ rule.hists))
    (and_from (differ meet q.touches) (list_all (is_touch (table_of q.tables) (space_of q.spaces)) q.touches) may.touches_differ may.touches_well)
    (are_locks-kept p q old.work new.work worked (KeepTables-same p q refl) spaces refl (ap (λ (c : Counters). are_locks p c.work) same ∙ rule.locks))
    (are_marks-kept p q (KeepTables-same p q refl) spaces refl rule.marks)
    (are_turns-kept p q spaces refl (turned-swap p q front back a (longer_by k a) refl refl may.spaces refl rule.turns) rule.turns)
  where
    q : Parts
    q = all_written p new front a back k e

    rule : Ruled p
    rule = ruled p rules

    same : old ≡ rule.counters
    same = first_same old rule.counters (sym may.one ∙ rule.one)
      where
        first_same : (b d : Counters) → (b ∷ []) ≡ (d ∷ []) → b ≡ d
        first_same b d h = cc

    later : nat_le old.next_stamp new.next_stamp ≡ true
    later = ap (nat_le old.next_stamp) may.stamps ∙ nat_le-more old.next_stamp k

    worked : nat_le old.work new.work ≡ true
    worked = le-leb old.work new.work may.work

    before : are_spaces (front ++ a ∷ back) ≡ true
    before = ap are_spaces (sym may.spaces) ∙ rule.spaces

    spaces : KeepSpaces p q
    spaces = KeepSpaces-swap p q front back a (longer_by k a) refl refl (nat_le-more a.log_length k) (nat_le-itself a.next_place) refl may.spaces refl

    savepoints : are_savepoints p old.work ≡ true
    savepoints = ap (λ (c : Counters). are_savepoints p c.work) same ∙ rule.savepoints

    few : list_all (has_few p.savepoints) q.spaces ≡ true
    few =
        let all : list_all (has_few p.savepoints) (front ++ a ∷ back) ≡ true = ap (list_all (has_few p.savepoints)) (sym may.spaces) ∙ (ruled_savepoints p old.work savepoints).few in
        all_swap (has_few p.savepoints) (has_few p.savepoints) a (longer_by k a) front back (λ s h. h) (all_middle (has_few p.savepoints) a front back all) all

    rows_before : are_rows p old.next_stamp ≡ true
    rows_before = ap (λ (c : Counters). are_rows p c.next_stamp) same ∙ rule.rows
