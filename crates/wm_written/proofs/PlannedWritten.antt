-- The records stand for the state after the batch of a line that writes entries.
use Rattle.std.proofs.Common.{◌≡◌, ℕ, ◌+◌, ◌^◌, ◌≤◌, ◌==◌, nat_lt, nat_le, Bool, true, false, not, List, [], ◌∷◌, ◌++◌, map, Option, Some, None, is_some, refl, sym, ap, subst, ◌∙◌, length, length-append, arith}
use Rattle.std.proofs.lemmas.Bool.{eqb-true, and_parts}
use Rattle.std.specs.List.{list_all, filter}
use Rattle.std.specs.Option.{option_map, option_map_or}
use Rattle.wm_base.proofs.Plain.{nat_le-itself, nat_le-more}
use Rattle.wm_base.specs.declared.row.Row.{Row}
use Rattle.wm_graph.specs.Parts.{Parts, parts_of, as_space, table_of, space_of, version_of, row_of}
use Rattle.wm_graph.specs.Rules.{keep_rules, are_counters, are_spaces, are_rows, are_pieces, is_piece, is_short, is_touch, is_trace, collide, differ, meet}
use Rattle.wm_spec.specs.Lists.{Entry}
use Rattle.wm_spec.specs.Records.{record_at}
use Rattle.wm_spec.specs.declared.record.Record.{Record}
use Rattle.wm_spec.specs.declared.record.Record.TheVariants as records
use Rattle.wm_spec.specs.declared.record.stored.Stored.{Stored}
use Rattle.wm_spec.specs.declared.record.batch.Change.{Change}
use Rattle.wm_spec.specs.declared.record.counters.Counters.{Counters}
use Rattle.wm_spec.specs.declared.record.piece.PieceRecord.{PieceRecord}
use Rattle.wm_spec.specs.declared.record.row.RowRecord.{RowRecord}
use Rattle.wm_spec.specs.declared.record.space.Space.{Space}
use Rattle.wm_spec.specs.declared.record.trace.Trace.{Trace}
use Rattle.wm_state.specs.ById.{Ascend, set_at, applied}
use Rattle.wm_state.specs.Batches.{AreDropped, AllUnder, drop_one}
use Rattle.wm_state.specs.Effects.{IsLeaf, IsFree}
use Rattle.wm_state.specs.Drawing.{AreDrawn, is_clear, touched}
use Rattle.wm_state.specs.Entries.{AreStamped, is_well, pieces_of, rows_in, hists_kept}
use Rattle.wm_state.specs.State.{Durable, with_space, with_entries}
use Rattle.wm_state.specs.Standing.{newest_first, latest, is_ready, CountersStand, FieldsStand, Stands}
use Rattle.wm_state.specs.Touching.{AreMarked, drawn_all, is_behind, is_unmet, marks_of, trace_of}
use Rattle.wm_state.specs.Writes.{keeps_both, longer_by, WroteAll, put_all, write_batch, entries_batch}
use Rattle.wm_state.proofs.Appending.{find_before}
use Rattle.wm_state.proofs.Apart.{Ruled, ruled, apart_of, newest_record}
use Rattle.wm_state.proofs.ById.{Ascend-set}
use Rattle.wm_state.proofs.ByKind.{kinds, Split, split_of, set-split}
use Rattle.wm_state.proofs.Keeping.{KeepTables-same, KeepVersions-same, is_piece-kept}
use Rattle.wm_state.proofs.DrawingEnds.{ends-beside}
use Rattle.wm_state.proofs.Planned.{counted, found_still, AllUnder-filter, AllUnder-set, applied-append}
use Rattle.wm_state.proofs.Planning.{recounted, parts-spaced, spaces-split}
use Rattle.wm_state.proofs.Respaced.{space_here, space_elsewhere}
use Rattle.wm_state.proofs.Settled.{Places}
use Rattle.wm_state.proofs.Tests.{all_if, all_filter}
use Rattle.wm_written.proofs.Behind.{new_records, parts-entered, parts-kept}
use Rattle.wm_written.proofs.DrawingTouched.{kept-apart}
use Rattle.wm_written.proofs.DrawnWell.{piece-parts}
use Rattle.wm_written.proofs.Dropping.{dropped, dropped-set}
use Rattle.wm_written.proofs.EntryRecords.{each_real, each_row, hists_differ, hists_on, hists_well, pieces_well, rows_differ, rows_from, rows_well, told_row}
use Rattle.wm_written.proofs.KeepWritten.{Entering, MayPut, KeepRows-append, all_written, keep-written, rows_found, spaces_longer}
use Rattle.wm_written.proofs.LayingAll.{laid-drawn}
use Rattle.wm_written.proofs.TouchesKept.{marked_apart, marked_longer, on_tables}
use Rattle.wm_written.proofs.Touching.{touched_so}
use Rattle.wm_written.proofs.WritingAll.{FieldsStand-wrote_all, Stands-wrote_all}

-- ---- what the batch makes of the records

pub record Put (ss : List Stored) (cs : List Change) (new : Counters) (a : Space) (k : ℕ) (e : Entering) : Type 0 where
  pub front : List Space
  pub back : List Space
  pub old : (parts_of ss).spaces ≡ front ++ a ∷ back
  pub is : parts_of (applied cs ss) ≡ all_written (parts_of ss) new front a back k e

pub parts-written : (ss : List Stored) (counters_id space_id id : ℕ) (old new : Counters) (a : Space) (k : ℕ) (e : Entering) (ids : List ℕ) → Places ss counters_id space_id id old a → AreDropped (keeps_both e.keep e.stay) ids ss
    → Put ss (write_batch counters_id new space_id a k ids id e.rows e.pieces e.touches e.hists) new a k e
parts-written ss counters_id space_id id old new a k e ids at are = by_split (split_of first space_id (records.Space a) space_still)
  where
    b : Space
    b = longer_by k a

    keep : Record → Bool
    keep = keeps_both e.keep e.stay

    first : List Stored
    first = set_at counters_id (Some (records.Counters new)) ss

    second : List Stored
    second = set_at space_id (Some (records.Space b)) first

    third : List Stored
    third = filter (λ (s : Stored). keep s.record) second

    news : List Change
    news = put_all id (new_records e.rows e.pieces e.touches e.hists)

    sorted_first : Ascend first
    sorted_first = Ascend-set counters_id (Some (records.Counters new)) ss at.sorted

    space_still : record_at first space_id ≡ Some (records.Space a)
    space_still = found_still ss counters_id space_id old new (records.Space a) at.sorted at.counters at.space (λ c f. cc)

    dropped_first : AreDropped keep ids first
    dropped_first = dropped-set keep ids ss counters_id (records.Counters new) at.sorted refl (are counters_id (records.Counters old) at.counters) are

    dropped_second : applied (map drop_one ids) second ≡ third
    dropped_second =
        dropped keep ids second (Ascend-set space_id (Some (records.Space b)) first sorted_first)
        (dropped-set keep ids first space_id (records.Space b) sorted_first refl (dropped_first space_id (records.Space a) space_still) dropped_first)

    under_third : AllUnder id third
    under_third = AllUnder-filter id (λ (s : Stored). keep s.record) second
        (AllUnder-set id first space_id (records.Space a) (records.Space b) sorted_first space_still
        (AllUnder-set id ss counters_id (records.Counters old) (records.Counters new) at.sorted at.counters at.under))

    parts_first : parts_of first ≡ recounted (parts_of ss) new
    parts_first = counted ss counters_id old new at.sorted at.counters at.one

    by_split : Split first space_id (records.Space a) → Put ss (write_batch counters_id new space_id a k ids id e.rows e.pieces e.touches e.hists) new a k e
    by_split s =
        let spaces : (parts_of first).spaces ≡ kinds as_space s.front ++ a ∷ kinds as_space s.back = ap (λ xs. (parts_of xs).spaces) s.is ∙ spaces-split s.front s.back space_id a in
        let parts_second : parts_of second ≡ record (recounted (parts_of ss) new) { spaces = kinds as_space s.front ++ b ∷ kinds as_space s.back } =
        ap parts_of (ap (set_at space_id (Some (records.Space b))) s.is ∙ set-split s.front s.back space_id (records.Space a) (records.Space b) (subst (λ xs. Ascend xs) s.is sorted_first))
        ∙ parts-spaced s.front s.back space_id a b
        ∙ ap (λ xs. record (parts_of xs) { spaces = kinds as_space s.front ++ b ∷ kinds as_space s.back }) (sym s.is)
        ∙ ap (λ (p : Parts). record p { spaces = kinds as_space s.front ++ b ∷ kinds as_space s.back }) parts_first in
        record {
          front = kinds as_space s.front;
          back = kinds as_space s.back;
          old = sym (ap (λ (p : Parts). p.spaces) parts_first) ∙ spaces;
          is =
              ap parts_of (applied-append (map drop_one ids) news second ∙ ap (applied news) dropped_second)
              ∙ parts-entered id e.rows e.pieces e.touches e.hists third under_third
              ∙ ap (λ (p : Parts). record p { rows = p.rows ++ e.rows; pieces = p.pieces ++ e.pieces; touches = p.touches ++ e.touches; hists = p.hists ++ e.hists }) (parts-kept e.keep e.stay second)
              ∙ ap (λ (p : Parts). record p { rows = p.rows ++ e.rows; pieces = filter e.keep p.pieces ++ e.pieces; touches = filter e.stay p.touches ++ e.touches; hists = p.hists ++ e.hists }) parts_second;
        }

-- ---- entries

-- what is asked of the entries that a line writes into the newest version of a workspace
pub record MayWriteAll (p : Parts) (old new : Counters) (a : Space) (table : ℕ) (es : List Entry) : Type 0 where
  pub one : p.counters ≡ old ∷ []
  pub counters : are_counters new ≡ true
  pub stamps : new.next_stamp ≡ old.next_stamp + length es
  pub versions : new.next_version ≡ old.next_version
  pub work : old.work ≤ new.work
  pub space : space_of p.spaces a.number ≡ Some a
  pub room : nat_le (a.log_length + length es) (2 ^ 62) ≡ true
  pub leaf : IsLeaf (latest p a.number) (newest_first p.versions)
  pub free : IsFree p (latest p a.number)
  pub stamped : AreStamped table old.next_stamp es
  pub on : is_ready p.tables table ≡ true
  pub well : list_all (is_well (table_of p.tables)) es ≡ true
  pub users : list_all (λ (e : Entry). is_short e.user) es ≡ true

-- what is drawn and what is traced in the place of what they meet
pub record AreBoth (p : Parts) (version : ℕ) (a : Space) (place : ℕ) (es : List Entry) (drawn traced : List PieceRecord) : Type 0 where
  pub last : a.next_place ≡ place + 1
  pub pieces : AreDrawn (pieces_of version es) (touched (pieces_of version es) p.pieces) drawn
  pub marks : AreDrawn (marks_of place a.log_length es) (touched (marks_of place a.log_length es) (drawn_all a.number p.touches)) traced

-- what comes
abbrev pub entering : Parts → ℕ → Space → ℕ → List Entry → List PieceRecord → List PieceRecord → Entering
entering p version a place es drawn traced = record {
  keep = is_clear (pieces_of version es);
  stay = is_unmet a.number (marks_of place a.log_length es);
  rows = rows_in es;
  pieces = drawn;
  touches = map (trace_of a.number) traced;
  hists = hists_kept p.tables a.number a.log_length es;
}

-- what is known of the counters and the rows before
record Before (p : Parts) (old : Counters) : Type 0 where
  rows : are_rows p old.next_stamp ≡ true
  pieces : list_all (is_piece (table_of p.tables) (version_of p.versions) (row_of p.rows) old.next_stamp) p.pieces ≡ true
  touches : list_all (is_touch (table_of p.tables) (space_of p.spaces)) p.touches ≡ true
  apart : differ meet p.touches ≡ true
  differ : differ collide p.pieces ≡ true

before : (p : Parts) (old : Counters) → keep_rules p ≡ true → p.counters ≡ old ∷ [] → Before p old
before p old rules one = record {
  rows = ap (λ (c : Counters). are_rows p c.next_stamp) same_counters ∙ rule.rows;
  pieces = parts.1;
  differ = parts.0;
  touches = (and_parts (differ meet p.touches) (list_all (is_touch (table_of p.tables) (space_of p.spaces)) p.touches) rule.touches).1;
  apart = (and_parts (differ meet p.touches) (list_all (is_touch (table_of p.tables) (space_of p.spaces)) p.touches) rule.touches).0;
}
  where
    rule : Ruled p
    rule = ruled p rules

    same_counters : old ≡ rule.counters
    same_counters = first_same old rule.counters (sym one ∙ rule.one)
      where
        first_same : (c d : Counters) → (c ∷ []) ≡ (d ∷ []) → c ≡ d
        first_same c d h = cc

    parts : (differ collide p.pieces ≡ true) × (list_all (is_piece (table_of p.tables) (version_of p.versions) (row_of p.rows) old.next_stamp) p.pieces ≡ true)
    parts = and_parts (differ collide p.pieces) (list_all (is_piece (table_of p.tables) (version_of p.versions) (row_of p.rows) old.next_stamp) p.pieces) (ap (λ (c : Counters). are_pieces p c.next_stamp) same_counters ∙ rule.pieces)

-- the touches of a workspace are at positions that its log has
pub all_behind : (p : Parts) (n : ℕ) (a : Space) (xs : List Trace) → space_of p.spaces n ≡ Some a → list_all (is_touch (table_of p.tables) (space_of p.spaces)) xs ≡ true → list_all (is_behind n a.log_length) xs ≡ true
all_behind p n a xs found = all_if (is_touch (table_of p.tables) (space_of p.spaces)) (is_behind n a.log_length) (λ x e. by_space x (x.space == n) refl (and_parts (is_trace (table_of p.tables) (space_of p.spaces) x) _ e).1) xs
  where
    by_space : (x : Trace) (b : Bool) → (x.space == n) ≡ b → option_map_or (λ (s : Space). nat_lt x.position s.log_length) (space_of p.spaces x.space) false ≡ true → is_behind n a.log_length x ≡ true
    by_space x false e h = rw e refl
    by_space x true e h = rw e (sym (ap (λ o. option_map_or (λ (s : Space). nat_lt x.position s.log_length) o false) (ap (space_of p.spaces) (eqb-true x.space n e) ∙ found)) ∙ h)

module _ (p : Parts) (old new : Counters) (a : Space) (table place : ℕ) (es : List Entry) (drawn traced : List PieceRecord) (front back : List Space) (rules : keep_rules p ≡ true) (may : MayWriteAll p old new a table es)
    (are : AreBoth p (latest p a.number) a place es drawn traced) (spaces : p.spaces ≡ front ++ a ∷ back) where
  abbrev news : Entering
  news = entering p (latest p a.number) a place es drawn traced

  was : Before p old
  was = before p old rules may.one

  abbrev b : Space
  b = longer_by (length es) a

  longer : are_spaces (front ++ b ∷ back) ≡ true
  longer = spaces_longer p front back a (length es) rules spaces may.room

  space_after : space_of (front ++ b ∷ back) a.number ≡ Some b
  space_after = space_here front back b a.number longer refl

  space_away : (m : ℕ) → (m == a.number) ≡ false → space_of (front ++ b ∷ back) m ≡ space_of p.spaces m
  space_away m other = space_elsewhere front back a b m apart apart ∙ ap (λ ss. space_of ss m) (sym spaces)
    where
      apart : a.number ≡ m → ⊥
      apart same = grind (arith, other, same)

  in_time : nat_le (old.next_stamp + length es) new.next_stamp ≡ true
  in_time = ap (nat_le (old.next_stamp + length es)) may.stamps ∙ nat_le-itself (old.next_stamp + length es)

  later : nat_le old.next_stamp new.next_stamp ≡ true
  later = ap (nat_le old.next_stamp) may.stamps ∙ nat_le-more old.next_stamp (length es)

  rows_new : list_all (λ (r : RowRecord). nat_le old.next_stamp r.stamp) (rows_in es) ≡ true
  rows_new = rows_from table old.next_stamp old.next_stamp es may.stamped (nat_le-itself old.next_stamp)

  found_new : (stamp : ℕ) (r : RowRecord) → row_of (rows_in es) stamp ≡ Some r → row_of (p.rows ++ rows_in es) stamp ≡ Some r
  found_new = rows_found p old.next_stamp (rows_in es) was.rows rows_new

  marked : AreMarked a.number (marks_of place a.log_length es) p.touches (filter (is_unmet a.number (marks_of place a.log_length es)) p.touches ++ map (trace_of a.number) traced)
  marked = record { drawn = traced; are = are.marks; is = refl }

  -- they may come
  may_put : MayPut p old new front a back (length es) news
  may_put = record {
    one = may.one;
    counters = may.counters;
    stamps = may.stamps;
    versions = may.versions;
    work = may.work;
    spaces = spaces;
    room = may.room;
    rows_well = rows_well (table_of p.tables) table old.next_stamp new.next_stamp es may.stamped in_time may.well;
    rows_new = rows_new;
    rows_differ = rows_differ table old.next_stamp es may.stamped;
    pieces_well = are.pieces.pass well (piece-parts (table_of p.tables) (version_of p.versions) (row_of (p.rows ++ rows_in es)) new.next_stamp) old_well new_well;
    pieces_differ = are.pieces.differ;
    apart = kept-apart (pieces_of (latest p a.number) es) p.pieces drawn was.differ are.pieces;
    touches_differ = marked_apart a.number place a.log_length es p.touches (filter news.stay p.touches ++ news.touches) was.apart marked;
    touches_well = marked_longer (table_of p.tables) (space_of p.spaces) (space_of (front ++ b ∷ back)) a.number place a es p.touches (filter news.stay p.touches ++ news.touches) may.space space_after space_away
        (given a.next_place are.last) (on_tables (table_of p.tables) table old.next_stamp es may.stamped may.well) was.touches marked;
    hists_well = hists_well p.tables (table_of p.tables) (space_of (front ++ b ∷ back)) (row_of (p.rows ++ rows_in es)) table old.next_stamp new.next_stamp a.number a.log_length b es may.stamped
        in_time may.well may.users space_after (nat_le-itself (a.log_length + length es)) found_new;
    hists_differ = hists_differ p.tables a.number a.log_length es;
    hists_new = hists_on p.tables a.number a.log_length a.log_length es (nat_le-itself a.log_length);
  }
    where
      well : PieceRecord → Bool
      well = is_piece (table_of p.tables) (version_of p.versions) (row_of (p.rows ++ rows_in es)) new.next_stamp

      -- the records with the new rows
      q : Parts
      q = record p { rows = p.rows ++ rows_in es }

      given : (next : ℕ) → next ≡ place + 1 → nat_lt place next ≡ true
      given next same = grind (arith, same)

      old_well : list_all well (touched (pieces_of (latest p a.number) es) p.pieces) ≡ true
      old_well = all_filter well (λ y. not (news.keep y)) p.pieces
          (all_if (is_piece (table_of p.tables) (version_of p.versions) (row_of p.rows) old.next_stamp) well
          (is_piece-kept p q old.next_stamp new.next_stamp later (KeepTables-same p q refl) (KeepVersions-same p q refl) (KeepRows-append p q (rows_in es) refl)) p.pieces was.pieces)

      new_well : list_all well (pieces_of (latest p a.number) es) ≡ true
      new_well = pieces_well (table_of p.tables) (version_of p.versions) (row_of (p.rows ++ rows_in es)) table old.next_stamp new.next_stamp (latest p a.number) es may.stamped in_time may.well
          (ap is_some (newest_record p rules a.number a may.space).1) found_new

  -- and are written
  wrote-all : WroteAll p (all_written p new front a back (length es) news) a.number es
  wrote-all = record {
    leaf = may.leaf;
    free = may.free;
    apart = apart_of p rules a.number a may.space;
    count = length-append front (b ∷ back) ∙ sym (length-append front (a ∷ back)) ∙ sym (ap length spaces);
    old = a;
    old_is = may.space;
    here = space_after;
    elsewhere = space_away;
    pieces = laid-drawn (latest p a.number) es p.pieces drawn was.differ are.pieces;
    ends = ends-beside news.keep p.pieces (pieces_of (latest p a.number) es) drawn are.pieces.ends;
    rows_kept = λ stamp r found. find_before (λ (x : RowRecord). x.stamp == stamp) p.rows (rows_in es) r found;
    rows_new = λ c t row found is. by_row t.stamp row (row_of (rows_in es) t.stamp) refl (told_row table old.next_stamp es may.stamped c t row found is);
    rows_each = λ k d lt row is. by_row _ row (row_of (rows_in es) _) refl (each_row table old.next_stamp es may.stamped k d lt row is);
    real = each_real p.tables table old.next_stamp es may.stamped may.on;
    place = place;
    last = are.last;
    touches = touched_so a.number place a.log_length es p.touches (filter news.stay p.touches ++ news.touches) was.apart (all_behind p a.number a p.touches may.space was.touches) marked;
    hists = refl;
    rest = refl;
  }
    where
      by_row : (stamp : ℕ) (row : Row) (o : Option RowRecord) → row_of (rows_in es) stamp ≡ o → option_map (λ (r : RowRecord). r.values) o ≡ Some row.values
          → option_map (λ (r : RowRecord). r.values) (row_of (p.rows ++ rows_in es) stamp) ≡ Some row.values
      by_row stamp row None found is = cc
      by_row stamp row (Some r) found is = ap (option_map (λ (r : RowRecord). r.values)) (found_new stamp r found) ∙ is

-- ---- the laws of the batch

-- entries may be written into the newest version of a workspace, where the records stand, and what they meet goes
pub record Writing (ss : List Stored) (counters_id space_id id : ℕ) (old new : Counters) (a : Space) (table : ℕ) (es : List Entry) (ids : List ℕ) (drawn traced : List PieceRecord) : Type 0 where
  pub at : Places ss counters_id space_id id old a
  pub may : MayWriteAll (parts_of ss) old new a table es
  pub place : ℕ
  pub are : AreBoth (parts_of ss) (latest (parts_of ss) a.number) a place es drawn traced
  pub gone : AreDropped (keeps_both (is_clear (pieces_of (latest (parts_of ss) a.number) es)) (is_unmet a.number (marks_of place a.log_length es))) ids ss

module _ (ss : List Stored) (counters_id space_id id : ℕ) (old new : Counters) (a : Space) (table : ℕ) (es : List Entry) (ids : List ℕ) (drawn traced : List PieceRecord)
    (w : Writing ss counters_id space_id id old new a table es ids drawn traced) where
  abbrev batch : List Change
  batch = entries_batch (parts_of ss).tables counters_id new space_id a ids id es drawn traced

  abbrev comes : Entering
  comes = entering (parts_of ss) (latest (parts_of ss) a.number) a w.place es drawn traced

  parts-entries : Put ss batch new a (length es) comes
  parts-entries = parts-written ss counters_id space_id id old new a (length es) comes ids w.at w.gone

  -- the rules hold after it
  pub keep_planned : keep_rules (parts_of ss) ≡ true → keep_rules (parts_of (applied batch ss)) ≡ true
  keep_planned rules =
      let i = parts-entries in
      subst (λ p. keep_rules p ≡ true) (sym i.is)
      (keep-written (parts_of ss) old new i.front a i.back (length es) comes
      (may_put (parts_of ss) old new a table w.place es drawn traced i.front i.back rules w.may w.are i.old) rules)

  -- the records agree with the state that has the entries
  pub agree_written : (s u : Durable) → keep_rules (parts_of ss) ≡ true → FieldsStand (parts_of ss) s → u.spaces ≡ with_space a.number (with_entries es) s.spaces → u.tables ≡ s.tables
      → ((q : Parts) → q.counters ≡ new ∷ [] → CountersStand q u) → FieldsStand (parts_of (applied batch ss)) u
  agree_written s u rules st spaces tables counted_so =
      let i = parts-entries in
      let q = all_written (parts_of ss) new i.front a i.back (length es) comes in
      subst (λ p. FieldsStand p u) (sym i.is)
      (FieldsStand-wrote_all (parts_of ss) q s u a.number es (wrote-all (parts_of ss) old new a table w.place es drawn traced i.front i.back rules w.may w.are i.old) st spaces tables (counted_so q refl))

  -- and stand for it
  pub plan_written : (s u : Durable) → Stands (parts_of ss) s → u.spaces ≡ with_space a.number (with_entries es) s.spaces → u.tables ≡ s.tables → u.locks ≡ s.locks
      → ((q : Parts) → q.counters ≡ new ∷ [] → CountersStand q u) → Stands (parts_of (applied batch ss)) u
  plan_written s u st spaces tables locks counted_so =
      let i = parts-entries in
      let q = all_written (parts_of ss) new i.front a i.back (length es) comes in
      subst (λ p. Stands p u) (sym i.is)
      (Stands-wrote_all (parts_of ss) q s u a.number es (wrote-all (parts_of ss) old new a table w.place es drawn traced i.front i.back st.rules w.may w.are i.old) st spaces tables locks (counted_so q refl)
      (keep-written (parts_of ss) old new i.front a i.back (length es) comes
      (may_put (parts_of ss) old new a table w.place es drawn traced i.front i.back st.rules w.may w.are i.old) st.rules))

  -- the versions are those of before
  pub versions_planned : (parts_of (applied batch ss)).versions ≡ (parts_of ss).versions
  versions_planned = ap (λ (q : Parts). q.versions) parts-entries.is
