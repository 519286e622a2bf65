-- The records keep the rules and stand for the state after the batch that settles cells of a workspace.
use Rattle.std.proofs.Common.{◌≡◌, ℕ, ◌+◌, ◌==◌, ◌&&◌, nat_le, nat_lt, max, Bool, true, false, cond, if◌then◌else◌, List, [], ◌∷◌, ◌++◌, map, Some, refl, sym, ap, subst, ◌∙◌, arith}
use Rattle.std.proofs.lemmas.Bool.{eq-eqb, eqb-true, and_parts, leb-true, ltb-true}
use Rattle.std.proofs.lemmas.List.Elements.{All-cons, All-nil}
use Rattle.std.specs.List.{All, filter, list_all}
use Rattle.std.specs.Option.{option_map_or}
use Rattle.wm_base.specs.declared.instant.TheConstants.{END}
use Rattle.wm_graph.specs.Parts.{Parts, parts_of, table_of}
use Rattle.wm_graph.specs.Rules.{are_cells, is_key_of, keep_rules}
use Rattle.wm_spec.specs.Lists.{Cell}
use Rattle.wm_spec.specs.Records.{record_at}
use Rattle.wm_spec.specs.declared.record.Record.{Record}
use Rattle.wm_spec.specs.declared.record.Record.TheVariants as records
use Rattle.wm_spec.specs.declared.record.batch.Change.{Change}
use Rattle.wm_spec.specs.declared.record.counters.Counters.{Counters}
use Rattle.wm_spec.specs.declared.record.piece.PieceRecord.{PieceRecord}
use Rattle.wm_spec.specs.declared.record.space.Space.{Space}
use Rattle.wm_spec.specs.declared.record.stored.Stored.{Stored}
use Rattle.wm_spec.specs.declared.record.trace.Trace.{Trace}
use Rattle.wm_state.specs.Batches.{AllUnder, AreDropped, drop_one}
use Rattle.wm_state.specs.ById.{Ascend, applied, set_at}
use Rattle.wm_state.specs.Drafts.{cells_in}
use Rattle.wm_state.specs.Editing.{settled_by, with_marks}
use Rattle.wm_state.specs.Standing.{CountersStand, FieldsStand, IsRealMark, Stands, marked_at}
use Rattle.wm_state.specs.State.{with_space, Durable}
use Rattle.wm_state.specs.Touching.{is_unmet, trace_of}
use Rattle.wm_state.specs.Writes.{put_all}
use Rattle.wm_state.specs.declared.edit.NewMark.{NewMark}
use Rattle.wm_state.proofs.ById.{Ascend-set}
use Rattle.wm_state.proofs.ByKind.{stored}
use Rattle.wm_state.proofs.Planned.{AllUnder-filter, AllUnder-set, applied-append, counted}
use Rattle.wm_written.proofs.Behind.{parts-marked}
use Rattle.wm_written.proofs.Dropping.{dropped, dropped-set}
use Rattle.wm_settled.specs.Settling.{Remarked, SettledIn, keeps_marks, said, settle_batch}
use Rattle.wm_settled.proofs.KeepSettled.{MaySettle, keep-settled, marked, marks_before, settled_parts}
use Rattle.wm_settled.proofs.Saying.{marked_away, marked_so}
use Rattle.wm_settled.proofs.SettlingStands.{FieldsStand-settled, Stands-settled}

-- ---- what the batch makes of the records

-- the counters have their id, and all ids are under the next
pub record CountersAt (ss : List Stored) (counters_id id : ℕ) (c : Counters) : Type 0 where
  pub sorted : Ascend ss
  pub counters : record_at ss counters_id ≡ Some (records.Counters c)
  pub one : (parts_of ss).counters ≡ c ∷ []
  pub under : AllUnder id ss

-- of records that a test of marks keeps, the marks are those that it passes
parts-unmarked : (test : Trace → Bool) (ss : List Stored) → parts_of (filter (λ (s : Stored). keeps_marks test s.record) ss) ≡ record (parts_of ss) { marks = filter test (parts_of ss).marks }
unfolding parts_of
parts-unmarked test [] = refl
parts-unmarked test (s ∷ ss) = by_record s.record (parts-unmarked test ss)
  where
    rest : List Stored
    rest = filter (λ (s : Stored). keeps_marks test s.record) ss

    after : Parts
    after = record (parts_of ss) { marks = filter test (parts_of ss).marks }

    by_mark : (x : Trace) → parts_of rest ≡ after → (b : Bool) → parts_of (cond b (stored s.id (records.Mark x) ∷ rest) rest) ≡ record after { marks = cond b (x ∷ after.marks) after.marks }
    by_mark x same true = ap (λ (p : Parts). record p { marks = x ∷ p.marks }) same
    by_mark x same false = same

    by_record : (r : Record) → parts_of rest ≡ after → parts_of (cond (keeps_marks test r) (stored s.id r ∷ rest) rest) ≡ record (parts_of (stored s.id r ∷ ss)) { marks = filter test (parts_of (stored s.id r ∷ ss)).marks }
    by_record (records.Mark x) same = by_mark x same (test x)
    by_record (records.Piece x) same = ap (λ (p : Parts). record p { pieces = x ∷ p.pieces }) same
    by_record (records.Touch x) same = ap (λ (p : Parts). record p { touches = x ∷ p.touches }) same
    by_record (records.Counters x) same = ap (λ (p : Parts). record p { counters = x ∷ p.counters }) same
    by_record (records.Table x) same = ap (λ (p : Parts). record p { tables = x ∷ p.tables }) same
    by_record (records.Space x) same = ap (λ (p : Parts). record p { spaces = x ∷ p.spaces }) same
    by_record (records.Version x) same = ap (λ (p : Parts). record p { versions = x ∷ p.versions }) same
    by_record (records.Savepoint x) same = ap (λ (p : Parts). record p { savepoints = x ∷ p.savepoints }) same
    by_record (records.Row x) same = ap (λ (p : Parts). record p { rows = x ∷ p.rows }) same
    by_record (records.Lock x) same = ap (λ (p : Parts). record p { locks = x ∷ p.locks }) same
    by_record (records.Hist x) same = ap (λ (p : Parts). record p { hists = x ∷ p.hists }) same
    by_record (records.Turn x) same = ap (λ (p : Parts). record p { turns = x ∷ p.turns }) same

pub parts-settled : (ss : List Stored) (counters_id id : ℕ) (old new : Counters) (a : Space) (news drawn : List PieceRecord) (ids : List ℕ) → CountersAt ss counters_id id old → AreDropped (keeps_marks (is_unmet a.number news)) ids ss
    → parts_of (applied (settle_batch counters_id new a.number ids id drawn) ss) ≡ settled_parts (parts_of ss) new a news drawn
parts-settled ss counters_id id old new a news drawn ids at are =
    ap parts_of (applied-append (map drop_one ids) puts first ∙ ap (applied puts) (dropped keep ids first (Ascend-set counters_id (Some (records.Counters new)) ss at.sorted) dropped_first))
    ∙ parts-marked id marks second (AllUnder-filter id (λ (s : Stored). keep s.record) first (AllUnder-set id ss counters_id (records.Counters old) (records.Counters new) at.sorted at.counters at.under))
    ∙ ap (λ (p : Parts). record p { marks = p.marks ++ marks }) (parts-unmarked (is_unmet a.number news) first)
    ∙ ap (λ (p : Parts). record p { marks = filter (is_unmet a.number news) p.marks ++ marks }) (counted ss counters_id old new at.sorted at.counters at.one)
  where
    keep : Record → Bool
    keep = keeps_marks (is_unmet a.number news)

    marks : List Trace
    marks = map (trace_of a.number) drawn

    puts : List Change
    puts = put_all id (map records.Mark marks)

    first : List Stored
    first = set_at counters_id (Some (records.Counters new)) ss

    second : List Stored
    second = filter (λ (s : Stored). keep s.record) first

    dropped_first : AreDropped keep ids first
    dropped_first = dropped-set keep ids ss counters_id (records.Counters new) at.sorted refl (are counters_id (records.Counters old) at.counters) are

-- ---- cells are settled

-- marks on cells of tables are over periods
marks_real : (p : Parts) (place : ℕ) (ms : List NewMark) → list_all (λ (m : NewMark). are_cells (table_of p.tables) (cells_in m)) ms ≡ true → All IsRealMark (map (settled_by place) ms)
marks_real p place [] all = All-nil IsRealMark
marks_real p place (m ∷ ms) all =
    let h = and_parts (are_cells (table_of p.tables) (cells_in m)) (list_all (λ (k : NewMark). are_cells (table_of p.tables) (cells_in k)) ms) all in
    let g = and_parts (nat_lt m.period.from m.period.till && nat_le m.period.till END) (option_map_or (is_key_of m.key) (table_of p.tables m.table) false) h.0 in
    let t = and_parts (nat_lt m.period.from m.period.till) (nat_le m.period.till END) g.0 in
    All-cons IsRealMark (settled_by place m) (map (settled_by place) ms) (record { some = ltb-true m.period.from m.period.till t.0; till = leb-true m.period.till END t.1 }) (marks_real p place ms h.1)

-- the next place is behind it
given : (next place : ℕ) → next ≡ place + 1 → nat_lt place next ≡ true
given next place same = grind (arith, same)

-- cells may be settled, where the records stand, and the marks that new ones meet go
pub record SettlesIn (ss : List Stored) (counters_id id : ℕ) (old new : Counters) (a : Space) (ms : List NewMark) (ids : List ℕ) (drawn : List PieceRecord) : Type 0 where
  pub at : CountersAt ss counters_id id old
  pub may : MaySettle (parts_of ss) old new a ms
  pub remarked : Remarked ss a ms ids drawn

module _ (ss : List Stored) (counters_id id : ℕ) (old new : Counters) (a : Space) (ms : List NewMark) (ids : List ℕ) (drawn : List PieceRecord) (rules : keep_rules (parts_of ss) ≡ true)
    (s : SettlesIn ss counters_id id old new a ms ids drawn) where
  abbrev r : Remarked ss a ms ids drawn
  r = s.remarked

  abbrev batch : List Change
  batch = settle_batch counters_id new a.number ids id drawn

  abbrev p : Parts
  p = parts_of ss

  abbrev q : Parts
  q = settled_parts p new a r.news drawn

  -- the records then
  pub parts_after : parts_of (applied batch ss) ≡ q
  parts_after = parts-settled ss counters_id id old new a r.news drawn ids s.at r.gone

  place_given : nat_lt r.place a.next_place ≡ true
  place_given = given a.next_place r.place r.last

  keeps : keep_rules q ≡ true
  keeps = keep-settled p old new a r.place ms r.news drawn rules s.may place_given r.newest r.marks

  settled_then : SettledIn p q a.number ms
  settled_then = record {
    old = a;
    old_is = s.may.space;
    place = r.place;
    last = r.last;
    here = λ c. says r.place c ∙ ap (λ b. if b then max (marked_at p.marks a.number r.place c) (said ms c) else marked_at p.marks a.number r.place c) (eq-eqb r.place r.place refl);
    elsewhere = λ m w c. away m w c (m == a.number) refl;
    real = marks_real p r.place ms s.may.cells;
    rest = refl;
  }
    where
      says : (w : ℕ) (c : Cell) → marked_at q.marks a.number w c ≡ (if w == r.place then max (marked_at p.marks a.number w c) (said ms c) else marked_at p.marks a.number w c)
      says = marked_so a.number r.place ms r.news p.marks q.marks (marks_before p old new a r.place ms r.news drawn rules s.may place_given r.newest r.marks).0 r.newest
          (marked p old new a r.place ms r.news drawn rules s.may place_given r.newest r.marks)

      away : (m w : ℕ) (c : Cell) (b : Bool) → (m == a.number) ≡ b → (b && (w == r.place)) ≡ false → marked_at q.marks m w c ≡ marked_at p.marks m w c
      away m w c true is other =
          ap (λ k. marked_at q.marks k w c) (eqb-true m a.number is)
          ∙ says w c
          ∙ ap (λ b. if b then max (marked_at p.marks a.number w c) (said ms c) else marked_at p.marks a.number w c) other
          ∙ ap (λ k. marked_at p.marks k w c) (sym (eqb-true m a.number is))
      away m w c false is other = marked_away a.number r.news p.marks q.marks (marked p old new a r.place ms r.news drawn rules s.may place_given r.newest r.marks) m w c is

  -- the rules hold after it
  pub keep_plan_settled : keep_rules (parts_of (applied batch ss)) ≡ true
  keep_plan_settled = ap keep_rules parts_after ∙ keeps

  -- the records agree with the state in which they were
  pub agree_settled : (d e : Durable) → FieldsStand p d → e.spaces ≡ with_space a.number (with_marks ms) d.spaces → e.tables ≡ d.tables → ((z : Parts) → z.counters ≡ new ∷ [] → CountersStand z e) → FieldsStand (parts_of (applied batch ss)) e
  agree_settled d e st spaces tables counts = subst (λ z. FieldsStand z e) (sym parts_after) (FieldsStand-settled p q d e a.number ms settled_then spaces st tables (counts q refl))

  -- and stand for it
  pub plan_settled : (d e : Durable) → Stands p d → e.spaces ≡ with_space a.number (with_marks ms) d.spaces → e.tables ≡ d.tables → e.locks ≡ d.locks → ((z : Parts) → z.counters ≡ new ∷ [] → CountersStand z e) → Stands (parts_of (applied batch ss)) e
  plan_settled d e st spaces tables locks counts = subst (λ z. Stands z e) (sym parts_after) (Stands-settled p q d e a.number ms settled_then spaces st tables locks (counts q refl) keeps)
