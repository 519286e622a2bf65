-- What the batch that writes entries into the newest version of a workspace makes of the records.
use Rattle.std.proofs.Common.{◌≡◌, ℕ, ◌+◌, ◌<◌, ◌≤◌, ◌^◌, ◌==◌, nat_lt, nat_le, true, false, List, [], ◌∷◌, ◌++◌, map, length, Option, Some, None, is_some, refl, sym, ap, subst, ◌∙◌, arith, le_refl}
use Rattle.std.proofs.lemmas.Bool.{ne_eqb, and_from, and_parts, lt-ltb, true≢false}
use Rattle.std.proofs.lemmas.Option.{same_Some}
use Rattle.std.specs.List.{list_all}
use Rattle.std.specs.Option.{option_map_or}
use Rattle.wm_graph.specs.Parts.{Parts, parts_of, space_of}
use Rattle.wm_graph.specs.Rules.{keep_rules}
use Rattle.wm_spec.specs.Lists.{Entry}
use Rattle.wm_spec.specs.Records.{AreChanges, ids_differ, record_at}
use Rattle.wm_spec.specs.declared.record.Record.{Record}
use Rattle.wm_spec.specs.declared.record.Record.TheVariants as records
use Rattle.wm_spec.specs.declared.record.batch.Change.{Change}
use Rattle.wm_spec.specs.declared.record.counters.Counters.{Counters}
use Rattle.wm_spec.specs.declared.record.piece.PieceRecord.{PieceRecord}
use Rattle.wm_spec.specs.declared.record.space.Space.{Space}
use Rattle.wm_spec.specs.declared.record.stored.Stored.{Stored}
use Rattle.wm_spec.specs.declared.record.table.Table.{Table}
use Rattle.wm_state.specs.Batches.{AllUnder, drop_one, is_dropped, put}
use Rattle.wm_state.specs.ById.{applied}
use Rattle.wm_state.specs.Drafts.{CanAppend, CanWork, DraftsBy}
use Rattle.wm_state.specs.Editing.{counter_limit, drafted_by, entry_of}
use Rattle.wm_state.specs.Effects.{IsFree, IsLeaf}
use Rattle.wm_state.specs.Entries.{AreStamped, hists_kept, rows_in}
use Rattle.wm_state.specs.Points.{moved, stepped_by}
use Rattle.wm_state.specs.Standing.{CountersStand, is_ready, latest, newest_first}
use Rattle.wm_state.specs.State.{Durable}
use Rattle.wm_state.specs.Touching.{trace_of}
use Rattle.wm_state.specs.Writes.{Redrawn, entries_batch, longer_by, put_all}
use Rattle.wm_state.specs.declared.edit.Edit.TheVariants as edits
use Rattle.wm_state.specs.declared.edit.NewEntry.{NewEntry}
use Rattle.wm_state.proofs.ByKind.{under_found}
use Rattle.wm_state.proofs.Counting.{CountsAs, counts_as, counts_in, in_room, moved_well, stamped_by, work_grows}
use Rattle.wm_state.proofs.Drafted.{some_edit}
use Rattle.wm_state.proofs.Growing.{same_counters}
use Rattle.wm_state.proofs.RowsStay.{LeavesRows, away_append, away_dropped, away_put, row_apart, rows_stay}
use Rattle.wm_state.proofs.Settled.{Places, PlacesApart, places_apart}
use Rattle.wm_state.proofs.WorkedOn.{counted_put, first_change}
use Rattle.wm_written.proofs.Behind.{new_records}
use Rattle.wm_written.proofs.Ids.{are_under}
use Rattle.wm_written.proofs.PlannedWritten.{MayWriteAll, Writing, agree_written, keep_planned, plan_written, versions_planned}
use Rattle.wm_written.proofs.WrittenIds.{changes-write}
use Rattle.wm_written.proofs.WrittenKept.{kept_write}

-- ---- entries

-- the entries of an edit
abbrev pub entries_in : List NewEntry → List Entry
entries_in entries = map entry_of entries

-- what is asked of them, told of one record of counters and of a workspace
pub record Appends (p : Parts) (n : ℕ) (a : Space) (c : Counters) (table : ℕ) (es : List Entry) : Type 0 where
  pub can : CanAppend p n es
  pub there : space_of p.spaces n ≡ Some a
  pub one : p.counters ≡ c ∷ []
  pub stamped : AreStamped table c.next_stamp es

-- the table is that of the first of them
pub stamped_first : (p : Parts) (n table : ℕ) (c : Counters) (es : List Entry) → CanAppend p n es → p.counters ≡ c ∷ [] → ((e : Entry) (rest : List Entry) → es ≡ e ∷ rest → e.table ≡ table) → AreStamped table c.next_stamp es
stamped_first p n table c [] can one first = tt
stamped_first p n table c (e ∷ es) can one first = by_counters (same_counters p can.counters c can.one one)
  where
    same : can.table.number ≡ table
    same = sym (can.stamped.0.table) ∙ first e es refl

    by_counters : c ≡ can.counters → AreStamped table c.next_stamp (e ∷ es)
    by_counters is = subst (λ k. AreStamped table k (e ∷ es)) (ap (λ (d : Counters). d.next_stamp) (sym is)) (subst (λ k. AreStamped k can.counters.next_stamp (e ∷ es)) same can.stamped)

-- stamps are left
pub stamps_left : (p : Parts) (n table : ℕ) (a : Space) (c : Counters) (es : List Entry) → Appends p n a c table es → nat_le (c.next_stamp + length es) (c.limit + 1) ≡ true
stamps_left p n table a c es v = ap (λ (d : Counters). nat_le (d.next_stamp + length es) (d.limit + 1)) (same_counters p v.can.counters c v.can.one v.one) ∙ v.can.left

-- and the log has room
pub log_room : (p : Parts) (n table : ℕ) (a : Space) (c : Counters) (es : List Entry) → Appends p n a c table es → nat_le (a.log_length + length es) (2 ^ 62) ≡ true
log_room p n table a c es v =
    in_room (a.log_length + length es) (ap (λ (b : Space). nat_lt counter_limit (b.log_length + length es)) (same_Some a v.can.space (sym v.there ∙ v.can.there)) ∙ v.can.short)

-- what the counters of a state are once entries are written
pub counts_on : (s : Durable) (m work n : ℕ) (c d : Counters) (entries : List NewEntry) → CountsAs c s → d.next_stamp ≡ c.next_stamp + length (entries_in entries) → d.last_moment ≡ m → d.limit ≡ c.limit → d.work ≡ c.work + work
    → (q : Parts) → q.counters ≡ d ∷ [] → CountersStand q (drafted_by work m (edits.Append n entries ∷ []) s)
counts_on s m work n c d entries counts stamp moment limit more q one = record {
  counters = d;
  one = one;
  next_stamp = stamp ∙ ap (λ k. k + length (entries_in entries)) counts.next_stamp;
  last_moment = moment;
  limit = limit ∙ counts.limit;
  work = more ∙ ap (λ w. w + work) counts.work;
}

-- ---- the ids

-- ids that differ, with two before them
pub two_before : (counters_id space_id : ℕ) (ids : List ℕ) → (space_id == counters_id) ≡ false → is_dropped ids counters_id ≡ false → is_dropped ids space_id ≡ false → ids_differ ids ≡ true → ids_differ (counters_id ∷ space_id ∷ ids) ≡ true
unfolding ids_differ
two_before counters_id space_id ids apart one two differ = rw (apart, one, two) differ

-- what is there is below the new ids
pub all_below : (rs : List Stored) (id : ℕ) (ids : List ℕ) → AllUnder id rs → list_all (λ k. is_some (record_at rs k)) ids ≡ true → are_under id ids ≡ true
all_below rs id [] under all = refl
all_below rs id (k ∷ ks) under all =
    let h = and_parts (is_some (record_at rs k)) (list_all (λ k. is_some (record_at rs k)) ks) all in and_from (nat_lt k id) (are_under id ks) (by_record (record_at rs k) refl h.0) (all_below rs id ks under h.1)
  where
    by_record : (o : Option Record) → record_at rs k ≡ o → is_some o ≡ true → nat_lt k id ≡ true
    by_record None none some = absurd (true≢false (sym some))
    by_record (Some r) found some = lt-ltb k id (under_found id rs k r under found)

-- the ids of the counters, of the workspace and those that go differ, and all are below the new ones
pub record Apart (counters_id space_id id : ℕ) (ids : List ℕ) : Type 0 where
  pub differ : ids_differ (counters_id ∷ space_id ∷ ids) ≡ true
  pub under : are_under id (counters_id ∷ space_id ∷ ids) ≡ true

pub apart_so : (rs : List Stored) (version counters_id space_id id : ℕ) (a : Space) (c : Counters) (es : List Entry) (ids : List ℕ) (drawn traced : List PieceRecord) → Places rs counters_id space_id id c a
    → Redrawn rs version a es ids drawn traced → Apart counters_id space_id id ids
apart_so rs version counters_id space_id id a c es ids drawn traced at r = record {
  differ = two_before counters_id space_id ids (ne_eqb space_id counters_id (λ same. apart.apart (sym same))) (r.gone counters_id (records.Counters c) at.counters) (r.gone space_id (records.Space a) at.space) r.once;
  under = and_from (nat_lt counters_id id) _ (lt-ltb counters_id id apart.counters) (and_from (nat_lt space_id id) _ (lt-ltb space_id id apart.space) (all_below rs id ids at.under r.there));
}
  where
    apart : PlacesApart counters_id space_id id
    apart = places_apart rs counters_id space_id id c a at

-- ---- rows

-- a row is none of what the batch puts and drops, where new ids begin above all others
pub rows_apart : (rs : List Stored) (version counters_id space_id id from count : ℕ) (a : Space) (c new : Counters) (es : List Entry) (ids : List ℕ) (drawn traced : List PieceRecord) (news : List Record) → Places rs counters_id space_id id c a
    → Redrawn rs version a es ids drawn traced → id ≤ from → LeavesRows rs (put counters_id (records.Counters new) ∷ put space_id (records.Space (longer_by count a)) ∷ (map drop_one ids ++ put_all from news))
rows_apart rs version counters_id space_id id from count a c new es ids drawn traced news at r le k q found = (
  row_apart rs counters_id k (records.Counters c) q at.counters refl found,
  (
    row_apart rs space_id k (records.Space a) q at.space refl found,
    away_append k (map drop_one ids) (put_all from news) (away_dropped k ids (r.gone k (records.Row q) found)) (away_put k from news (below k (under_found id rs k (records.Row q) at.under found))),
  ),
)
  where
    below : (n : ℕ) → n < id → n < from
    below n lt = omega (arith, lt, le)

-- ---- the batch

-- the table of the entries is ready for rows
pub on_table : (p : Parts) (n table : ℕ) (a : Space) (c : Counters) (es : List Entry) → Appends p n a c table es → is_ready p.tables table ≡ true
on_table p n table a c [] v = absurd (none_more v.can.some)
  where
    none_more : nat_lt 0 0 ≡ true → ⊥
    none_more e = grind (arith, e)
on_table p n table a c (e ∷ es) v =
    ap (is_ready p.tables) (sym v.stamped.0.table ∙ v.can.stamped.0.table) ∙ ap (λ o. option_map_or (λ (t : Table). t.versioned) o false) v.can.tabled ∙ v.can.on

-- what is asked of the entries
may_write : (p : Parts) (m work table : ℕ) (a : Space) (c : Counters) (es : List Entry) → keep_rules p ≡ true → CanWork p m work → Appends p a.number a c table es → IsLeaf (latest p a.number) (newest_first p.versions)
    → IsFree p (latest p a.number) → MayWriteAll p c (stepped_by c m work (length es)) a table es
may_write p m work table a c es rules can_work v leaf free = record {
  one = v.one;
  counters = stamped_by (moved c m work) (length es) (moved_well p m work c rules can_work v.one) (stamps_left p a.number table a c es v);
  stamps = refl;
  versions = refl;
  work = work_grows c.work work;
  space = v.there;
  room = log_room p a.number table a c es v;
  leaf = leaf;
  free = free;
  stamped = v.stamped;
  on = on_table p a.number table a c es v;
  well = v.can.well;
  users = v.can.users;
}

-- the batch makes of the records what the entries make of each state
pub drafts_written : (rs : List Stored) (m work table : ℕ) (entries : List NewEntry) (a : Space) (c : Counters) (counters_id space_id id : ℕ) (ids : List ℕ) (drawn traced : List PieceRecord) → keep_rules (parts_of rs) ≡ true
    → CanWork (parts_of rs) m work → Appends (parts_of rs) a.number a c table (entries_in entries) → Places rs counters_id space_id id c a → IsLeaf (latest (parts_of rs) a.number) (newest_first (parts_of rs).versions)
    → IsFree (parts_of rs) (latest (parts_of rs) a.number) → Redrawn rs (latest (parts_of rs) a.number) a (entries_in entries) ids drawn traced
    → DraftsBy work rs m (edits.Append a.number entries ∷ [])
    (entries_batch (parts_of rs).tables counters_id (stepped_by c m work (length (entries_in entries))) space_id a ids id (entries_in entries) drawn traced)
drafts_written rs m work table entries a c counters_id space_id id ids drawn traced rules can_work v at leaf free r = record {
  keeps = keeps;
  once = once;
  stands = λ s st.
      plan_written rs counters_id space_id id c d a table es ids drawn traced writing s (drafted_by work m (edits.Append a.number entries ∷ []) s) st refl refl refl
      (counts_on s m work a.number c d entries (counts_as (parts_of rs) s c st v.one) refl refl refl refl);
  fields = λ s st.
      agree_written rs counters_id space_id id c d a table es ids drawn traced writing s (drafted_by work m (edits.Append a.number entries ∷ []) s) rules st refl refl
      (counts_on s m work a.number c d entries (counts_in (parts_of rs) s c st.counters v.one) refl refl refl refl);
  rows = rows_stay rs batch (rows_apart rs (latest (parts_of rs) a.number) counters_id space_id id id (length es) a c d es ids drawn traced (new_records (rows_in es) drawn (map (trace_of a.number) traced) (hists_kept (parts_of rs).tables a.number a.log_length es)) at r (le_refl id));
  kept = kept_write rs (parts_of rs).tables (latest (parts_of rs) a.number) counters_id space_id id d a es ids drawn traced v.can.kept r;
  counted = λ some. counted_put rs work counters_id c d batch at.sorted v.one once (first_change counters_id _ _) keeps refl;
  nothing = some_edit (edits.Append a.number entries) [] batch;
  few = λ forks. absurd (true≢false (sym forks));
  spared = λ n more same spare. versions_planned rs counters_id space_id id c d a table es ids drawn traced writing;
  turned = λ left. absurd (true≢false (sym left));
}
  where
    es : List Entry
    es = entries_in entries

    d : Counters
    d = stepped_by c m work (length es)

    batch : List Change
    batch = entries_batch (parts_of rs).tables counters_id d space_id a ids id es drawn traced

    writing : Writing rs counters_id space_id id c d a table es ids drawn traced
    writing = record {
      at = at;
      may = may_write (parts_of rs) m work table a c es rules can_work v leaf free;
      place = r.place;
      are = record { last = r.last; pieces = r.pieces; marks = r.marks };
      gone = r.gone;
    }

    keeps : keep_rules (parts_of (applied batch rs)) ≡ true
    keeps = keep_planned rs counters_id space_id id c d a table es ids drawn traced writing rules

    apart : Apart counters_id space_id id ids
    apart = apart_so rs (latest (parts_of rs) a.number) counters_id space_id id a c es ids drawn traced at r

    once : AreChanges batch
    once = changes-write counters_id d space_id a (length es) ids id (rows_in es) drawn (map (trace_of a.number) traced) (hists_kept (parts_of rs).tables a.number a.log_length es) apart.differ apart.under
