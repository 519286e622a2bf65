-- What the batch that writes entries into a version more of a workspace makes of the records.
use Rattle.std.proofs.Common.{◌≡◌, ℕ, ◌+◌, ◌≤◌, true, List, [], ◌∷◌, map, length, refl, sym, subst, arith, le_refl}
use Rattle.std.proofs.lemmas.Bool.{true≢false}
use Rattle.wm_graph.specs.Parts.{Parts, parts_of}
use Rattle.wm_graph.specs.Rules.{keep_rules}
use Rattle.wm_spec.specs.Lists.{Entry}
use Rattle.wm_spec.specs.Records.{AreChanges}
use Rattle.wm_spec.specs.declared.record.batch.Change.{Change}
use Rattle.wm_spec.specs.declared.record.counters.Counters.{Counters}
use Rattle.wm_spec.specs.declared.record.piece.PieceRecord.{PieceRecord}
use Rattle.wm_spec.specs.declared.record.space.Space.{Space}
use Rattle.wm_spec.specs.declared.record.stored.Stored.{Stored}
use Rattle.wm_spec.specs.declared.record.version.Version.{Version}
use Rattle.wm_state.specs.ById.{applied}
use Rattle.wm_state.specs.Drafts.{CanWork, DraftsBy, IsSpare}
use Rattle.wm_state.specs.Editing.{drafted_by}
use Rattle.wm_state.specs.Entries.{hists_kept, rows_in}
use Rattle.wm_state.specs.Points.{next_version, stepped_new_by, versioned}
use Rattle.wm_state.specs.Touching.{trace_of}
use Rattle.wm_state.specs.Writes.{Redrawn, entries_new_batch}
use Rattle.wm_state.specs.declared.edit.Edit.TheVariants as edits
use Rattle.wm_state.specs.declared.edit.NewEntry.{NewEntry}
use Rattle.wm_state.proofs.Counting.{counts_as, counts_in, stamped_by, version_well, work_grows}
use Rattle.wm_state.proofs.Drafted.{some_edit}
use Rattle.wm_state.proofs.Growing.{MayFork}
use Rattle.wm_state.proofs.RowsStay.{below_apart, new_apart, rows_stay}
use Rattle.wm_state.proofs.Settled.{Places, PlacesApart, places_apart}
use Rattle.wm_state.proofs.WorkedOn.{counted_put, second_change}
use Rattle.wm_written.proofs.Behind.{new_records}
use Rattle.wm_written.proofs.DraftedWritten.{Apart, Appends, apart_so, counts_on, entries_in, log_room, on_table, rows_apart, stamps_left}
use Rattle.wm_written.proofs.PlannedMore.{MayWriteMore, agree_written_new, keep_planned_new, plan_written_new}
use Rattle.wm_written.proofs.WrittenIds.{changes-write_new}
use Rattle.wm_written.proofs.WrittenKept.{kept_write}

-- the version may be made
may_fork : (p : Parts) (m work table : ℕ) (a : Space) (c : Counters) (es : List Entry) → keep_rules p ≡ true → CanWork p m work → Appends p a.number a c table es
    → MayFork p c (versioned c m work) a a.number (next_version p a.number c)
may_fork p m work table a c es rules can_work v = record {
  one = v.one;
  counters = version_well p m work c rules can_work v.one;
  stamps = refl;
  next = refl;
  work = work_grows c.work work;
  there = v.there;
  number = refl;
  space = refl;
  parent = refl;
}

-- and the entries be written in it
may_write_more : (p : Parts) (m work table : ℕ) (a : Space) (c : Counters) (es : List Entry) → keep_rules p ≡ true → CanWork p m work → Appends p a.number a c table es
    → MayWriteMore p c (versioned c m work) (stepped_new_by c m work (length es)) a (next_version p a.number c) table es
may_write_more p m work table a c es rules can_work v = record {
  fork = may_fork p m work table a c es rules can_work v;
  counters = stamped_by (versioned c m work) (length es) (version_well p m work c rules can_work v.one) (stamps_left p a.number table a c es v);
  stamps = refl;
  versions = refl;
  work = le_refl (c.work + work);
  room = log_room p a.number table a c es v;
  stamped = v.stamped;
  on = on_table p a.number table a c es v;
  well = v.can.well;
  users = v.can.users;
}

-- the batch makes of the records what the entries make of each state, where the newest version of the workspace is not spare
pub drafts_written_new : (rs : List Stored) (m work table : ℕ) (entries : List NewEntry) (a : Space) (c : Counters) (counters_id space_id id : ℕ) (ids : List ℕ) (drawn traced : List PieceRecord) → keep_rules (parts_of rs) ≡ true
    → CanWork (parts_of rs) m work → Appends (parts_of rs) a.number a c table (entries_in entries) → Places rs counters_id space_id id c a → (IsSpare (parts_of rs) a.number → ⊥)
    → Redrawn rs c.next_version a (entries_in entries) ids drawn traced
    → DraftsBy work rs m (edits.Append a.number entries ∷ [])
    (entries_new_batch (parts_of rs).tables counters_id (stepped_new_by c m work (length (entries_in entries))) space_id a ids id (next_version (parts_of rs) a.number c) (entries_in entries) drawn traced)
drafts_written_new rs m work table entries a c counters_id space_id id ids drawn traced rules can_work v at used r = record {
  keeps = keeps;
  once = once;
  stands = λ s st.
      plan_written_new rs counters_id space_id id c (versioned c m work) d a w table es ids drawn traced rules at may r s (drafted_by work m (edits.Append a.number entries ∷ []) s) st refl refl refl
      (counts_on s m work a.number c d entries (counts_as (parts_of rs) s c st v.one) refl refl refl refl);
  fields = λ s st.
      agree_written_new rs counters_id space_id id c (versioned c m work) d a w table es ids drawn traced rules at may r s (drafted_by work m (edits.Append a.number entries ∷ []) s) st refl refl
      (counts_on s m work a.number c d entries (counts_in (parts_of rs) s c st.counters v.one) refl refl refl refl);
  rows = rows_stay rs batch
      (λ k q found. (
        new_apart rs id k q at.under found,
        rows_apart rs c.next_version counters_id space_id id (id + 1) (length es) a c d es ids drawn traced (new_records (rows_in es) drawn (map (trace_of a.number) traced) (hists_kept (parts_of rs).tables a.number a.log_length es)) at r (next id) k q found,
      ));
  kept = kept_write rs (parts_of rs).tables c.next_version counters_id space_id (id + 1) d a es ids drawn traced v.can.kept r;
  counted = λ some. counted_put rs work counters_id c d batch at.sorted v.one once (second_change id counters_id _ _ _ (λ same. below_apart counters_id id apart.counters same)) keeps refl;
  nothing = some_edit (edits.Append a.number entries) [] batch;
  few = λ forks. absurd (true≢false (sym forks));
  spared = λ n more same spare. absurd (used (subst (λ k. IsSpare (parts_of rs) k) (one_number n more same) spare));
  turned = λ left. absurd (true≢false (sym left));
}
  where
    es : List Entry
    es = entries_in entries

    d : Counters
    d = stepped_new_by c m work (length es)

    w : Version
    w = next_version (parts_of rs) a.number c

    apart : PlacesApart counters_id space_id id
    apart = places_apart rs counters_id space_id id c a at

    may : MayWriteMore (parts_of rs) c (versioned c m work) d a w table es
    may = may_write_more (parts_of rs) m work table a c es rules can_work v

    batch : List Change
    batch = entries_new_batch (parts_of rs).tables counters_id d space_id a ids id w es drawn traced

    keeps : keep_rules (parts_of (applied batch rs)) ≡ true
    keeps = keep_planned_new rs counters_id space_id id c (versioned c m work) d a w table es ids drawn traced rules at may r

    ids_apart : Apart counters_id space_id id ids
    ids_apart = apart_so rs c.next_version counters_id space_id id a c es ids drawn traced at r

    once : AreChanges batch
    once = changes-write_new counters_id d space_id a (length es) ids id w (rows_in es) drawn (map (trace_of a.number) traced) (hists_kept (parts_of rs).tables a.number a.log_length es) ids_apart.differ ids_apart.under

    next : (n : ℕ) → n ≤ n + 1
    next n = omega arith

    -- there is one edit
    one_number : (n : ℕ) (more : List NewEntry) → edits.Append a.number entries ∷ [] ≡ edits.Append n more ∷ [] → n ≡ a.number
    one_number n more same = cc
