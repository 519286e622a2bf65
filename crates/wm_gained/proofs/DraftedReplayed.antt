-- What the batch that writes entries made before in a version more makes of the records.
use Rattle.std.proofs.Common.{◌≡◌, ℕ, ◌+◌, ◌≤◌, nat_lt, true, List, [], ◌∷◌, ◌++◌, map, length, Some, refl, sym, ap, subst, ◌∙◌, arith}
use Rattle.std.proofs.lemmas.Option.{same_Some}
use Rattle.std.proofs.lemmas.Bool.{true≢false}
use Rattle.std.specs.List.{list_all}
use Rattle.wm_graph.specs.Parts.{Parts, parts_of, space_of}
use Rattle.wm_graph.specs.Rules.{keep_rules}
use Rattle.wm_spec.specs.Lists.{Entry}
use Rattle.wm_spec.specs.Records.{AreChanges}
use Rattle.wm_spec.specs.declared.record.Record.{Record}
use Rattle.wm_spec.specs.declared.record.Record.TheVariants as records
use Rattle.wm_spec.specs.declared.record.batch.Change.{Change}
use Rattle.wm_spec.specs.declared.record.counters.Counters.{Counters}
use Rattle.wm_spec.specs.declared.record.piece.PieceRecord.{PieceRecord}
use Rattle.wm_spec.specs.declared.record.space.Space.{Space}
use Rattle.wm_spec.specs.declared.record.stored.Stored.{Stored}
use Rattle.wm_spec.specs.declared.record.table.Table.{Table}
use Rattle.wm_spec.specs.declared.record.version.Version.{Version}
use Rattle.wm_state.specs.ById.{applied}
use Rattle.wm_state.specs.Drafts.{can_keep_entry, is_kept, is_kept_change, AreOld, CanReplay, CanWork, DraftsBy}
use Rattle.wm_state.specs.Editing.{counter_limit, drafted_by, replayed_in}
use Rattle.wm_state.specs.Entries.{hists_kept, pieces_of}
use Rattle.wm_state.specs.Points.{next_version, versioned}
use Rattle.wm_state.specs.Touching.{drawn_all, marks_of, trace_of}
use Rattle.wm_state.specs.Writes.{Redrawn}
use Rattle.wm_state.specs.declared.edit.Edit.TheVariants as edits
use Rattle.wm_state.specs.declared.edit.NewEntry.{NewEntry}
use Rattle.wm_state.proofs.Appending.{all_append}
use Rattle.wm_state.proofs.Counting.{counts_as, counts_in, in_room, version_well, work_grows}
use Rattle.wm_state.proofs.Drafted.{some_edit}
use Rattle.wm_state.proofs.Growing.{forked_of, same_counters}
use Rattle.wm_state.proofs.RowsStay.{below_apart, new_apart, rows_stay}
use Rattle.wm_state.proofs.Settled.{Places, PlacesApart, places_apart}
use Rattle.wm_state.proofs.WorkedOn.{counted_put, second_change}
use Rattle.wm_written.proofs.DraftedWritten.{Apart, apart_so, entries_in, rows_apart}
use Rattle.wm_written.proofs.WrittenIds.{changes-write_new}
use Rattle.wm_written.proofs.WrittenKept.{drawn_kept, kept_dropped, kept_hists, kept_pieces, kept_put, kept_touches, marks_kept, news_kept}
use Rattle.wm_gained.specs.Gaining.{Retraced}
use Rattle.wm_gained.specs.Replaying.{replay_batch}
use Rattle.wm_gained.proofs.DraftedGained.{counts_moved}
use Rattle.wm_gained.proofs.ReplayingBatch.{ReplaysIn, agree_replayed, keep_plan_replayed, parts-replayed, plan_replayed}
use Rattle.wm_gained.proofs.ReplayingNew.{apart_anywhere, redrawn_new}
use Rattle.wm_gained.proofs.ReplayingParts.{MayReplay}

-- what comes but for the version
abbrev news_of : List Table → Space → List Entry → List PieceRecord → List PieceRecord → List Record
news_of tables a es drawn traced = map records.Piece drawn ++ (map records.Touch (map (trace_of a.number) traced) ++ map records.Hist (hists_kept tables a.number a.log_length es))

-- where all values of the entries can be kept, so can those of the batch
kept_replay : (rs : List Stored) (tables : List Table) (version counters_id space_id id : ℕ) (new : Counters) (a : Space) (v : Version) (es : List Entry) (ids : List ℕ) (drawn traced : List PieceRecord) → list_all can_keep_entry es ≡ true
    → Redrawn rs version a es ids drawn traced → list_all is_kept_change (replay_batch tables counters_id new space_id a ids id v es drawn traced) ≡ true
kept_replay rs tables version counters_id space_id id new a v es ids drawn traced all r =
    kept_dropped ids _
    (kept_put (id + 1) (news_of tables a es drawn traced)
    (all_append is_kept (map records.Piece drawn) _ (kept_pieces drawn (drawn_kept (pieces_of version es) (parts_of rs).pieces drawn (news_kept version es all) r.pieces))
    (all_append is_kept (map records.Touch (map (trace_of a.number) traced)) _
    (kept_touches a.number traced (drawn_kept (marks_of r.place a.log_length es) (drawn_all a.number (parts_of rs).touches) traced (marks_kept r.place a.log_length es all) r.marks))
    (kept_hists tables a.number a.log_length es all))))

-- what is asked of the entries and of the version
may_replay : (p : Parts) (m work : ℕ) (a : Space) (c : Counters) (es : List Entry) → keep_rules p ≡ true → CanWork p m work → CanReplay p a.number es → space_of p.spaces a.number ≡ Some a → p.counters ≡ c ∷ []
    → MayReplay p c (versioned c m work) a (next_version p a.number c) es
may_replay p m work a c es rules can_work can there one = record {
  fork = record {
    one = one;
    counters = version_well p m work c rules can_work one;
    stamps = refl;
    next = refl;
    work = work_grows c.work work;
    there = there;
    number = refl;
    space = refl;
    parent = refl;
  };
  room = in_room (a.log_length + length es) (ap (λ (b : Space). nat_lt counter_limit (b.log_length + length es)) (same_Some a can.space (sym there ∙ can.there)) ∙ can.short);
  made = subst (λ (k : Counters). AreOld p k es) (same_counters p c can.counters one can.one) can.old;
  copied = can.copied;
}

-- the batch puts the pieces of the entries as they are, for which touches alone go, and makes of the records what the entries make of each
-- state
pub drafts_replay : (rs : List Stored) (m work : ℕ) (entries : List NewEntry) (a : Space) (c : Counters) (counters_id space_id id : ℕ) (ids : List ℕ) (traced : List PieceRecord) → keep_rules (parts_of rs) ≡ true
    → CanWork (parts_of rs) m work → CanReplay (parts_of rs) a.number (entries_in entries) → space_of (parts_of rs).spaces a.number ≡ Some a → Places rs counters_id space_id id c a → Retraced rs a (entries_in entries) ids traced
    → DraftsBy work rs m (edits.Replay a.number entries ∷ [])
    (replay_batch (parts_of rs).tables counters_id (versioned c m work) space_id a ids id (next_version (parts_of rs) a.number c) (entries_in entries) (pieces_of c.next_version (entries_in entries)) traced)
drafts_replay rs m work entries a c counters_id space_id id ids traced rules can_work can there at r = record {
  keeps = keeps;
  once = once;
  stands = λ s st.
      plan_replayed rs counters_id space_id id c d a v es ids drawn traced replays s (drafted_by work m (edits.Replay a.number entries ∷ []) s) st refl refl refl
      (counts_moved s (replayed_in a.number es s) m work c d refl refl (counts_as (parts_of rs) s c st at.one) refl refl refl refl);
  fields = λ s st.
      agree_replayed rs counters_id space_id id c d a v es ids drawn traced replays s (drafted_by work m (edits.Replay a.number entries ∷ []) s) rules st refl refl
      (counts_moved s (replayed_in a.number es s) m work c d refl refl (counts_in (parts_of rs) s c st.counters at.one) refl refl refl refl);
  rows = rows_stay rs batch
      (λ k q found. (new_apart rs id k q at.under found, rows_apart rs c.next_version counters_id space_id id (id + 1) (length es) a c d es ids drawn traced (news_of (parts_of rs).tables a es drawn traced) at redrawn (next id) k q found));
  kept = kept_replay rs (parts_of rs).tables c.next_version counters_id space_id id d a v es ids drawn traced can.kept redrawn;
  counted = λ some. counted_put rs work counters_id c d batch at.sorted at.one once (second_change id counters_id _ _ _ (λ same. below_apart counters_id id apart.counters same)) keeps refl;
  nothing = some_edit (edits.Replay a.number entries) [] batch;
  few = λ forks. absurd (true≢false (sym forks));
  spared = λ n more one_append. absurd (no_append n more one_append);
  turned = λ left. ap (λ (q : Parts). q.turns) (parts-replayed rs counters_id space_id id c d a v es ids drawn traced replays);
}
  where
    es : List Entry
    es = entries_in entries

    no_append : (n : ℕ) (more : List NewEntry) → edits.Replay a.number entries ∷ [] ≡ edits.Append n more ∷ [] → ⊥
    no_append n more e = cc

    d : Counters
    d = versioned c m work

    v : Version
    v = next_version (parts_of rs) a.number c

    drawn : List PieceRecord
    drawn = pieces_of c.next_version es

    batch : List Change
    batch = replay_batch (parts_of rs).tables counters_id d space_id a ids id v es drawn traced

    may : MayReplay (parts_of rs) c d a v es
    may = may_replay (parts_of rs) m work a c es rules can_work can there at.one

    redrawn : Redrawn rs c.next_version a es ids drawn traced
    redrawn = redrawn_new rs c.next_version a es ids traced rules (forked_of (parts_of rs) c d a a.number v may.fork rules).below (apart_anywhere c.next_version es can.apart) r

    replays : ReplaysIn rs counters_id space_id id c d a v es ids drawn traced
    replays = record { at = at; may = may; redrawn = redrawn }

    keeps : keep_rules (parts_of (applied batch rs)) ≡ true
    keeps = keep_plan_replayed rs counters_id space_id id c d a v es ids drawn traced replays rules

    apart : PlacesApart counters_id space_id id
    apart = places_apart rs counters_id space_id id c a at

    ids_apart : Apart counters_id space_id id ids
    ids_apart = apart_so rs c.next_version counters_id space_id id a c es ids drawn traced at redrawn

    once : AreChanges batch
    once = changes-write_new counters_id d space_id a (length es) ids id v [] drawn (map (trace_of a.number) traced) (hists_kept (parts_of rs).tables a.number a.log_length es) ids_apart.differ ids_apart.under

    next : (n : ℕ) → n ≤ n + 1
    next n = omega arith
