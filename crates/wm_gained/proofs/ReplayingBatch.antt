-- The records keep the rules and stand for the state after the batch that writes entries made before in a version more.
use Rattle.std.proofs.Common.{◌≡◌, ℕ, ◌+◌, ◌==◌, true, false, List, [], ◌∷◌, ◌++◌, map, length, Option, Some, None, is_some, append-nil, refl, sym, ap, subst, ◌∙◌}
use Rattle.std.proofs.lemmas.Bool.{true≢false}
use Rattle.wm_base.proofs.Plain.{less_apart}
use Rattle.wm_graph.specs.Parts.{Parts, parts_of}
use Rattle.wm_graph.specs.Rules.{keep_rules}
use Rattle.wm_spec.specs.Lists.{Entry}
use Rattle.wm_spec.specs.Records.{record_at}
use Rattle.wm_spec.specs.declared.record.Record.{Record}
use Rattle.wm_spec.specs.declared.record.Record.TheVariants as records
use Rattle.wm_spec.specs.declared.record.batch.Change.{Change}
use Rattle.wm_spec.specs.declared.record.counters.Counters.{Counters}
use Rattle.wm_spec.specs.declared.record.piece.PieceRecord.{PieceRecord}
use Rattle.wm_spec.specs.declared.record.space.Space.{Space}
use Rattle.wm_spec.specs.declared.record.stored.Stored.{Stored}
use Rattle.wm_spec.specs.declared.record.version.Version.{Version}
use Rattle.wm_state.specs.Batches.{AreDropped, is_dropped}
use Rattle.wm_state.specs.ById.{applied, set_at}
use Rattle.wm_state.specs.Drawing.{is_clear}
use Rattle.wm_state.specs.Entries.{hists_kept, pieces_of}
use Rattle.wm_state.specs.Standing.{CountersStand, FieldsStand, Stands}
use Rattle.wm_state.specs.State.{Durable, with_entries, with_space}
use Rattle.wm_state.specs.Touching.{is_unmet, marks_of, trace_of}
use Rattle.wm_state.specs.Writes.{Redrawn, keeps_both, write_batch}
use Rattle.wm_state.proofs.ById.{Ascend-set, record_at-set}
use Rattle.wm_state.proofs.ByKind.{under_found}
use Rattle.wm_state.proofs.Settled.{Places}
use Rattle.wm_state.proofs.Tests.{none_if}
use Rattle.wm_forked.proofs.PlannedSaved.{AllUnder-more, more_version}
use Rattle.wm_written.proofs.Dropping.{dropped-set}
use Rattle.wm_written.proofs.KeepWritten.{Entering, all_written}
use Rattle.wm_written.proofs.PlannedWritten.{AreBoth, Put, parts-written}
use Rattle.wm_gained.specs.Replaying.{Replayed, replay_batch}
use Rattle.wm_gained.proofs.ReplayingParts.{MayReplay, keep-replayed, replayed_parts, replayed_so}
use Rattle.wm_gained.proofs.ReplayingStands.{FieldsStand-replayed, Stands-replayed}

-- entries may come into a version more of a workspace, where the records stand, and what they meet goes
pub record ReplaysIn (ss : List Stored) (counters_id space_id id : ℕ) (old new : Counters) (a : Space) (v : Version) (es : List Entry) (ids : List ℕ) (drawn traced : List PieceRecord) : Type 0 where
  pub at : Places ss counters_id space_id id old a
  pub may : MayReplay (parts_of ss) old new a v es
  pub redrawn : Redrawn ss v.number a es ids drawn traced

-- what comes, as where a line writes
abbrev pub entering_more : Parts → ℕ → Space → ℕ → List Entry → List PieceRecord → List PieceRecord → Entering
entering_more p version a place es drawn traced = record {
  keep = is_clear (pieces_of version es);
  stay = is_unmet a.number (marks_of place a.log_length es);
  rows = [];
  pieces = drawn;
  touches = map (trace_of a.number) traced;
  hists = hists_kept p.tables a.number a.log_length es;
}

-- no row comes, and the counters are put once
once_written : (p : Parts) (new : Counters) (v : Version) (front : List Space) (a : Space) (back : List Space) (place : ℕ) (es : List Entry) (drawn traced : List PieceRecord)
    → all_written (record p { versions = p.versions ++ v ∷ [] }) new front a back (length es) (entering_more p v.number a place es drawn traced) ≡ replayed_parts p new v front a back place es drawn traced
once_written p new v front a back place es drawn traced = rw (append-nil p.rows) refl

module _ (ss : List Stored) (counters_id space_id id : ℕ) (old new : Counters) (a : Space) (v : Version) (es : List Entry) (ids : List ℕ) (drawn traced : List PieceRecord)
    (w : ReplaysIn ss counters_id space_id id old new a v es ids drawn traced) where
  abbrev batch : List Change
  batch = replay_batch (parts_of ss).tables counters_id new space_id a ids id v es drawn traced

  abbrev place : ℕ
  place = w.redrawn.place

  -- the records once the version is there
  abbrev first : List Stored
  first = set_at id (Some (records.Version v)) ss

  parts_first : parts_of first ≡ record (parts_of ss) { versions = (parts_of ss).versions ++ v ∷ [] }
  parts_first = more_version ss id v w.at.under

  -- another record stands where it stood
  stays_at : (k : ℕ) (r : Record) → record_at ss k ≡ Some r → record_at first k ≡ Some r
  stays_at k r found = record_at-set id (Some (records.Version v)) ss w.at.sorted k ∙ rw (less_apart k id (under_found id ss k r w.at.under found)) found

  places_first : Places first counters_id space_id (id + 1) old a
  places_first = record {
    sorted = Ascend-set id (Some (records.Version v)) ss w.at.sorted;
    counters = stays_at counters_id (records.Counters old) w.at.counters;
    one = ap (λ (q : Parts). q.counters) parts_first ∙ w.at.one;
    space = stays_at space_id (records.Space a) w.at.space;
    under = AllUnder-more id ss (records.Version v) w.at.under;
  }

  -- the new id is none of those that go
  kept_id : is_dropped ids id ≡ false
  kept_id = none_if (λ k. is_some (record_at ss k)) (λ k. k == id) (λ k there. below k (record_at ss k) refl there) ids w.redrawn.there
    where
      below : (k : ℕ) (o : Option Record) → record_at ss k ≡ o → is_some o ≡ true → (k == id) ≡ false
      below k None found there = absurd (true≢false (sym there))
      below k (Some x) found there = less_apart k id (under_found id ss k x w.at.under found)

  dropped_first : AreDropped (keeps_both (is_clear (pieces_of v.number es)) (is_unmet a.number (marks_of place a.log_length es))) ids first
  dropped_first = dropped-set (keeps_both (is_clear (pieces_of v.number es)) (is_unmet a.number (marks_of place a.log_length es))) ids ss id (records.Version v) w.at.sorted refl kept_id w.redrawn.gone

  pub written : Put first (write_batch counters_id new space_id a (length es) ids (id + 1) [] drawn (map (trace_of a.number) traced) (hists_kept (parts_of ss).tables a.number a.log_length es)) new a (length es)
      (entering_more (parts_of ss) v.number a place es drawn traced)
  written = parts-written first counters_id space_id (id + 1) old new a (length es) (entering_more (parts_of ss) v.number a place es drawn traced) ids places_first dropped_first

  spaces_old : (parts_of ss).spaces ≡ written.front ++ a ∷ written.back
  spaces_old = sym (ap (λ (q : Parts). q.spaces) parts_first) ∙ written.old

  are : AreBoth (parts_of ss) v.number a place es drawn traced
  are = record { last = w.redrawn.last; pieces = w.redrawn.pieces; marks = w.redrawn.marks }

  -- the records then
  pub parts-replayed : parts_of (applied batch ss) ≡ replayed_parts (parts_of ss) new v written.front a written.back place es drawn traced
  parts-replayed =
      written.is
      ∙ ap (λ (q : Parts). all_written q new written.front a written.back (length es) (entering_more (parts_of ss) v.number a place es drawn traced)) parts_first
      ∙ once_written (parts_of ss) new v written.front a written.back place es drawn traced

  replayed_here : keep_rules (parts_of ss) ≡ true → Replayed (parts_of ss) (replayed_parts (parts_of ss) new v written.front a written.back place es drawn traced) a.number v.number es
  replayed_here rules = replayed_so (parts_of ss) old new a v place es drawn traced written.front written.back rules w.may are spaces_old

  rules_here : keep_rules (parts_of ss) ≡ true → keep_rules (replayed_parts (parts_of ss) new v written.front a written.back place es drawn traced) ≡ true
  rules_here rules = keep-replayed (parts_of ss) old new a v place es drawn traced written.front written.back rules w.may are spaces_old

  -- the rules hold after it
  pub keep_plan_replayed : keep_rules (parts_of ss) ≡ true → keep_rules (parts_of (applied batch ss)) ≡ true
  keep_plan_replayed rules = ap keep_rules parts-replayed ∙ rules_here rules

  -- the records agree with the state that has the entries
  pub agree_replayed : (s u : Durable) → keep_rules (parts_of ss) ≡ true → FieldsStand (parts_of ss) s → u.spaces ≡ with_space a.number (with_entries es) s.spaces → u.tables ≡ s.tables
      → ((q : Parts) → q.counters ≡ new ∷ [] → CountersStand q u) → FieldsStand (parts_of (applied batch ss)) u
  agree_replayed s u rules st spaces tables counted_so =
      let q = replayed_parts (parts_of ss) new v written.front a written.back place es drawn traced in
      subst (λ p. FieldsStand p u) (sym parts-replayed) (FieldsStand-replayed (parts_of ss) q s u a.number v.number es (replayed_here rules) spaces tables (counted_so q refl) st)

  -- and stand for it
  pub plan_replayed : (s u : Durable) → Stands (parts_of ss) s → u.spaces ≡ with_space a.number (with_entries es) s.spaces → u.tables ≡ s.tables → u.locks ≡ s.locks
      → ((q : Parts) → q.counters ≡ new ∷ [] → CountersStand q u) → Stands (parts_of (applied batch ss)) u
  plan_replayed s u st spaces tables locks counted_so =
      let q = replayed_parts (parts_of ss) new v written.front a written.back place es drawn traced in
      subst (λ p. Stands p u) (sym parts-replayed) (Stands-replayed (parts_of ss) q s u a.number v.number es (replayed_here st.rules) spaces tables (counted_so q refl) st locks (rules_here st.rules))
