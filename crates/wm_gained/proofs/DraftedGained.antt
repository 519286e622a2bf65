-- What the batch of a log that gains entries makes of the records.
use Rattle.std.proofs.Common.{◌≡◌, ℕ, ◌+◌, nat_lt, true, List, [], ◌∷◌, ◌++◌, map, length, Some, refl, sym, ap, subst, ◌∙◌}
use Rattle.std.proofs.lemmas.Option.{same_Some}
use Rattle.std.proofs.lemmas.Bool.{true≢false}
use Rattle.wm_graph.specs.Parts.{Parts, parts_of, space_of}
use Rattle.wm_graph.specs.Rules.{keep_rules}
use Rattle.wm_spec.specs.Lists.{Entry}
use Rattle.wm_spec.specs.Records.{AreChanges}
use Rattle.wm_spec.specs.declared.record.Record.TheVariants as records
use Rattle.wm_spec.specs.declared.record.batch.Change.{Change}
use Rattle.wm_spec.specs.declared.record.counters.Counters.{Counters}
use Rattle.wm_spec.specs.declared.record.piece.PieceRecord.{PieceRecord}
use Rattle.wm_spec.specs.declared.record.space.Space.{Space}
use Rattle.wm_spec.specs.declared.record.stored.Stored.{Stored}
use Rattle.wm_state.specs.ById.{applied}
use Rattle.wm_state.specs.Drafts.{AreOld, CanGain, CanWork, DraftsBy}
use Rattle.wm_state.specs.Editing.{counter_limit, drafted_by, gained_in}
use Rattle.wm_state.specs.Entries.{hists_kept}
use Rattle.wm_state.specs.Points.{moved}
use Rattle.wm_state.specs.Standing.{CountersStand}
use Rattle.wm_state.specs.State.{Durable}
use Rattle.wm_state.specs.Touching.{trace_of}
use Rattle.wm_state.specs.declared.edit.Edit.TheVariants as edits
use Rattle.wm_state.specs.declared.edit.NewEntry.{NewEntry}
use Rattle.wm_state.proofs.Counting.{CountsAs, counts_as, counts_in, in_room, moved_well, work_grows}
use Rattle.wm_state.proofs.Drafted.{some_edit}
use Rattle.wm_state.proofs.Growing.{same_counters}
use Rattle.wm_state.proofs.RowsStay.{rows_stay}
use Rattle.wm_state.proofs.Settled.{Places}
use Rattle.wm_state.proofs.WorkedOn.{counted_put, first_change}
use Rattle.wm_written.proofs.DraftedWritten.{Apart, entries_in}
use Rattle.wm_written.proofs.WrittenIds.{changes-write}
use Rattle.wm_gained.specs.Gaining.{Retraced, gain_batch}
use Rattle.wm_gained.proofs.GainingBatch.{GainsIn, agree_gained, keep_plan_gained, parts-gained, plan_gained}
use Rattle.wm_gained.proofs.GainingKept.{apart_gained, kept_gain, rows_away}
use Rattle.wm_gained.proofs.LoggedOld.{MayLog}

-- what the counters of a state are once a draft that gives no stamp has moved it
pub counts_moved : (s u : Durable) (m work : ℕ) (c d : Counters) → u.next_stamp ≡ s.next_stamp → u.limit ≡ s.limit → CountsAs c s → d.next_stamp ≡ c.next_stamp → d.last_moment ≡ m → d.limit ≡ c.limit → d.work ≡ c.work + work
    → (q : Parts) → q.counters ≡ d ∷ [] → CountersStand q (record u { last_moment = m; work = s.work + work })
counts_moved s u m work c d stamps limits counts stamp moment limit more q one = record {
  counters = d;
  one = one;
  next_stamp = stamp ∙ counts.next_stamp ∙ sym stamps;
  last_moment = moment;
  limit = limit ∙ counts.limit ∙ sym limits;
  work = more ∙ ap (λ w. w + work) counts.work;
}

-- what is asked of the entries, told of one record of counters and of a workspace
pub may_log : (p : Parts) (m work : ℕ) (a : Space) (c : Counters) (es : List Entry) → keep_rules p ≡ true → CanWork p m work → CanGain p a.number es → space_of p.spaces a.number ≡ Some a → p.counters ≡ c ∷ []
    → MayLog p c (moved c m work) a es
may_log p m work a c es rules can_work can there one = record {
  one = one;
  counters = moved_well p m work c rules can_work one;
  stamps = refl;
  versions = refl;
  work = work_grows c.work work;
  space = there;
  room = in_room (a.log_length + length es) (ap (λ (b : Space). nat_lt counter_limit (b.log_length + length es)) (same_Some a can.space (sym there ∙ can.there)) ∙ can.short);
  made = subst (λ (k : Counters). AreOld p k es) (same_counters p c can.counters one can.one) can.old;
  copied = can.copied;
}

-- the batch makes of the records what the log that gains the entries makes of each state
pub drafts_gain : (rs : List Stored) (m work : ℕ) (entries : List NewEntry) (a : Space) (c : Counters) (counters_id space_id id : ℕ) (ids : List ℕ) (traced : List PieceRecord) → keep_rules (parts_of rs) ≡ true
    → CanWork (parts_of rs) m work → CanGain (parts_of rs) a.number (entries_in entries) → space_of (parts_of rs).spaces a.number ≡ Some a → Places rs counters_id space_id id c a → Retraced rs a (entries_in entries) ids traced
    → DraftsBy work rs m (edits.Gain a.number entries ∷ []) (gain_batch (parts_of rs).tables counters_id (moved c m work) space_id a ids id (entries_in entries) traced)
drafts_gain rs m work entries a c counters_id space_id id ids traced rules can_work can there at r = record {
  keeps = keeps;
  once = once;
  stands = λ s st.
      plan_gained rs counters_id space_id id c d a es ids traced gains s (drafted_by work m (edits.Gain a.number entries ∷ []) s) st refl refl refl
      (counts_moved s (gained_in a.number es s) m work c d refl refl (counts_as (parts_of rs) s c st at.one) refl refl refl refl);
  fields = λ s st.
      agree_gained rs counters_id space_id id c d a es ids traced gains s (drafted_by work m (edits.Gain a.number entries ∷ []) s) rules st refl refl
      (counts_moved s (gained_in a.number es s) m work c d refl refl (counts_in (parts_of rs) s c st.counters at.one) refl refl refl refl);
  rows = rows_stay rs batch (rows_away rs counters_id space_id id (length es) a c d es ids traced (map records.Touch (map (trace_of a.number) traced) ++ map records.Hist (hists_kept (parts_of rs).tables a.number a.log_length es)) at r);
  kept = kept_gain rs (parts_of rs).tables counters_id space_id id d a es ids traced can.kept r;
  counted = λ some. counted_put rs work counters_id c d batch at.sorted at.one once (first_change counters_id _ _) keeps refl;
  nothing = some_edit (edits.Gain a.number entries) [] batch;
  few = λ forks. absurd (true≢false (sym forks));
  spared = λ n more one_append. absurd (no_append n more one_append);
  turned = λ left. ap (λ (q : Parts). q.turns) (parts-gained rs counters_id space_id id c d a es ids traced gains);
}
  where
    es : List Entry
    es = entries_in entries

    no_append : (n : ℕ) (more : List NewEntry) → edits.Gain a.number entries ∷ [] ≡ edits.Append n more ∷ [] → ⊥
    no_append n more e = cc

    d : Counters
    d = moved c m work

    batch : List Change
    batch = gain_batch (parts_of rs).tables counters_id d space_id a ids id es traced

    gains : GainsIn rs counters_id space_id id c d a es ids traced
    gains = record { at = at; may = may_log (parts_of rs) m work a c es rules can_work can there at.one; retraced = r }

    keeps : keep_rules (parts_of (applied batch rs)) ≡ true
    keeps = keep_plan_gained rs counters_id space_id id c d a es ids traced gains rules

    apart : Apart counters_id space_id id ids
    apart = apart_gained rs counters_id space_id id a c es ids traced at r

    once : AreChanges batch
    once = changes-write counters_id d space_id a (length es) ids id [] [] (map (trace_of a.number) traced) (hists_kept (parts_of rs).tables a.number a.log_length es) apart.differ apart.under
