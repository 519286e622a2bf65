-- What the batch of a workspace that goes makes of the records.
use Rattle.std.proofs.Common.{◌≡◌, ℕ, ◌+◌, true, List, [], ◌∷◌, Some, is_some, refl, sym, ap}
use Rattle.std.proofs.lemmas.Bool.{true≢false}
use Rattle.std.specs.List.{list_all}
use Rattle.wm_graph.specs.Parts.{parts_of}
use Rattle.wm_graph.specs.Rules.{keep_rules}
use Rattle.wm_spec.specs.Records.{AreChanges, ids_differ, record_at}
use Rattle.wm_spec.specs.declared.record.Record.TheVariants as records
use Rattle.wm_spec.specs.declared.record.batch.Change.{Change}
use Rattle.wm_spec.specs.declared.record.counters.Counters.{Counters}
use Rattle.wm_spec.specs.declared.record.stored.Stored.{Stored}
use Rattle.wm_state.specs.Batches.{AreDropped}
use Rattle.wm_state.specs.ById.{Ascend, applied}
use Rattle.wm_state.specs.Drafts.{CanRemove, CanWork, DraftsBy}
use Rattle.wm_state.specs.Editing.{drafted_by}
use Rattle.wm_state.specs.Points.{moved}
use Rattle.wm_state.specs.declared.edit.Edit.TheVariants as edits
use Rattle.wm_state.specs.declared.edit.NewEntry.{NewEntry}
use Rattle.wm_state.proofs.Counting.{counts_as, counts_in, moved_well, work_grows}
use Rattle.wm_state.proofs.Drafted.{some_edit}
use Rattle.wm_state.proofs.RowsStay.{away_dropped, row_apart, rows_stay}
use Rattle.wm_state.proofs.WorkedOn.{counted_put, first_change}
use Rattle.wm_undone.specs.Removing.{keeps_without, remove_batch}
use Rattle.wm_undone.proofs.Dropped.{kept_dropped, one_before}
use Rattle.wm_undone.proofs.RemovingBatch.{GoesFrom, agree_removed, changes-removed, keep_plan_removed, plan_removed}
use Rattle.wm_undone.proofs.RemovingKept.{CountsOn}

-- the batch makes of the records what the removal makes of each state
pub drafts_removed : (rs : List Stored) (m work n : ℕ) (c : Counters) (counters_id : ℕ) (ids : List ℕ) → keep_rules (parts_of rs) ≡ true → CanWork (parts_of rs) m work → (parts_of rs).counters ≡ c ∷ [] → CanRemove (parts_of rs) n
    → record_at rs counters_id ≡ Some (records.Counters c) → Ascend rs → AreDropped (keeps_without (parts_of rs).versions n) ids rs → ids_differ ids ≡ true → list_all (λ d. is_some (record_at rs d)) ids ≡ true
    → DraftsBy work rs m (edits.Remove n ∷ []) (remove_batch counters_id (moved c m work) ids)
drafts_removed rs m work n c counters_id ids rules can_work one can there sorted are differ some = record {
  keeps = keeps;
  once = once;
  stands = λ s st.
      let counts = counts_as (parts_of rs) s c st one in
      plan_removed rs n counters_id c d ids goes can s (drafted_by work m (edits.Remove n ∷ []) s) st on refl refl refl
      (record { counters = d; one = refl; next_stamp = counts.next_stamp; last_moment = refl; limit = counts.limit; work = ap (λ w. w + work) counts.work });
  fields = λ s st.
      let counts = counts_in (parts_of rs) s c st.counters one in
      agree_removed rs n counters_id c d ids goes can s (drafted_by work m (edits.Remove n ∷ []) s) rules st refl refl
      (record { counters = d; one = refl; next_stamp = counts.next_stamp; last_moment = refl; limit = counts.limit; work = ap (λ w. w + work) counts.work });
  rows = rows_stay rs batch (λ k r found. (row_apart rs counters_id k (records.Counters c) r there refl found, away_dropped k ids (are k (records.Row r) found)));
  kept = kept_dropped ids;
  counted = λ some_edits. counted_put rs work counters_id c d batch sorted one once (first_change counters_id _ _) keeps refl;
  nothing = some_edit (edits.Remove n) [] batch;
  few = λ forks. absurd (true≢false (sym forks));
  spared = λ i entries one_append. absurd (no_append i entries one_append);
  turned = λ left. absurd (true≢false (sym left));
}
  where
    no_append : (i : ℕ) (entries : List NewEntry) → edits.Remove n ∷ [] ≡ edits.Append i entries ∷ [] → ⊥
    no_append i entries e = cc

    d : Counters
    d = moved c m work

    batch : List Change
    batch = remove_batch counters_id d ids

    goes : GoesFrom rs n counters_id c ids
    goes = record { sorted = sorted; counters = there; one = one; dropped = are }

    on : CountsOn (parts_of rs) c d
    on = record { one = one; counters = moved_well (parts_of rs) m work c rules can_work one; stamps = refl; versions = refl; work = work_grows c.work work }

    keeps : keep_rules (parts_of (applied batch rs)) ≡ true
    keeps = keep_plan_removed rs n counters_id c d ids goes can on rules

    once : AreChanges batch
    once = changes-removed counters_id d ids (one_before counters_id ids (are counters_id (records.Counters c) there) differ)
