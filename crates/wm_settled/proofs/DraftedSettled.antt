-- What the batch that settles cells of a workspace makes of the records.
use Rattle.std.proofs.Common.{◌≡◌, ℕ, true, List, [], ◌∷◌, Some, refl, sym, ap}
use Rattle.std.proofs.lemmas.Bool.{true≢false}
use Rattle.wm_graph.specs.Parts.{Parts, parts_of, space_of}
use Rattle.wm_graph.specs.Rules.{keep_rules}
use Rattle.wm_spec.specs.Records.{AreChanges}
use Rattle.wm_spec.specs.declared.record.batch.Change.{Change}
use Rattle.wm_spec.specs.declared.record.counters.Counters.{Counters}
use Rattle.wm_spec.specs.declared.record.piece.PieceRecord.{PieceRecord}
use Rattle.wm_spec.specs.declared.record.space.Space.{Space}
use Rattle.wm_spec.specs.declared.record.stored.Stored.{Stored}
use Rattle.wm_state.specs.ById.{applied}
use Rattle.wm_state.specs.Drafts.{CanSettle, CanWork, DraftsBy}
use Rattle.wm_state.specs.Editing.{drafted_by, settled_in}
use Rattle.wm_state.specs.Points.{moved}
use Rattle.wm_state.specs.declared.edit.Edit.TheVariants as edits
use Rattle.wm_state.specs.declared.edit.NewEntry.{NewEntry}
use Rattle.wm_state.specs.declared.edit.NewMark.{NewMark}
use Rattle.wm_state.proofs.Counting.{counts_as, counts_in, moved_well, work_grows}
use Rattle.wm_state.proofs.Drafted.{some_edit}
use Rattle.wm_state.proofs.RowsStay.{rows_stay}
use Rattle.wm_state.proofs.WorkedOn.{counted_put, first_change}
use Rattle.wm_gained.proofs.DraftedGained.{counts_moved}
use Rattle.wm_settled.specs.Settling.{Remarked, settle_batch}
use Rattle.wm_settled.proofs.KeepSettled.{MaySettle}
use Rattle.wm_settled.proofs.SettlingBatch.{CountersAt, SettlesIn, agree_settled, keep_plan_settled, parts_after, plan_settled}
use Rattle.wm_settled.proofs.SettlingKept.{changes_settle, kept_settle, settle_away}

-- what is asked of the marks, told of one record of counters and of a workspace
may_settle : (p : Parts) (m work : ℕ) (a : Space) (c : Counters) (ms : List NewMark) → keep_rules p ≡ true → CanWork p m work → CanSettle p a.number ms → space_of p.spaces a.number ≡ Some a → p.counters ≡ c ∷ []
    → MaySettle p c (moved c m work) a ms
may_settle p m work a c ms rules can_work can there one =
    record { one = one; counters = moved_well p m work c rules can_work one; stamps = refl; versions = refl; work = work_grows c.work work; space = there; cells = can.cells }

-- the batch makes of the records what the marks make of each state
pub drafts_settle : (rs : List Stored) (m work : ℕ) (marks : List NewMark) (a : Space) (c : Counters) (counters_id id : ℕ) (ids : List ℕ) (drawn : List PieceRecord) → keep_rules (parts_of rs) ≡ true → CanWork (parts_of rs) m work
    → CanSettle (parts_of rs) a.number marks → space_of (parts_of rs).spaces a.number ≡ Some a → CountersAt rs counters_id id c → Remarked rs a marks ids drawn
    → DraftsBy work rs m (edits.Settle a.number marks ∷ []) (settle_batch counters_id (moved c m work) a.number ids id drawn)
drafts_settle rs m work marks a c counters_id id ids drawn rules can_work can there at r = record {
  keeps = keeps;
  once = once;
  stands = λ s st.
      plan_settled rs counters_id id c d a ms ids drawn rules settles s (drafted_by work m (edits.Settle a.number marks ∷ []) s) st refl refl refl
      (counts_moved s (settled_in a.number ms s) m work c d refl refl (counts_as (parts_of rs) s c st at.one) refl refl refl refl);
  fields = λ s st.
      agree_settled rs counters_id id c d a ms ids drawn rules settles s (drafted_by work m (edits.Settle a.number marks ∷ []) s) st refl refl
      (counts_moved s (settled_in a.number ms s) m work c d refl refl (counts_in (parts_of rs) s c st.counters at.one) refl refl refl refl);
  rows = rows_stay rs batch (settle_away rs counters_id id c d a ms ids drawn at r);
  kept = kept_settle rs counters_id id d a ms ids drawn can.kept r;
  counted = λ some. counted_put rs work counters_id c d batch at.sorted at.one once (first_change counters_id _ _) keeps refl;
  nothing = some_edit (edits.Settle a.number marks) [] batch;
  few = λ forks. absurd (true≢false (sym forks));
  spared = λ n more one_append. absurd (no_append n more one_append);
  turned = λ left. ap (λ (q : Parts). q.turns) (parts_after rs counters_id id c d a ms ids drawn rules settles);
}
  where
    ms : List NewMark
    ms = marks

    no_append : (n : ℕ) (more : List NewEntry) → edits.Settle a.number marks ∷ [] ≡ edits.Append n more ∷ [] → ⊥
    no_append n more e = cc

    d : Counters
    d = moved c m work

    batch : List Change
    batch = settle_batch counters_id d a.number ids id drawn

    settles : SettlesIn rs counters_id id c d a ms ids drawn
    settles = record { at = at; may = may_settle (parts_of rs) m work a c ms rules can_work can there at.one; remarked = r }

    keeps : keep_rules (parts_of (applied batch rs)) ≡ true
    keeps = keep_plan_settled rs counters_id id c d a ms ids drawn rules settles

    once : AreChanges batch
    once = changes_settle rs counters_id id c d a ms ids drawn at r
