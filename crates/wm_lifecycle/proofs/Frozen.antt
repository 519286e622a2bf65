-- What is put where a workspace is frozen.
use Rattle.std.proofs.Common.{◌≡◌, ℕ, true, List, [], ◌∷◌, Some, sym, subst, refl}
use Rattle.wm_graph.specs.Parts.{parts_of, space_of}
use Rattle.wm_graph.specs.Rules.{keep_rules}
use Rattle.wm_locked.proofs.DraftedFrozen.{drafts_freeze}
use Rattle.wm_spec.specs.Records.{record_at}
use Rattle.wm_spec.specs.declared.record.Record.TheVariants as records
use Rattle.wm_spec.specs.declared.record.batch.Change.{Change}
use Rattle.wm_spec.specs.declared.record.counters.Counters.{Counters}
use Rattle.wm_spec.specs.declared.record.space.FreezeMode.{FreezeMode}
use Rattle.wm_spec.specs.declared.record.space.Space.{Space}
use Rattle.wm_spec.specs.declared.record.stored.Stored.{Stored}
use Rattle.wm_state.proofs.Named.{space_number}
use Rattle.wm_state.specs.Batches.{put}
use Rattle.wm_state.specs.ById.{Ascend}
use Rattle.wm_state.specs.Drafts.{CanFreeze, CanWork, DraftsBy}
use Rattle.wm_state.specs.Points.{moved}
use Rattle.wm_state.specs.declared.edit.Edit.TheVariants as edits

-- it is what the freeze makes of each state
pub drafts_frozen : (rs : List Stored) (m work n : ℕ) (mode : FreezeMode) (writer : List ℕ) (c counted : Counters) (a new : Space) (counters_id space_id : ℕ) (changes : List Change) → keep_rules (parts_of rs) ≡ true → CanWork (parts_of rs) m work
    → CanFreeze (parts_of rs) n writer → Ascend rs → (parts_of rs).counters ≡ c ∷ [] → record_at rs counters_id ≡ Some (records.Counters c) → space_of (parts_of rs).spaces n ≡ Some a → record_at rs space_id ≡ Some (records.Space a)
    → counted ≡ moved c m work → new ≡ record a { freeze = mode; writer = writer } → changes ≡ put counters_id (records.Counters counted) ∷ put space_id (records.Space new) ∷ [] → DraftsBy work rs m (edits.Freeze n mode writer ∷ []) changes
drafts_frozen rs m work n mode writer c counted a new counters_id space_id changes rules can_work can sorted one counters found space count made is =
    subst (λ (cs : List Change). DraftsBy work rs m (edits.Freeze n mode writer ∷ []) cs) (sym batch)
    (subst (λ (k : ℕ). DraftsBy work rs m (edits.Freeze k mode writer ∷ []) put_so) (space_number (parts_of rs) n a found)
    (drafts_freeze rs m work a mode writer c counters_id space_id rules can_work can.short sorted counters one space))
  where
    put_so : List Change
    put_so = put counters_id (records.Counters (moved c m work)) ∷ put space_id (records.Space (record a { freeze = mode; writer = writer })) ∷ []

    batch : changes ≡ put_so
    batch = rw (is, count, made) refl
