-- The records that go where a workspace goes back to a savepoint, and what is put for that.
use Rattle.std.proofs.Common.{◌≡◌, ℕ, ◌==◌, Bool, true, false, not, ◌&&◌, ◌||◌, List, [], ◌∷◌, ◌++◌, map, Some, is_some, refl, sym, ap, subst, ◌∙◌}
use Rattle.std.proofs.lemmas.Option.{same_Some}
use Rattle.std.proofs.Math.Bool.{and-false}
use Rattle.std.specs.List.{filter, list_all}
use Rattle.wm_graph.specs.Parts.{Parts, parts_of, space_of}
use Rattle.wm_graph.specs.Rules.{keep_rules}
use Rattle.wm_spec.specs.Records.{record_at, ids_differ}
use Rattle.wm_spec.specs.declared.record.Record.{Record}
use Rattle.wm_spec.specs.declared.record.Record.TheVariants as records
use Rattle.wm_spec.specs.declared.record.batch.Change.{Change}
use Rattle.wm_spec.specs.declared.record.counters.Counters.{Counters}
use Rattle.wm_spec.specs.declared.record.savepoint.Savepoint.{Savepoint}
use Rattle.wm_spec.specs.declared.record.space.Space.{Space}
use Rattle.wm_spec.specs.declared.record.stored.Stored.{Stored}
use Rattle.wm_spec.specs.declared.record.version.Version.{Version}
use Rattle.wm_state.specs.Batches.{AreDropped, drop_one, put}
use Rattle.wm_state.specs.ById.{Ascend}
use Rattle.wm_state.specs.Drafts.{CanRestore, CanWork, DraftsBy}
use Rattle.wm_state.specs.Points.{versioned}
use Rattle.wm_state.specs.Standing.{saved_as}
use Rattle.wm_state.specs.declared.edit.Edit.TheVariants as edits
use Rattle.wm_state.proofs.Settled.{Places}
use Rattle.wm_changes.proofs.Dropping.{differ-with, filter-with, told-with}
use Rattle.wm_changes.proofs.DroppingAll.{there_all}
use Rattle.wm_index.specs.Sought.{OwnedBy, ids_with, is_sought}
use Rattle.wm_undone.proofs.DraftedBack.{drafts_restored}
use Rattle.wm_undone.specs.Restoring.{keeps_back, restore_batch, restored_to}
use Rattle.wm_lifecycle.specs.Gone.{goes_back}

-- what goes is a record of the workspace
goes_owned : (x : Savepoint) (r : Record) → not (keeps_back x r) ≡ (is_sought (OwnedBy x.space) r && not (keeps_back x r))
goes_owned x (records.Savepoint y) = by_test (y.space == x.space) _
  where
    by_test : (a b : Bool) → not (not a || b) ≡ (a && not (not a || b))
    by_test true b = refl
    by_test false b = refl
goes_owned x (records.Touch y) = by_test (y.space == x.space) _
  where
    by_test : (a b : Bool) → not (not a || b) ≡ (a && not (not a || b))
    by_test true b = refl
    by_test false b = refl
goes_owned x (records.Mark y) = by_test (y.space == x.space) _
  where
    by_test : (a b : Bool) → not (not a || b) ≡ (a && not (not a || b))
    by_test true b = refl
    by_test false b = refl
goes_owned x (records.Lock y) = by_test (y.space == x.space) _
  where
    by_test : (a b : Bool) → not (not a || b) ≡ (a && not (not a || b))
    by_test true b = refl
    by_test false b = refl
goes_owned x (records.Hist y) = by_test (y.space == x.space) _
  where
    by_test : (a b : Bool) → not (not a || b) ≡ (a && not (not a || b))
    by_test true b = refl
    by_test false b = refl
goes_owned x (records.Space y) = sym (and-false (y.number == x.space))
goes_owned x (records.Version y) = sym (and-false (y.space == x.space))
goes_owned x (records.Turn y) = sym (and-false (y.space == x.space))
goes_owned x _ = refl

-- so all that goes is found among these
pub found_back : (x : Savepoint) (ss : List Stored) → Ascend ss → filter (λ id. goes_back x (record_at ss id)) (ids_with (is_sought (OwnedBy x.space)) ss) ≡ ids_with (λ r. not (keeps_back x r)) ss
found_back x ss sorted = filter-with (goes_back x) (is_sought (OwnedBy x.space)) (λ r. not (keeps_back x r)) (goes_owned x) ss sorted

-- what is put is the batch of going back
pub restoring_is : (counters_id space_id id : ℕ) (counted counters : Counters) (new space : Space) (dropped ids : List ℕ) (version y : Version) (one two three : List Change) (p : Change) → counted ≡ counters → new ≡ space → ids ≡ dropped → version ≡ y
    → one ≡ put counters_id (records.Counters counted) ∷ put space_id (records.Space new) ∷ [] → two ≡ one ++ map drop_one ids → p ≡ put id (records.Version version) → three ≡ two ++ p ∷ []
    → three ≡ restore_batch counters_id counters space_id space dropped id y
restoring_is counters_id space_id id counted counters new space dropped ids version y one two three p count made are new_version first dropping last pushed = rw (pushed, last, dropping, first, are, count, made, new_version) refl

-- the workspace was not rebased since
based_so : (p : Parts) (n making : ℕ) (a : Space) (x : Savepoint) → CanRestore p n making → space_of p.spaces n ≡ Some a → saved_as p n making ≡ Some x → x.rebases ≡ a.rebases
based_so p n making a x can there saved =
    ap (λ (k : Savepoint). k.rebases) (same_Some x can.savepoint (sym saved ∙ can.saved)) ∙ can.based ∙ ap (λ (r : Space). r.rebases) (same_Some can.space a (sym can.there ∙ there))

-- so it is what going back makes of each state
pub drafts_back : (rs : List Stored) (m work n making : ℕ) (c : Counters) (a : Space) (x : Savepoint) (counters_id space_id id : ℕ) (ids : List ℕ) (changes : List Change) → keep_rules (parts_of rs) ≡ true → CanWork (parts_of rs) m work
    → CanRestore (parts_of rs) n making → Places rs counters_id space_id id c a → space_of (parts_of rs).spaces n ≡ Some a → saved_as (parts_of rs) n making ≡ Some x → ids ≡ ids_with (λ r. not (keeps_back x r)) rs
    → changes ≡ restore_batch counters_id (versioned c m work) space_id (restored_to x a) ids id (record { number = c.next_version; space = n; parent = x.version }) → DraftsBy work rs m (edits.Restore n making ∷ []) changes
drafts_back rs m work n making c a x counters_id space_id id ids changes rules can_work can at there saved are is =
    subst (DraftsBy work rs m (edits.Restore n making ∷ [])) (sym is)
    (drafts_restored rs m work n making c a x counters_id space_id id ids rules can_work at.one there saved (based_so (parts_of rs) n making a x can there saved) at.counters at.space at.sorted at.under
    (subst (λ ds. AreDropped (keeps_back x) ds rs) (sym are) (told-with (λ r. not (keeps_back x r)) rs at.sorted))
    (ap ids_differ are ∙ differ-with (λ r. not (keeps_back x r)) rs at.sorted)
    (ap (list_all (λ d. is_some (record_at rs d))) are ∙ there_all (λ r. not (keeps_back x r)) rs))
