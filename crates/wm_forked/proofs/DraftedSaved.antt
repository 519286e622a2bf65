-- What the batch that makes a savepoint makes of the records.
use Rattle.std.proofs.Common.{◌≡◌, ℕ, ◌+◌, true, false, List, [], ◌∷◌, ◌++◌, Some, refl, sym, ap, subst, ◌∙◌, le_refl}
use Rattle.std.proofs.lemmas.Option.{same_Some}
use Rattle.std.proofs.lemmas.Bool.{true≢false}
use Rattle.std.specs.Option.{option_and_then, option_map, unwrap_or}
use Rattle.wm_graph.specs.Parts.{Parts, parts_of, space_of}
use Rattle.wm_graph.specs.Rules.{keep_rules}
use Rattle.wm_spec.specs.Records.{AreChanges}
use Rattle.wm_spec.specs.declared.record.Record.TheVariants as records
use Rattle.wm_spec.specs.declared.record.batch.Change.{Change}
use Rattle.wm_spec.specs.declared.record.counters.Counters.{Counters}
use Rattle.wm_spec.specs.declared.record.savepoint.Savepoint.{Savepoint as Record}
use Rattle.wm_spec.specs.declared.record.space.Space.{Space}
use Rattle.wm_spec.specs.declared.record.stored.Stored.{Stored}
use Rattle.wm_state.specs.Batches.{savepoint_batch}
use Rattle.wm_state.specs.ById.{applied}
use Rattle.wm_state.specs.Drafts.{CanSave, CanWork, DraftsBy}
use Rattle.wm_state.specs.Editing.{edited, save_in, saved, saved_at}
use Rattle.wm_state.specs.Effects.{marked}
use Rattle.wm_state.specs.Points.{HasRoom, moved, newest_point, saved_record}
use Rattle.wm_state.specs.Standing.{SpaceFields, SpacesStand, FieldsStand, Stands}
use Rattle.wm_state.specs.State.{Durable, Workspace, Savepoint, Latest, workspace_of, with_space, with_savepoint}
use Rattle.wm_state.specs.declared.edit.Edit.TheVariants as edits
use Rattle.wm_state.specs.declared.edit.NewEntry.{NewEntry}
use Rattle.wm_state.proofs.Counting.{counts_as, counts_in, work_room}
use Rattle.wm_state.proofs.Drafted.{some_edit}
use Rattle.wm_forked.proofs.FewChanged.{few_saved}
use Rattle.wm_forked.proofs.KeepSaved.{MaySave}
use Rattle.wm_state.proofs.Named.{space_number}
use Rattle.wm_forked.proofs.PlannedSaved.{agree_saved, changes-saved, keep_plan_saved, plan_saved}
use Rattle.wm_forked.proofs.Points.{MakesAt, made_as, made_there, may_save}
use Rattle.wm_state.proofs.RowsStay.{new_apart, row_apart, rows_stay}
use Rattle.wm_state.proofs.Settled.{Places, PlacesApart, places_apart}
use Rattle.wm_state.proofs.Spaces.{IsSpace, space_there}
use Rattle.wm_state.proofs.WorkedOn.{counted_put, first_change}

-- ---- the workspace

-- a workspace by the number of its record
pub record Home (p : Parts) (s : Durable) (n : ℕ) (a : Space) : Type 0 where
  pub workspace : Workspace
  pub found : workspace_of s.spaces n ≡ Some workspace
  pub is : IsSpace p s a.number a workspace

-- a record has it
pub home_of : (p : Parts) (s : Durable) (n : ℕ) (a : Space) → SpacesStand p s → space_of p.spaces n ≡ Some a → Home p s n a
home_of p s n a st there =
    let h = space_there p s n a st there in record { workspace = h.workspace; found = h.is.found; is = subst (λ k. IsSpace p s k a h.workspace) (sym h.is.record_number) h.is }

-- it has its record by the record's number
pub home_there : (p : Parts) (n : ℕ) (a : Space) → space_of p.spaces n ≡ Some a → space_of p.spaces a.number ≡ Some a
home_there p n a there = ap (space_of p.spaces) (space_number p n a there) ∙ there

-- ---- the savepoint

-- the workspaces with it are those that its record tells
same_spaces : (p : Parts) (s : Durable) (a : Space) (w : Workspace) (k : Savepoint) → IsSpace p s a.number a w
    → with_space w.number (with_savepoint (w.next_place + 1) w.next_implicit k) s.spaces ≡ with_space a.number (with_savepoint (a.next_place + 1) a.next_implicit k) s.spaces
same_spaces p s a w k is =
    ap (λ n. with_space n (with_savepoint (w.next_place + 1) w.next_implicit k) s.spaces) is.number
    ∙ ap (λ (f : SpaceFields). with_space a.number (with_savepoint (f.next_place + 1) f.next_implicit k) s.spaces) (sym is.fields)

-- it is made in the state
pub saved_so : (m n : ℕ) (name : List ℕ) (s : Durable) (w : Workspace) (k : Savepoint) → workspace_of s.spaces n ≡ Some w → saved_at m s.spaces w Latest name false ≡ Some k
    → edited m (edits.Save n name) s ≡ saved w.number (w.next_place + 1) w.next_implicit k s
saved_so m n name s w k found made =
    ap (λ o. unwrap_or (option_and_then (save_in m name s) o) s) found ∙ ap (λ o. unwrap_or (option_map (λ (j : Savepoint). saved w.number (w.next_place + 1) w.next_implicit j s) o) s) made

-- what is asked of it
saves_so : (p : Parts) (m work n : ℕ) (name : List ℕ) (a : Space) (c : Counters) → keep_rules p ≡ true → CanWork p m work → CanSave p n name → space_of p.spaces n ≡ Some a → p.counters ≡ c ∷ []
    → MakesAt p a c m work Latest (newest_point p a m) name
saves_so p m work n name a c rules can_work can there one = record {
  rules = rules;
  one = one;
  there = home_there p n a there;
  point = refl;
  short = can.short;
  room = subst (λ b. HasRoom p b name) (same_Some can.space a (sym can.there ∙ there)) can.room;
  early = can_work.early;
  some = can_work.some;
  spare = work_room p m work c can_work one;
}

-- the batch makes of the records what the savepoint makes of each state
pub drafts_saved : (rs : List Stored) (m work n : ℕ) (name : List ℕ) (a : Space) (c : Counters) (counters_id space_id id : ℕ) → keep_rules (parts_of rs) ≡ true → CanWork (parts_of rs) m work → CanSave (parts_of rs) n name
    → space_of (parts_of rs).spaces n ≡ Some a → Places rs counters_id space_id id c a
    → DraftsBy work rs m (edits.Save n name ∷ []) (savepoint_batch counters_id (moved c m work) space_id (marked (a.next_place + 1) a.next_implicit a) id (saved_record (parts_of rs) a m name))
drafts_saved rs m work n name a c counters_id space_id id rules can_work can there at = record {
  keeps = keeps;
  once = once;
  stands = λ s st.
      let h = home_of (parts_of rs) s n a st.spaces there in
      let k = made_there (parts_of rs) s a h.workspace m Latest (newest_point (parts_of rs) a m) name false st h.is refl in
      let counts = counts_as (parts_of rs) s c st at.one in
      subst (λ (u : Durable). Stands (parts_of (applied (savepoint_batch counters_id (moved c m work) space_id (marked (a.next_place + 1) a.next_implicit a) id x) rs)) (record u { last_moment = m; work = s.work + work }))
      (sym (saved_so m n name s h.workspace k.savepoint h.found k.is))
      (plan_saved rs counters_id space_id c (moved c m work) a (a.next_place + 1) a.next_implicit id x h.workspace k.savepoint s _ st at.sorted at.counters at.one at.space at.under may_keep
      h.is.found k.kept (same_spaces (parts_of rs) s a h.workspace k.savepoint h.is) refl refl
      (record { counters = moved c m work; one = refl; next_stamp = counts.next_stamp; last_moment = refl; limit = counts.limit; work = ap (λ w. w + work) counts.work }));
  fields = λ s st.
      let h = home_of (parts_of rs) s n a st.spaces there in
      let k = made_as (parts_of rs) s a h.workspace m Latest (newest_point (parts_of rs) a m) name false rules st h.is refl in
      let counts = counts_in (parts_of rs) s c st.counters at.one in
      subst (λ (u : Durable). FieldsStand (parts_of (applied (savepoint_batch counters_id (moved c m work) space_id (marked (a.next_place + 1) a.next_implicit a) id x) rs)) (record u { last_moment = m; work = s.work + work }))
      (sym (saved_so m n name s h.workspace k.savepoint h.found k.is))
      (agree_saved rs counters_id space_id c (moved c m work) a (a.next_place + 1) a.next_implicit id x h.workspace k.savepoint s _ rules st at.sorted at.counters at.one at.space at.under may_keep
      h.is.found k.fields (same_spaces (parts_of rs) s a h.workspace k.savepoint h.is) refl
      (record { counters = moved c m work; one = refl; next_stamp = counts.next_stamp; last_moment = refl; limit = counts.limit; work = ap (λ w. w + work) counts.work }));
  rows = rows_stay rs batch
      (λ k r found. (row_apart rs counters_id k (records.Counters c) r at.counters refl found, (row_apart rs space_id k (records.Space a) r at.space refl found, (new_apart rs id k r at.under found, tt))));
  kept = refl;
  counted = λ some. counted_put rs work counters_id c (moved c m work) batch at.sorted at.one once (first_change counters_id _ _) keeps refl;
  nothing = some_edit (edits.Save n name) [] (savepoint_batch counters_id (moved c m work) space_id (marked (a.next_place + 1) a.next_implicit a) id x);
  few = λ forks. few_saved rs counters_id space_id c (moved c m work) a (a.next_place + 1) a.next_implicit id x at;
  spared = λ i entries one_append. absurd (no_append i entries one_append);
  turned = λ left. absurd (true≢false (sym left));
}
  where
    no_append : (i : ℕ) (entries : List NewEntry) → edits.Save n name ∷ [] ≡ edits.Append i entries ∷ [] → ⊥
    no_append i entries e = cc

    x : Record
    x = saved_record (parts_of rs) a m name

    apart : PlacesApart counters_id space_id id
    apart = places_apart rs counters_id space_id id c a at

    may_keep : (front back : List Space) → (parts_of rs).spaces ≡ front ++ a ∷ back → MaySave (parts_of rs) c (moved c m work) front a back (a.next_place + 1) a.next_implicit x
    may_keep front back spaces =
        may_save (parts_of rs) a c m work Latest (newest_point (parts_of rs) a m) name false a.next_implicit (saves_so (parts_of rs) m work n name a c rules can_work can there at.one) (le_refl a.next_implicit) front back spaces

    batch : List Change
    batch = savepoint_batch counters_id (moved c m work) space_id (marked (a.next_place + 1) a.next_implicit a) id x

    keeps : keep_rules (parts_of (applied batch rs)) ≡ true
    keeps = keep_plan_saved rs counters_id space_id c (moved c m work) a (a.next_place + 1) a.next_implicit id x rules at.sorted at.counters at.one at.space at.under may_keep

    once : AreChanges batch
    once = changes-saved counters_id (moved c m work) space_id (marked (a.next_place + 1) a.next_implicit a) id x apart.apart apart.counters apart.space
