-- What the batch of a workspace that goes back to a savepoint makes of the records.
use Rattle.std.proofs.Common.{◌≡◌, ℕ, ◌+◌, nat_lt, true, List, [], ◌∷◌, ◌++◌, map, Some, is_some, refl, sym, ap, subst, ◌∙◌}
use Rattle.std.proofs.lemmas.Bool.{ne_eqb, and_from, lt-ltb, true≢false}
use Rattle.std.specs.List.{filter, list_all}
use Rattle.std.specs.Option.{option_map, unwrap_or}
use Rattle.wm_graph.specs.Parts.{Parts, parts_of, space_of}
use Rattle.wm_graph.specs.Rules.{keep_rules}
use Rattle.wm_spec.specs.Records.{AreChanges, ids_differ, record_at}
use Rattle.wm_spec.specs.declared.record.Record.TheVariants as records
use Rattle.wm_spec.specs.declared.record.batch.Change.{Change}
use Rattle.wm_spec.specs.declared.record.counters.Counters.{Counters}
use Rattle.wm_spec.specs.declared.record.savepoint.Savepoint.{Savepoint as Record}
use Rattle.wm_spec.specs.declared.record.space.Space.{Space}
use Rattle.wm_spec.specs.declared.record.stored.Stored.{Stored}
use Rattle.wm_spec.specs.declared.record.version.Version.{Version}
use Rattle.wm_state.specs.Batches.{AllUnder, AreDropped, drop_one, put}
use Rattle.wm_state.specs.ById.{Ascend, applied}
use Rattle.wm_state.specs.Drafts.{CanWork, DraftsBy}
use Rattle.wm_state.specs.Editing.{edited, restored_in}
use Rattle.wm_state.specs.Points.{versioned}
use Rattle.wm_state.specs.Standing.{SavepointFields, SpaceFields, FieldsStand, SavepointsStand, SpacesStand, Stands, saved_as}
use Rattle.wm_state.specs.State.{Durable, Savepoint, Workspace, savepoint_made, with_space}
use Rattle.wm_state.specs.declared.edit.Edit.TheVariants as edits
use Rattle.wm_state.specs.declared.edit.NewEntry.{NewEntry}
use Rattle.wm_state.proofs.Counting.{counts_as, counts_in, version_well, work_grows}
use Rattle.wm_state.proofs.Drafted.{some_edit}
use Rattle.wm_state.proofs.Frames.{savepoints_of-found}
use Rattle.wm_state.proofs.Named.{saved_space, space_number}
use Rattle.wm_state.proofs.RowsStay.{away_append, away_dropped, new_apart, row_apart, rows_stay}
use Rattle.wm_state.proofs.SavedAs.{IsSaved, made_some_there}
use Rattle.wm_state.proofs.Settled.{Places, PlacesApart, places_apart}
use Rattle.wm_state.proofs.Spaces.{SpaceIs, space_there}
use Rattle.wm_state.proofs.WorkedOn.{counted_put, first_change}
use Rattle.wm_written.proofs.Ids.{are_under}
use Rattle.wm_written.proofs.DraftedWritten.{all_below, two_before}
use Rattle.wm_undone.specs.Restoring.{GoesBack, keeps_back, restore_batch, restored, restored_to, stays_held}
use Rattle.wm_undone.proofs.Dropped.{kept_behind}
use Rattle.wm_undone.proofs.RestoringBatch.{agree_back, changes-back, keep_plan_back, plan_back}
use Rattle.wm_undone.proofs.RestoringKept.{MayGoBack}

-- ---- the state

-- the workspace and its savepoint of the making
record Stood (p : Parts) (s : Durable) (n making : ℕ) (x : Record) : Type 0 where
  workspace : Workspace
  savepoint : Savepoint
  goes : GoesBack p s n making workspace savepoint x

-- they are there in each state with which the records agree, and the workspace was not rebased since
stood : (p : Parts) (s : Durable) (n making : ℕ) (a : Space) (x : Record) → keep_rules p ≡ true → SpacesStand p s → SavepointsStand p s → space_of p.spaces n ≡ Some a → saved_as p n making ≡ Some x → x.rebases ≡ a.rebases
    → Stood p s n making x
stood p s n making a x rules spaces saves there saved based = by_space (space_there p s n a spaces there)
  where
    by_savepoint : (h : SpaceIs p s n a) → ((k : Savepoint) × (savepoint_made making h.workspace.savepoints ≡ Some k) × IsSaved p n h.workspace x k) → Stood p s n making x
    by_savepoint h (k, made, is) = record {
      workspace = h.workspace;
      savepoint = k;
      goes = record {
        found = h.is.found;
        made = made;
        recorded = saved;
        based = sym (ap (λ (f : SavepointFields). f.rebases) is.fields) ∙ based ∙ ap (λ (f : SpaceFields). f.rebases) h.is.fields;
      };
    }

    by_space : SpaceIs p s n a → Stood p s n making x
    by_space h = by_savepoint h (made_some_there p s n h.workspace rules saves h.is.found making x saved)

-- so the edit makes of it the state in which the workspace is as it was there
restored_so : (p : Parts) (m n making : ℕ) (s : Durable) (x : Record) (h : Stood p s n making x) → edited m (edits.Restore n making) s ≡ restored_in n s h.savepoint
restored_so p m n making s x h =
    ap (λ ks. unwrap_or (option_map (restored_in n s) (savepoint_made making ks)) s) (savepoints_of-found s.spaces n h.workspace h.goes.found) ∙ ap (λ o. unwrap_or (option_map (restored_in n s) o) s) h.goes.made

-- ---- the batch

-- the batch makes of the records what going back makes of each state
pub drafts_restored : (rs : List Stored) (m work n making : ℕ) (c : Counters) (a : Space) (x : Record) (counters_id space_id id : ℕ) (ids : List ℕ) → keep_rules (parts_of rs) ≡ true → CanWork (parts_of rs) m work
    → (parts_of rs).counters ≡ c ∷ [] → space_of (parts_of rs).spaces n ≡ Some a → saved_as (parts_of rs) n making ≡ Some x → x.rebases ≡ a.rebases → record_at rs counters_id ≡ Some (records.Counters c)
    → record_at rs space_id ≡ Some (records.Space a) → Ascend rs → AllUnder id rs → AreDropped (keeps_back x) ids rs → ids_differ ids ≡ true → list_all (λ d. is_some (record_at rs d)) ids ≡ true
    → DraftsBy work rs m (edits.Restore n making ∷ []) (restore_batch counters_id (versioned c m work) space_id (restored_to x a) ids id (record { number = c.next_version; space = n; parent = x.version }))
drafts_restored rs m work n making c a x counters_id space_id id ids rules can_work one there saved based counters space sorted under are differ some = record {
  keeps = keeps;
  once = once;
  stands = λ s st.
      let h = stood (parts_of rs) s n making a x rules st.spaces st.savepoints there saved based in
      let counts = counts_as (parts_of rs) s c st one in
      subst (λ (u : Durable). Stands (parts_of (applied batch rs)) (record u { last_moment = m; work = s.work + work })) (sym (restored_so (parts_of rs) m n making s x h))
      (plan_back rs counters_id space_id id c d a making y x ids at are may h.workspace h.savepoint s _ st (goes_there s h) (ap (λ i. with_space i (restored h.savepoint) s.spaces) (sym in_it)) refl (ap (λ i. filter (stays_held i h.savepoint.place) s.locks) (sym in_it))
      (record { counters = d; one = refl; next_stamp = counts.next_stamp; last_moment = refl; limit = counts.limit; work = ap (λ w. w + work) counts.work }));
  fields = λ s st.
      let h = stood (parts_of rs) s n making a x rules st.spaces st.savepoints there saved based in
      let counts = counts_in (parts_of rs) s c st.counters one in
      subst (λ (u : Durable). FieldsStand (parts_of (applied batch rs)) (record u { last_moment = m; work = s.work + work })) (sym (restored_so (parts_of rs) m n making s x h))
      (agree_back rs counters_id space_id id c d a making y x ids at are may h.workspace h.savepoint s _ rules st (goes_there s h) (ap (λ i. with_space i (restored h.savepoint) s.spaces) (sym in_it)) refl
      (record { counters = d; one = refl; next_stamp = counts.next_stamp; last_moment = refl; limit = counts.limit; work = ap (λ w. w + work) counts.work }));
  rows = rows_stay rs batch
      (λ k r found. (
        row_apart rs counters_id k (records.Counters c) r counters refl found,
        (
          row_apart rs space_id k (records.Space a) r space refl found,
          away_append k (map drop_one ids) (put id (records.Version y) ∷ []) (away_dropped k ids (are k (records.Row r) found)) (new_apart rs id k r under found, tt),
        ),
      ));
  kept = kept_behind ids (put id (records.Version y) ∷ []) refl;
  counted = λ some_edits. counted_put rs work counters_id c d batch sorted one once (first_change counters_id _ _) keeps refl;
  nothing = some_edit (edits.Restore n making) [] batch;
  few = λ forks. absurd (true≢false (sym forks));
  spared = λ i entries one_append. absurd (no_append i entries one_append);
  turned = λ left. absurd (true≢false (sym left));
}
  where
    no_append : (i : ℕ) (entries : List NewEntry) → edits.Restore n making ∷ [] ≡ edits.Append i entries ∷ [] → ⊥
    no_append i entries e = cc

    d : Counters
    d = versioned c m work

    y : Version
    y = record { number = c.next_version; space = n; parent = x.version }

    batch : List Change
    batch = restore_batch counters_id d space_id (restored_to x a) ids id y

    at : Places rs counters_id space_id id c a
    at = record { sorted = sorted; counters = counters; one = one; space = space; under = under }

    in_it : x.space ≡ n
    in_it = saved_space (parts_of rs) n making x saved

    goes_there : (s : Durable) (h : Stood (parts_of rs) s n making x) → GoesBack (parts_of rs) s x.space making h.workspace h.savepoint x
    goes_there s h = subst (λ i. GoesBack (parts_of rs) s i making h.workspace h.savepoint x) (sym in_it) h.goes

    may : (front back : List Space) → (parts_of rs).spaces ≡ front ++ a ∷ back → MayGoBack (parts_of rs) c d front a back making y x
    may front back spaces = record {
      one = one;
      counters = version_well (parts_of rs) m work c rules can_work one;
      stamps = refl;
      next = refl;
      work = work_grows c.work work;
      spaces = spaces;
      space = space_number (parts_of rs) n a there ∙ sym in_it;
      saved = ap (λ i. saved_as (parts_of rs) i making) in_it ∙ saved;
      number = refl;
      its = sym in_it;
      parent = refl;
    }

    keeps : keep_rules (parts_of (applied batch rs)) ≡ true
    keeps = keep_plan_back rs counters_id space_id id c d a making y x ids at are may rules

    apart : PlacesApart counters_id space_id id
    apart = places_apart rs counters_id space_id id c a at

    once : AreChanges batch
    once = changes-back counters_id d space_id (restored_to x a) ids id y
        (two_before counters_id space_id ids (ne_eqb space_id counters_id (λ same. apart.apart (sym same))) (are counters_id (records.Counters c) counters) (are space_id (records.Space a) space) differ)
        (and_from (nat_lt counters_id id) _ (lt-ltb counters_id id apart.counters) (and_from (nat_lt space_id id) (are_under id ids) (lt-ltb space_id id apart.space) (all_below rs id ids under some)))
