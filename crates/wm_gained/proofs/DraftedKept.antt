-- What the batch that makes an implicit savepoint alone makes of the records: the laws of a savepoint at what is newest, with the name and
-- the numbers of one that is made for a birth.
use Rattle.std.proofs.Common.{◌≡◌, ℕ, ◌+◌, ◌≤◌, nat_lt, true, List, [], ◌∷◌, ◌++◌, Some, refl, sym, ap, subst, ◌∙◌, arith}
use Rattle.std.proofs.lemmas.Option.{same_Some}
use Rattle.std.proofs.lemmas.Bool.{true≢false}
use Rattle.std.specs.Option.{option_and_then, option_map, unwrap_or}
use Rattle.wm_graph.specs.Parts.{Parts, parts_of, space_of}
use Rattle.wm_graph.specs.Rules.{keep_rules}
use Rattle.wm_spec.specs.Records.{AreChanges}
use Rattle.wm_spec.specs.declared.record.Record.TheVariants as records
use Rattle.wm_spec.specs.declared.record.batch.Change.{Change}
use Rattle.wm_spec.specs.declared.record.counters.Counters.{Counters}
use Rattle.wm_spec.specs.declared.record.savepoint.Savepoint.{Savepoint as Record}
use Rattle.wm_spec.specs.declared.record.space.Space.{Space}
use Rattle.wm_spec.specs.declared.record.stored.Stored.{Stored}
use Rattle.wm_state.specs.ById.{applied}
use Rattle.wm_state.specs.Drafts.{CanKeep, CanWork, DraftsBy}
use Rattle.wm_state.specs.Editing.{implicit_name, keep_in, kept_in, number_limit, saved, saved_at}
use Rattle.wm_state.specs.Effects.{marked}
use Rattle.wm_state.specs.Points.{HasRoom, implicit_of, moved, newest_point}
use Rattle.wm_state.specs.Standing.{FieldsStand, Stands}
use Rattle.wm_state.specs.State.{Durable, Latest, Savepoint, Workspace, workspace_of}
use Rattle.wm_state.specs.declared.edit.Edit.TheVariants as edits
use Rattle.wm_state.specs.declared.edit.NewEntry.{NewEntry}
use Rattle.wm_state.proofs.Counting.{counts_as, counts_in, work_room}
use Rattle.wm_state.proofs.Drafted.{some_edit}
use Rattle.wm_state.proofs.RowsStay.{new_apart, row_apart, rows_stay}
use Rattle.wm_state.proofs.Settled.{Places, PlacesApart, places_apart}
use Rattle.wm_state.proofs.WorkedOn.{counted_put, first_change}
use Rattle.wm_forked.proofs.DraftedBorn.{implicit_same, implicit_short, same_spaces}
use Rattle.wm_forked.proofs.DraftedSaved.{home_of, home_there}
use Rattle.wm_forked.proofs.KeepSaved.{MaySave}
use Rattle.wm_forked.proofs.PlannedSaved.{agree_saved, changes-saved, keep_plan_saved, parts-saved, plan_saved}
use Rattle.wm_forked.proofs.Points.{MakesAt, made_as, made_there, may_save}
use Rattle.wm_gained.specs.Keeping.{keep_batch, kept_record}

-- the savepoint is made in the state
kept_so : (m n : ℕ) (s : Durable) (w : Workspace) (k : Savepoint) → workspace_of s.spaces n ≡ Some w → saved_at m s.spaces w Latest (implicit_name w) true ≡ Some k
    → kept_in m n s ≡ saved w.number (w.next_place + 1) (w.next_implicit + 1) k s
kept_so m n s w k found made =
    ap (λ o. unwrap_or (option_and_then (keep_in m s) o) s) found ∙ ap (λ o. unwrap_or (option_map (λ (j : Savepoint). saved w.number (w.next_place + 1) (w.next_implicit + 1) j s) o) s) made

-- what is asked of it
keeps_so : (p : Parts) (m work n : ℕ) (a : Space) (c : Counters) → keep_rules p ≡ true → CanWork p m work → CanKeep p n → space_of p.spaces n ≡ Some a → p.counters ≡ c ∷ []
    → MakesAt p a c m work Latest (newest_point p a m) (implicit_of a)
keeps_so p m work n a c rules can_work can there one = record {
  rules = rules;
  one = one;
  there = home_there p n a there;
  point = refl;
  short = implicit_short a.next_implicit (ap (λ (b : Space). nat_lt number_limit (b.next_implicit + 1)) (sym same) ∙ can.implicits);
  room = subst (λ (b : Space). HasRoom p b (implicit_of b)) same can.room;
  early = can_work.early;
  some = can_work.some;
  spare = work_room p m work c can_work one;
}
  where
    same : can.space ≡ a
    same = same_Some can.space a (sym can.there ∙ there)

-- the batch makes of the records what the savepoint makes of each state
pub drafts_keep : (rs : List Stored) (m work n : ℕ) (a : Space) (c : Counters) (counters_id space_id id : ℕ) → keep_rules (parts_of rs) ≡ true → CanWork (parts_of rs) m work → CanKeep (parts_of rs) n
    → space_of (parts_of rs).spaces n ≡ Some a → Places rs counters_id space_id id c a
    → DraftsBy work rs m (edits.Keep n ∷ []) (keep_batch counters_id (moved c m work) space_id a id (kept_record (parts_of rs) a m))
drafts_keep rs m work n a c counters_id space_id id rules can_work can there at = record {
  keeps = keeps;
  once = once;
  stands = λ s st.
      let h = home_of (parts_of rs) s n a st.spaces there in
      let k = made_there (parts_of rs) s a h.workspace m Latest (newest_point (parts_of rs) a m) (implicit_of a) true st h.is refl in
      let counts = counts_as (parts_of rs) s c st at.one in
      subst (λ (u : Durable). Stands (parts_of (applied batch rs)) (record u { last_moment = m; work = s.work + work }))
      (sym (kept_so m n s h.workspace k.savepoint h.found (ap (λ i. saved_at m s.spaces h.workspace Latest i true) (implicit_same (parts_of rs) s a h.workspace h.is) ∙ k.is)))
      (plan_saved rs counters_id space_id c (moved c m work) a (a.next_place + 1) (a.next_implicit + 1) id x h.workspace k.savepoint s _ st at.sorted at.counters at.one at.space at.under may_keep
      h.is.found k.kept (same_spaces (parts_of rs) s a h.workspace Latest k.savepoint h.is) refl refl
      (record { counters = moved c m work; one = refl; next_stamp = counts.next_stamp; last_moment = refl; limit = counts.limit; work = ap (λ w. w + work) counts.work }));
  fields = λ s st.
      let h = home_of (parts_of rs) s n a st.spaces there in
      let k = made_as (parts_of rs) s a h.workspace m Latest (newest_point (parts_of rs) a m) (implicit_of a) true rules st h.is refl in
      let counts = counts_in (parts_of rs) s c st.counters at.one in
      subst (λ (u : Durable). FieldsStand (parts_of (applied batch rs)) (record u { last_moment = m; work = s.work + work }))
      (sym (kept_so m n s h.workspace k.savepoint h.found (ap (λ i. saved_at m s.spaces h.workspace Latest i true) (implicit_same (parts_of rs) s a h.workspace h.is) ∙ k.is)))
      (agree_saved rs counters_id space_id c (moved c m work) a (a.next_place + 1) (a.next_implicit + 1) id x h.workspace k.savepoint s _ rules st at.sorted at.counters at.one at.space at.under may_keep
      h.is.found k.fields (same_spaces (parts_of rs) s a h.workspace Latest k.savepoint h.is) refl
      (record { counters = moved c m work; one = refl; next_stamp = counts.next_stamp; last_moment = refl; limit = counts.limit; work = ap (λ w. w + work) counts.work }));
  rows = rows_stay rs batch
      (λ k r found. (row_apart rs counters_id k (records.Counters c) r at.counters refl found, (row_apart rs space_id k (records.Space a) r at.space refl found, (new_apart rs id k r at.under found, tt))));
  kept = refl;
  counted = λ some. counted_put rs work counters_id c (moved c m work) batch at.sorted at.one once (first_change counters_id _ _) keeps refl;
  nothing = some_edit (edits.Keep n) [] batch;
  few = λ forks. absurd (true≢false (sym forks));
  spared = λ i entries one_append. absurd (no_append i entries one_append);
  turned = λ left.
      ap (λ (q : Parts). q.turns) (parts-saved rs counters_id space_id c (moved c m work) a (a.next_place + 1) (a.next_implicit + 1) id x at.sorted at.counters at.one at.space at.under).is;
}
  where
    no_append : (i : ℕ) (entries : List NewEntry) → edits.Keep n ∷ [] ≡ edits.Append i entries ∷ [] → ⊥
    no_append i entries e = cc

    x : Record
    x = kept_record (parts_of rs) a m

    batch : List Change
    batch = keep_batch counters_id (moved c m work) space_id a id x

    apart : PlacesApart counters_id space_id id
    apart = places_apart rs counters_id space_id id c a at

    one_more : (k : ℕ) → k ≤ k + 1
    one_more k = omega arith

    may_keep : (front back : List Space) → (parts_of rs).spaces ≡ front ++ a ∷ back → MaySave (parts_of rs) c (moved c m work) front a back (a.next_place + 1) (a.next_implicit + 1) x
    may_keep front back spaces =
        may_save (parts_of rs) a c m work Latest (newest_point (parts_of rs) a m) (implicit_of a) true (a.next_implicit + 1) (keeps_so (parts_of rs) m work n a c rules can_work can there at.one) (one_more a.next_implicit) front back spaces

    keeps : keep_rules (parts_of (applied batch rs)) ≡ true
    keeps = keep_plan_saved rs counters_id space_id c (moved c m work) a (a.next_place + 1) (a.next_implicit + 1) id x rules at.sorted at.counters at.one at.space at.under may_keep

    once : AreChanges batch
    once = changes-saved counters_id (moved c m work) space_id (marked (a.next_place + 1) (a.next_implicit + 1) a) id x apart.apart apart.counters apart.space
