-- A savepoint behind another in one list of edits: what is asked of the second holds of whatever records the first leaves. A sample of
-- how a list of several edits is asked for: some state agrees with the records before, and so the state that the first edit makes agrees
-- with the records after it, which tells what is looked up in them.
use Rattle.std.proofs.Common.{◌≡◌, ℕ, ◌+◌, ◌==◌, nat_lt, nat_le, false, true, List, [], ◌∷◌, length, length-append, Some, None, refl, sym, ap, ◌∙◌, arith}
use Rattle.std.specs.List.{find, count_by}
use Rattle.std.specs.Str.{bytes_eq}
use Rattle.wm_graph.specs.Parts.{Parts, parts_of}
use Rattle.wm_graph.specs.Rules.{is_short, keep_rules}
use Rattle.wm_spec.specs.declared.record.batch.Change.{Change}
use Rattle.wm_spec.specs.declared.record.savepoint.Savepoint.{Savepoint as Record}
use Rattle.wm_spec.specs.declared.record.space.Space.{Space}
use Rattle.wm_spec.specs.declared.record.stored.Stored.{Stored}
use Rattle.wm_state.specs.ById.{applied}
use Rattle.wm_state.specs.Drafts.{CanDraft, CanSave, CanWork, DraftsBy}
use Rattle.wm_state.specs.Editing.{drafted_by, line_work, number_limit}
use Rattle.wm_state.specs.Standing.{FieldsStand, SpaceFields, saved_in}
use Rattle.wm_state.specs.State.{Savepoint, Durable, Workspace, next_making, with_savepoint, with_space, workspace_of}
use Rattle.wm_state.specs.declared.edit.Edit.TheVariants as edits
use Rattle.wm_forked.proofs.DraftedSaved.{saved_so}
use Rattle.wm_state.proofs.FieldsThere.{fields_there}
use Rattle.wm_state.proofs.Mapped.{find-skip}
use Rattle.wm_state.proofs.SavedAs.{passed_none, saved_count_there, unpassed}
use Rattle.wm_forked.proofs.Saving.{has_savepoint}
use Rattle.wm_state.proofs.Spaces.{IsSpace, RecordIs, SpaceIs, record_there, space_there}

-- places are left for two, so one is left behind one
place_left : (i j : ℕ) → j ≡ i + 1 → nat_lt number_limit (i + 2) ≡ false → nat_lt number_limit (j + 1) ≡ false
place_left i j same left = grind (arith, same, left)

-- so it is of savepoints
few_left : (i j : ℕ) → j ≡ i + 1 → nat_le 4095 i ≡ false → nat_le 4096 j ≡ false
few_left i j same few = grind (arith, same, few)

-- a savepoint of another name may be made where records agree with a state before, and others with one that has a savepoint more
can_save_behind : (p q : Parts) (s u : Durable) (n implicit : ℕ) (b : List ℕ) (r : Space) (w : Workspace) (k : Savepoint) → FieldsStand p s → IsSpace p s n r w → find (λ (x : Record). bytes_eq b x.name) (saved_in p n) ≡ None
    → is_short b ≡ true → bytes_eq b k.name ≡ false → nat_lt number_limit (r.next_place + 2) ≡ false → nat_le 4095 (count_by (λ (x : Record). x.space == n) p.savepoints) ≡ false
    → FieldsStand q u → workspace_of u.spaces n ≡ Some (with_savepoint (w.next_place + 1) implicit k w) → CanSave q n b
can_save_behind p q s u n implicit b r w k st is none short other left few after found = record {
  space = v.recorded;
  there = v.is.recorded;
  short = short;
  room = record {
    new = ap (λ i. find (λ (x : Record). bytes_eq b x.name) (saved_in q i)) v.is.record_number ∙ unpassed q u n w_after after.savepoints found (λ f. bytes_eq b f.name) unnamed;
    few = ap (λ i. nat_le 4096 (count_by (λ (x : Record). x.space == i) q.savepoints)) v.is.record_number
        ∙ few_left (count_by (λ (x : Record). x.space == n) p.savepoints) (count_by (λ (x : Record). x.space == n) q.savepoints) one_more few;
  };
  places = place_left r.next_place v.recorded.next_place next left;
}
  where
    w_after : Workspace
    w_after = with_savepoint (w.next_place + 1) implicit k w

    v : RecordIs q u n w_after
    v = record_there q u n w_after after.spaces found

    unnamed : find (λ (j : Savepoint). bytes_eq b j.name) w_after.savepoints ≡ None
    unnamed = find-skip (λ (j : Savepoint). bytes_eq b j.name) w.savepoints k other ∙ passed_none p s n w st.savepoints is.found (λ f. bytes_eq b f.name) none

    one_more : count_by (λ (x : Record). x.space == n) q.savepoints ≡ count_by (λ (x : Record). x.space == n) p.savepoints + 1
    one_more = sym (saved_count_there q u n w_after after.savepoints found) ∙ length-append w.savepoints (k ∷ []) ∙ ap (λ i. i + 1) (saved_count_there p s n w st.savepoints is.found)

    next : v.recorded.next_place ≡ r.next_place + 1
    next = ap (λ (f : SpaceFields). f.next_place) v.is.fields ∙ ap (λ (f : SpaceFields). f.next_place + 1) (sym is.fields)

-- what is asked of a savepoint is asked still of whatever records the draft of one of another name leaves, where there was room for two
pub can_save_next : (rs : List Stored) (m work n : ℕ) (a b : List ℕ) (cs : List Change) → keep_rules (parts_of rs) ≡ true → (can : CanSave (parts_of rs) n b) → bytes_eq b a ≡ false
    → nat_lt number_limit (can.space.next_place + 2) ≡ false → nat_le 4095 (count_by (λ (x : Record). x.space == n) (parts_of rs).savepoints) ≡ false → DraftsBy work rs m (edits.Save n a ∷ []) cs
    → CanSave (parts_of (applied cs rs)) n b
can_save_next rs m work n a b cs rules can other left few drafts = by_state (fields_there (parts_of rs) rules)
  where
    by_state : ((s : Durable) × FieldsStand (parts_of rs) s) → CanSave (parts_of (applied cs rs)) n b
    by_state (s, st) = by_space (space_there (parts_of rs) s n can.space st.spaces can.there)
      where
        by_space : SpaceIs (parts_of rs) s n can.space → CanSave (parts_of (applied cs rs)) n b
        by_space h =
            can_save_behind (parts_of rs) (parts_of (applied cs rs)) s (drafted_by work m (edits.Save n a ∷ []) s) n h.workspace.next_implicit b can.space h.workspace k st h.is
            (ap (λ i. find (λ (x : Record). bytes_eq b x.name) (saved_in (parts_of rs) i)) (sym h.is.record_number) ∙ can.room.new) can.short other left few (drafts.fields s st)
            (ap (λ (t : Durable). workspace_of t.spaces n) (saved_so m n a s h.workspace k h.is.found refl)
            ∙ ap (λ i. workspace_of (with_space i (with_savepoint (h.workspace.next_place + 1) h.workspace.next_implicit k) s.spaces) n) h.is.number
            ∙ has_savepoint n (h.workspace.next_place + 1) h.workspace.next_implicit k s.spaces h.workspace h.is.found)
          where
            k : Savepoint
            k = record {
              making = next_making s.spaces;
              name = a;
              implicit = false;
              place = h.workspace.next_place;
              moment = m;
              base = h.workspace.lists.base;
              own = h.workspace.lists.own;
              from = h.workspace.from;
              log_length = length h.workspace.lists.log;
              rebases = h.workspace.rebases;
            }

-- so a list of two savepoints can be made
pub can_save_two : (rs : List Stored) (m n : ℕ) (a b : List ℕ) → keep_rules (parts_of rs) ≡ true → CanWork (parts_of rs) m line_work → CanSave (parts_of rs) n a → (can : CanSave (parts_of rs) n b) → bytes_eq b a ≡ false
    → nat_lt number_limit (can.space.next_place + 2) ≡ false → nat_le 4095 (count_by (λ (x : Record). x.space == n) (parts_of rs).savepoints) ≡ false → CanDraft rs m (edits.Save n a ∷ edits.Save n b ∷ [])
can_save_two rs m n a b rules works one two other left few = (works, omega arith, (one, λ work cs drafts. (can_save_next rs m work n a b cs rules two other left few drafts, λ more ds next. tt)))
