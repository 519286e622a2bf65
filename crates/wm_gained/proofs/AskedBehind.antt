-- What is asked behind an edit that leaves what is asked about: some state agrees with the records before, so the state that the edit makes
-- of it agrees with those after, which tells what is looked up in them; and rows stay.
use Rattle.std.proofs.Common.{◌≡◌, ℕ, ◌+◌, ◌≤◌, ◌==◌, nat_lt, true, false, List, [], ◌∷◌, length, Option, Some, None, is_some, refl, sym, ap, ◌∙◌, arith}
use Rattle.std.proofs.lemmas.Bool.{and_from, true≢false}
use Rattle.std.proofs.lemmas.Option.{same_Some, none-some}
use Rattle.std.specs.List.{list_all, list_any, slice_index_or}
use Rattle.std.specs.Option.{option_map, option_map_or}
use Rattle.wm_graph.specs.Parts.{Parts, parts_of, space_of, table_of}
use Rattle.wm_graph.specs.Rules.{keep_rules}
use Rattle.wm_spec.specs.Lists.{Entry}
use Rattle.wm_spec.specs.declared.record.batch.Change.{Change}
use Rattle.wm_spec.specs.declared.record.counters.Counters.{Counters}
use Rattle.wm_spec.specs.declared.record.space.Space.{Space}
use Rattle.wm_spec.specs.declared.record.stored.Stored.{Stored}
use Rattle.wm_spec.specs.declared.record.table.Table.{Table}
use Rattle.wm_state.specs.ById.{Ascend, applied}
use Rattle.wm_state.specs.Drafts.{AreOld, CanGain, CanRebase, CanRemove, CanReplay, DraftsBy, IsCopied, is_turn, leaves_turns}
use Rattle.wm_state.specs.Editing.{counter_limit, drafted_by, edited, is_other, number_limit}
use Rattle.wm_state.specs.Entries.{fits_table, is_well}
use Rattle.wm_state.specs.Standing.{FieldsStand, SpaceFields, SpacesStand, fields_in, fields_of}
use Rattle.wm_state.specs.State.{Durable, Workspace, workspace_of}
use Rattle.wm_state.specs.declared.edit.Edit.{Edit}
use Rattle.wm_state.proofs.Apart.{found-passes}
use Rattle.wm_state.proofs.Counting.{counts_in}
use Rattle.wm_state.proofs.FieldsThere.{fields_there}
use Rattle.wm_state.proofs.Mapped.{all-found}
use Rattle.wm_state.proofs.Ready.{KeepReady, all_real-kept, tables_found}
use Rattle.wm_state.proofs.Spaces.{RecordIs, SpaceIs, record_there, ruled_spaces, space_there}
use Rattle.wm_state.proofs.Tests.{all_if}
use Rattle.wm_gained.specs.Behind.{LeavesLog, LeavesParents, LeavesSpace, LeftLog}
use Rattle.wm_gained.proofs.RowsBehind.{rows_found_next}

-- the parent of a workspace is that of its record
parent_same : (p : Parts) (s : Durable) → SpacesStand p s → (n : ℕ) → option_map (λ (r : Space). r.parent) (space_of p.spaces n) ≡ option_map (λ (w : Workspace). w.parent) (workspace_of s.spaces n)
parent_same p s stand n = of_record (space_of p.spaces n) ∙ ap (option_map (λ (f : SpaceFields). f.parent)) (stand.same n) ∙ of_workspace (workspace_of s.spaces n)
  where
    of_record : (o : Option Space) → option_map (λ (r : Space). r.parent) o ≡ option_map (λ (f : SpaceFields). f.parent) (option_map fields_of o)
    of_record None = refl
    of_record (Some r) = refl

    of_workspace : (o : Option Workspace) → option_map (λ (f : SpaceFields). f.parent) (option_map fields_in o) ≡ option_map (λ (w : Workspace). w.parent) o
    of_workspace None = refl
    of_workspace (Some w) = refl

module _ (rs : List Stored) (m work : ℕ) (edit : Edit) (cs : List Change) (rules : keep_rules (parts_of rs) ≡ true) (drafts : DraftsBy work rs m (edit ∷ []) cs) where
  abbrev p : Parts
  p = parts_of rs

  abbrev q : Parts
  q = parts_of (applied cs rs)

  -- a state that agrees with the records before, and what the edit makes of it
  abbrev was : Durable
  was = (fields_there p rules).0

  abbrev now : Durable
  now = drafted_by work m (edit ∷ []) was

  before : FieldsStand p was
  before = (fields_there p rules).1

  after : FieldsStand q now
  after = drafts.fields was before

  -- ---- a removal

  module _ (leaves : LeavesParents (edited m edit)) where
    parents : (n : ℕ) → option_map (λ (r : Space). r.parent) (space_of q.spaces n) ≡ option_map (λ (r : Space). r.parent) (space_of p.spaces n)
    parents n = parent_same q now after.spaces n ∙ leaves was n ∙ sym (parent_same p was before.spaces n)

    some_part : (o : Option Space) → is_some (option_map (λ (r : Space). r.parent) o) ≡ is_some o
    some_part None = refl
    some_part (Some r) = refl

    -- a record of after has the parent of one of before
    other_parent : (n k : ℕ) (r : Space) → list_all (λ (x : Space). is_other n x.parent) p.spaces ≡ true → space_of q.spaces k ≡ Some r → is_other n r.parent ≡ true
    other_parent n k r childless found = by_old (space_of p.spaces k) refl
      where
        of_old : Some r.parent ≡ option_map (λ (x : Space). x.parent) (space_of p.spaces k)
        of_old = sym (ap (option_map (λ (x : Space). x.parent)) found) ∙ parents k

        by_old : (o : Option Space) → space_of p.spaces k ≡ o → is_other n r.parent ≡ true
        by_old None none = absurd (none-some r.parent (sym (of_old ∙ ap (option_map (λ (x : Space). x.parent)) none)))
        by_old (Some a) is =
            ap (is_other n) (same_Some r.parent a.parent (of_old ∙ ap (option_map (λ (x : Space). x.parent)) is))
            ∙ (found-passes (λ (x : Space). x.number == k) (λ (x : Space). is_other n x.parent) p.spaces a is childless).1

    pub can_remove_next : (n : ℕ) → CanRemove p n → CanRemove q n
    can_remove_next n can = record {
      some = can.some;
      there = sym (some_part (space_of q.spaces n)) ∙ ap is_some (parents n) ∙ some_part (space_of p.spaces n) ∙ can.there;
      childless = all-found (λ (r : Space). r.number) (λ (r : Space). is_other n r.parent) q.spaces (ruled_spaces q drafts.keeps).numbers (λ k r found. other_parent n k r can.childless found);
    }

  -- ---- a rebase that empties

  pub can_rebase_next : (n : ℕ) → LeavesSpace (edited m edit) n → leaves_turns edit ≡ true → CanRebase p n true → CanRebase q n true
  can_rebase_next n leaves stay can = record {
    some = can.some;
    space = r.recorded;
    there = r.is.recorded;
    rebases = ap (λ k. nat_lt number_limit (k + 1)) count ∙ can.rebases;
    unturned = ap (λ k. list_any (is_turn n (k + 1)) q.turns) count ∙ ap (list_any (is_turn n (can.space.rebases + 1))) (drafts.turned (and_from (leaves_turns edit) true stay refl)) ∙ can.unturned;
    kept = λ stays c some. absurd (true≢false stays);
  }
    where
      w : SpaceIs p was n can.space
      w = space_there p was n can.space before.spaces can.there

      r : RecordIs q now n w.workspace
      r = record_there q now n w.workspace after.spaces (leaves was ∙ w.is.found)

      count : r.recorded.rebases ≡ can.space.rebases
      count = ap (λ (f : SpaceFields). f.rebases) (r.is.fields ∙ sym w.is.fields)

  -- ---- entries

  module _ (n : ℕ) (es : List Entry) (sorted : Ascend rs) (leaves : LeavesLog (edited m edit) n) where
    tables_still : (k : ℕ) → table_of q.tables k ≡ table_of p.tables k
    tables_still k = sym (tables_found q now after.tables k) ∙ ap (λ ts. table_of ts k) (leaves.tables was) ∙ tables_found p was before.tables k

    ready : KeepReady p.tables q.tables
    ready = record {
      on = λ k is. ap (λ o. option_map_or (λ (t : Table). t.versioned) o false) (tables_still k) ∙ is;
      history = λ k is. ap (λ o. option_map_or (λ (t : Table). t.history) o false) (tables_still k);
    }

    old_next : (c : Counters) → p.counters ≡ c ∷ [] → AreOld p c es → AreOld q after.counters.counters es
    old_next c one old = record {
      stamps = all_if (λ (e : Entry). nat_lt e.stamp c.next_stamp) (λ (e : Entry). nat_lt e.stamp after.counters.counters.next_stamp)
          (λ e lt. below e.stamp c.next_stamp was.next_stamp now.next_stamp after.counters.counters.next_stamp (counts_in p was c before.counters one).next_stamp (leaves.stamps was) after.counters.next_stamp lt) es old.stamps;
      real = all_real-kept p.tables q.tables ready es old.real;
      well = all_if (is_well (table_of p.tables)) (is_well (table_of q.tables)) (λ e is. ap (λ o. option_map_or (fits_table e.key e.row) o false) (tables_still e.table) ∙ is) es old.well;
      users = old.users;
    }
      where
        below : (stamp a b c d : ℕ) → a ≡ b → b ≤ c → d ≡ c → nat_lt stamp a ≡ true → nat_lt stamp d ≡ true
        below stamp a b c d same le last lt = grind (arith, same, le, last, lt)

    copied_next : (e : Entry) → IsCopied p e → IsCopied q e
    copied_next e copied row is = rows_found_next rs (applied cs rs) sorted drafts.keeps drafts.rows e.stamp (record { stamp = e.stamp; table = e.table; values = row.values }) (copied row is)

    -- ---- the workspace

    -- it is there, with a log as long
    record Longer (a : Space) : Type 0 where
      space : Space
      there : space_of q.spaces n ≡ Some space
      log : space.log_length ≡ a.log_length

    longer : (a : Space) → space_of p.spaces n ≡ Some a → Longer a
    longer a there = by_left (leaves.there was h.workspace h.is.found)
      where
        h : SpaceIs p was n a
        h = space_there p was n a before.spaces there

        by_left : LeftLog now.spaces n h.workspace → Longer a
        by_left l =
            let v = record_there q now n l.workspace after.spaces l.is in
            record { space = v.recorded; there = v.is.recorded; log = ap (λ (f : SpaceFields). f.log_length) v.is.fields ∙ l.log ∙ sym (ap (λ (f : SpaceFields). f.log_length) h.is.fields) }

    -- ---- the laws

    pub can_gain_next : CanGain p n es → CanGain q n es
    can_gain_next can =
        let y = longer can.space can.there in
        record {
          space = y.space;
          there = y.there;
          counters = after.counters.counters;
          one = after.counters.one;
          some = can.some;
          old = old_next can.counters can.one can.old;
          kept = can.kept;
          sorted = can.sorted;
          copied = λ k d lt history. copied_next (slice_index_or es k d) (can.copied k d lt (ap (λ o. option_map_or (λ (t : Table). t.history) o false) (sym (tables_still (slice_index_or es k d).table)) ∙ history));
          short = ap (λ i. nat_lt counter_limit (i + length es)) y.log ∙ can.short;
        }

    pub can_replay_next : CanReplay p n es → CanReplay q n es
    can_replay_next can =
        let y = longer can.space can.there in
        record {
          space = y.space;
          there = y.there;
          counters = after.counters.counters;
          one = after.counters.one;
          some = can.some;
          old = old_next can.counters can.one can.old;
          kept = can.kept;
          sorted = can.sorted;
          apart = can.apart;
          copied = λ k d lt. copied_next (slice_index_or es k d) (can.copied k d lt);
          short = ap (λ i. nat_lt counter_limit (i + length es)) y.log ∙ can.short;
        }
