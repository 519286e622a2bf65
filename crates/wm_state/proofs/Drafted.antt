-- What the batches that make a table and make one ready make of the records.
use Rattle.std.proofs.Common.{◌≡◌, ◌≢◌, ◌≤◌, ◌<◌, ℕ, ◌+◌, Bool, true, false, List, [], ◌∷◌, Some, refl, sym, ap, subst, ◌∙◌, arith}
use Rattle.std.proofs.lemmas.Option.{same_Some}
use Rattle.std.proofs.lemmas.Bool.{true≢false}
use Rattle.std.specs.Option.{option_map, unwrap_or}
use Rattle.wm_graph.specs.Parts.{parts_of}
use Rattle.wm_graph.specs.Rules.{are_counters, has_key, keep_rules}
use Rattle.wm_spec.specs.Records.{AreChanges, ids_differ, record_at}
use Rattle.wm_spec.specs.declared.record.Record.TheVariants as records
use Rattle.wm_spec.specs.declared.record.batch.Change.{Change}
use Rattle.wm_spec.specs.declared.record.counters.Counters.{Counters}
use Rattle.wm_spec.specs.declared.record.stored.Stored.{Stored}
use Rattle.wm_spec.specs.declared.record.table.Table.{Table}
use Rattle.wm_state.specs.Batches.{AllUnder, create_batch, enable_batch, put, ready}
use Rattle.wm_state.specs.ById.{Ascend, applied}
use Rattle.wm_state.specs.Drafts.{CanCreate, CanWork, Drafts, DraftsBy}
use Rattle.wm_state.specs.Editing.{drafted_by, edited, enable_named, work_of}
use Rattle.wm_state.specs.Points.{moved}
use Rattle.wm_state.specs.Standing.{TablesStand, FieldsStand, Stands, by_number}
use Rattle.wm_state.specs.State.{Readiness, Durable, table_named}
use Rattle.wm_state.specs.declared.edit.Edit.{Edit}
use Rattle.wm_state.specs.declared.edit.NewEntry.{NewEntry}
use Rattle.wm_state.specs.declared.edit.Edit.TheVariants as edits
use Rattle.wm_state.proofs.ByKind.{under_found}
use Rattle.wm_state.proofs.Counting.{counts_as, counts_in, moved_well, two_changes, work_grows}
use Rattle.wm_state.proofs.Enabling.{keep-readied}
use Rattle.wm_state.proofs.Growing.{same_counters}
use Rattle.wm_state.proofs.Planned.{Readied, agree_created, agree_readied, parts-readied, plan_created, plan_readied}
use Rattle.wm_state.proofs.Planning.{parts-created}
use Rattle.wm_state.proofs.RowsStay.{new_apart, row_apart, rows_stay}
use Rattle.wm_state.proofs.Tables.{MayCreate, keep-created}
use Rattle.wm_state.proofs.WorkedOn.{counted_put, first_change}

-- ---- nothing

-- no change is one twice
none_changes : AreChanges []
unfolding ids_differ
none_changes = refl

no_edit : (e : Edit) (es : List Edit) → [] ≡ e ∷ es → ⊥
no_edit e es some = cc

-- without edits nothing changes, whatever the work
pub drafts_none : (work : ℕ) (rs : List Stored) (m : ℕ) → keep_rules (parts_of rs) ≡ true → DraftsBy work rs m [] []
drafts_none work rs m rules = record {
  keeps = rules;
  once = none_changes;
  stands = λ s st. st;
  fields = λ s st. st;
  rows = λ id r found. found;
  kept = refl;
  counted = λ some. absurd (some refl);
  nothing = λ none. refl;
  few = λ forks. record { count = omega arith; rest = refl };
  spared = λ n entries some. absurd (no_edit _ [] some);
  turned = λ left. refl;
}

-- nor in a line
pub drafts_nothing : (rs : List Stored) (m : ℕ) → keep_rules (parts_of rs) ≡ true → Drafts rs m [] []
drafts_nothing = drafts_none (work_of [])

-- one edit is not none
pub some_edit : (e : Edit) (es : List Edit) (cs : List Change) → e ∷ es ≡ [] → cs ≡ []
some_edit e es cs none = cc

-- ---- a table is made

-- such a table may be made
may_create : (rs : List Stored) (m work : ℕ) (t : Table) (c : Counters) → keep_rules (parts_of rs) ≡ true → CanWork (parts_of rs) m work → CanCreate (parts_of rs) t → (parts_of rs).counters ≡ c ∷ []
    → MayCreate (parts_of rs) c (moved c m work) t
may_create rs m work t c rules can_work can one = record {
  one = one;
  counters = moved_well (parts_of rs) m work c rules can_work one;
  versions = refl;
  stamps = refl;
  work = work_grows c.work work;
  is = can.is;
  room = can.room;
  number = can.number;
  name = can.name;
}

-- the batch makes of the records what the table makes of each state
pub drafts_created : (rs : List Stored) (m work : ℕ) (t : Table) (c : Counters) (counters_id id : ℕ) → keep_rules (parts_of rs) ≡ true → CanWork (parts_of rs) m work → CanCreate (parts_of rs) t
    → (parts_of rs).counters ≡ c ∷ [] → record_at rs counters_id ≡ Some (records.Counters c) → Ascend rs → AllUnder id rs → DraftsBy work rs m (edits.Create t ∷ []) (create_batch counters_id (moved c m work) id t)
drafts_created rs m work t c counters_id id rules can_work can one there sorted under = record {
  keeps = keeps;
  once = once;
  stands = λ s st.
      let counts = counts_as (parts_of rs) s c st one in
      plan_created rs counters_id id c (moved c m work) t s (drafted_by work m (edits.Create t ∷ []) s) st sorted there under may refl refl refl
      (record { counters = moved c m work; one = refl; next_stamp = counts.next_stamp; last_moment = refl; limit = counts.limit; work = ap (λ w. w + work) counts.work });
  fields = λ s st.
      let counts = counts_in (parts_of rs) s c st.counters one in
      agree_created rs counters_id id c (moved c m work) t s (drafted_by work m (edits.Create t ∷ []) s) st sorted there under may refl refl
      (record { counters = moved c m work; one = refl; next_stamp = counts.next_stamp; last_moment = refl; limit = counts.limit; work = ap (λ w. w + work) counts.work });
  rows = rows_stay rs (create_batch counters_id (moved c m work) id t) (λ k r found. (row_apart rs counters_id k (records.Counters c) r there refl found, (new_apart rs id k r under found, tt)));
  kept = refl;
  counted = λ some. counted_put rs work counters_id c (moved c m work) (create_batch counters_id (moved c m work) id t) sorted one once (first_change counters_id _ _) keeps refl;
  nothing = some_edit (edits.Create t) [] (create_batch counters_id (moved c m work) id t);
  few = λ forks. absurd (true≢false (sym forks));
  spared = λ n entries one_append. absurd (no_append n entries one_append);
  turned = λ left. absurd (true≢false (sym left));
}
  where
    no_append : (n : ℕ) (entries : List NewEntry) → edits.Create t ∷ [] ≡ edits.Append n entries ∷ [] → ⊥
    no_append n entries e = cc

    below : (a b : ℕ) → a < b → a ≡ b → ⊥
    below a b lt e = omega (arith, lt, e)

    may : MayCreate (parts_of rs) c (moved c m work) t
    may = may_create rs m work t c rules can_work can one

    keeps : keep_rules (parts_of (applied (create_batch counters_id (moved c m work) id t) rs)) ≡ true
    keeps = subst (λ p. keep_rules p ≡ true) (sym (parts-created rs counters_id id c (moved c m work) t sorted there one under)) (keep-created (parts_of rs) c (moved c m work) t may rules)

    once : AreChanges (create_batch counters_id (moved c m work) id t)
    once = two_changes (put counters_id (records.Counters (moved c m work))) (put id (records.Table t)) (below counters_id id (under_found id rs counters_id (records.Counters c) under there))

-- ---- a table becomes ready

-- the table of the name is that of the records
enabled_so : (rs : List Stored) (m : ℕ) (name : List ℕ) (valid history : Bool) (t : Table) (s : Durable) → TablesStand (parts_of rs) s → table_named name (by_number (parts_of rs).tables) ≡ Some t
    → edited m (edits.Enable name valid history) s ≡ enable_named (record { valid = valid; history = history }) s t
enabled_so rs m name valid history t s st named = ap (λ o. unwrap_or (option_map (enable_named (record { valid = valid; history = history }) s) o) s) (ap (table_named name) (sym st.same) ∙ named)

-- the batch makes of the records what its readiness makes of each state
pub drafts_enabled : (rs : List Stored) (m work : ℕ) (name : List ℕ) (valid history : Bool) (t : Table) (c : Counters) (counters_id id : ℕ) → keep_rules (parts_of rs) ≡ true → CanWork (parts_of rs) m work
    → table_named name (by_number (parts_of rs).tables) ≡ Some t → t.versioned ≡ false → has_key t ≡ true → (parts_of rs).counters ≡ c ∷ [] → record_at rs counters_id ≡ Some (records.Counters c) → record_at rs id ≡ Some (records.Table t) → Ascend rs
    → DraftsBy work rs m (edits.Enable name valid history ∷ []) (enable_batch counters_id (moved c m work) id (record { valid = valid; history = history }) t)
drafts_enabled rs m work name valid history t c counters_id id rules can_work named off key one there found sorted = record {
  keeps = keeps;
  once = once;
  stands = λ s st.
      let counts = counts_as (parts_of rs) s c st one in
      subst (λ (u : Durable). Stands (parts_of (applied (enable_batch counters_id (moved c m work) id how t) rs)) (record u { last_moment = m; work = s.work + work })) (sym (enabled_so rs m name valid history t s st.tables named))
      (plan_readied rs counters_id id c (moved c m work) how t s _ st sorted there one found off key counts_well refl refl (work_grows c.work work) refl refl refl
      (λ front back. record { counters = moved c m work; one = refl; next_stamp = counts.next_stamp; last_moment = refl; limit = counts.limit; work = ap (λ w. w + work) counts.work }));
  fields = λ s st.
      let counts = counts_in (parts_of rs) s c st.counters one in
      subst (λ (u : Durable). FieldsStand (parts_of (applied (enable_batch counters_id (moved c m work) id how t) rs)) (record u { last_moment = m; work = s.work + work })) (sym (enabled_so rs m name valid history t s st.tables named))
      (agree_readied rs counters_id id c (moved c m work) how t s _ rules st sorted there one found refl refl
      (λ front back. record { counters = moved c m work; one = refl; next_stamp = counts.next_stamp; last_moment = refl; limit = counts.limit; work = ap (λ w. w + work) counts.work }));
  rows = rows_stay rs (enable_batch counters_id (moved c m work) id how t)
      (λ k r stood. (row_apart rs counters_id k (records.Counters c) r there refl stood, (row_apart rs id k (records.Table t) r found refl stood, tt)));
  kept = refl;
  counted = λ some. counted_put rs work counters_id c (moved c m work) (enable_batch counters_id (moved c m work) id how t) sorted one once (first_change counters_id _ _) keeps refl;
  nothing = some_edit (edits.Enable name valid history) [] (enable_batch counters_id (moved c m work) id how t);
  few = λ forks. absurd (true≢false (sym forks));
  spared = λ n entries one_append. absurd (no_append n entries one_append);
  turned = λ left. absurd (true≢false (sym left));
}
  where
    no_append : (n : ℕ) (entries : List NewEntry) → edits.Enable name valid history ∷ [] ≡ edits.Append n entries ∷ [] → ⊥
    no_append n entries e = cc

    how : Readiness
    how = record { valid = valid; history = history }

    kinds_apart : records.Counters c ≡ records.Table t → ⊥
    kinds_apart e = cc

    apart : counters_id ≢ id
    apart e = kinds_apart (same_Some _ _ (sym there ∙ ap (record_at rs) e ∙ found))

    counts_well : are_counters (moved c m work) ≡ true
    counts_well = moved_well (parts_of rs) m work c rules can_work one

    by_parts : Readied rs (enable_batch counters_id (moved c m work) id how t) (moved c m work) how t → keep_rules (parts_of (applied (enable_batch counters_id (moved c m work) id how t) rs)) ≡ true
    by_parts r = subst (λ p. keep_rules p ≡ true) (sym r.is)
        (keep-readied (parts_of rs) (moved c m work) r.front how t r.back rules r.old key counts_well
        (λ d is_one.
        let same : c ≡ d = same_counters (parts_of rs) d c is_one one in
        (ap (λ (k : Counters). k.next_version) same, ap (λ (k : Counters). k.next_stamp) same, subst (λ (k : Counters). k.work ≤ (moved c m work).work) same (work_grows c.work work))))

    keeps : keep_rules (parts_of (applied (enable_batch counters_id (moved c m work) id how t) rs)) ≡ true
    keeps = by_parts (parts-readied rs counters_id id c (moved c m work) how t sorted there one found)

    once : AreChanges (enable_batch counters_id (moved c m work) id how t)
    once = two_changes (put counters_id (records.Counters (moved c m work))) (put id (records.Table (ready how t))) apart
