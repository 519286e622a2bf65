-- The logs after one of them is longer by entries: their records, what they touch, the entries themselves and their rows; so the records
-- stand for the state.
use Rattle.std.proofs.Common.{◌≡◌, ◌≢◌, ℕ, ◌+◌, ◌==◌, nat_lt, nat_le, cond, true, false, List, ◌++◌, length, take, get_or, Option, Some, None, refl, sym, ap, subst, ◌∙◌, ◌⊎◌, inl, inr, ⊎_elim, arith}
use Rattle.std.proofs.lemmas.Bool.{cases_eq, eq-eqb, ne_eqb, leb-true}
use Rattle.std.proofs.lemmas.List.{take-append-le}
use Rattle.std.proofs.lemmas.List.Elements.{All-append}
use Rattle.std.proofs.lemmas.Option.{same_Some, none-some}
use Rattle.std.specs.List.{All, slice_get}
use Rattle.std.specs.Option.{option_map, option_map_or, option_and_then}
use Rattle.wm_base.proofs.Plain.{none_some}
use Rattle.wm_graph.specs.Parts.{Parts, space_of}
use Rattle.wm_graph.specs.Rules.{keep_rules}
use Rattle.wm_spec.specs.Lists.{Entry}
use Rattle.wm_spec.specs.declared.record.savepoint.Savepoint.{Savepoint as Record}
use Rattle.wm_spec.specs.declared.record.space.Space.{Space}
use Rattle.wm_spec.specs.declared.record.table.Table.{Table}
use Rattle.wm_state.specs.State.{Durable, Workspace, Savepoint, workspace_of, with_space, savepoint_made, log_of}
use Rattle.wm_state.specs.Entries.{hists_kept}
use Rattle.wm_state.specs.Standing.{CountersStand, EntriesStand, FieldsStand, HasRow, HistsStand, IsReal, NamedStand, OwnsStand, RowsStand, SavepointFields, SpaceFields, Stands, TouchesStand, TouchesTell, fields_in, fields_of, fields_saved, has_history, hist_at, logged, saved_as, saved_fields}
use Rattle.wm_state.specs.Touching.{Touched}
use Rattle.wm_state.proofs.Changing.{WasChanged}
use Rattle.wm_state.proofs.Frames.{fields_stand}
use Rattle.wm_state.proofs.Logging.{HaveRows, log_of-found, log_of-same, rows-kept}
use Rattle.wm_state.proofs.Marking.{MarksStand-alike, marks_in}
use Rattle.wm_state.proofs.Named.{saved_there}
use Rattle.wm_state.proofs.Ready.{KeepReady, KeepReady-same, KeepReady-stands, all_real-kept, tables_found}
use Rattle.wm_state.proofs.SavedAs.{made_none, made_some}
use Rattle.wm_state.proofs.Staying.{AreReal, AreReal-same, AreTold, EntriesStand-kept, LocksStand-same, TouchesStand-kept, TurnsStand-alike, WasTouched, entries_real, part-changed, turn_rows-kept, turns_in}
use Rattle.wm_written.proofs.Logged.{hists_kept-alike, logged-away, logged-here, logged_in}
use Rattle.wm_written.proofs.Longer.{FieldsStand-longer, IsLonger, after, before, grown}
use Rattle.wm_written.proofs.TouchesKept.{tells_kept, tells_more, tells_other}

-- a savepoint of a workspace has a record of its place and of how long the log was
record Marked (p : Parts) (n : ℕ) (k : Savepoint) (a : Space) : Type 0 where
  place : nat_lt k.place a.next_place ≡ true
  log : nat_le k.log_length a.log_length ≡ true

marked_by : (p : Parts) (s : Durable) (n making : ℕ) (o : Workspace) (k : Savepoint) (a : Space) → Stands p s → workspace_of s.spaces n ≡ Some o → savepoint_made making o.savepoints ≡ Some k → space_of p.spaces n ≡ Some a
    → Marked p n k a
marked_by p s n making o k a st is made recorded = by_record (saved_as p n making) refl
  where
    by_record : (x : Option Record) → saved_as p n making ≡ x → Marked p n k a
    by_record None none = absurd (none_some (savepoint_made making o.savepoints) k (made_none p s n o st is making none) made)
    by_record (Some x) found =
        let y = made_some p s n o st is making x found in
        let z = saved_there p st.rules n making x found in
        let fields : saved_fields x ≡ fields_saved k = y.2.fields ∙ ap fields_saved (same_Some y.0 k (sym y.1 ∙ made)) in
        let space : z.space ≡ a = same_Some z.space a (sym z.found ∙ recorded) in
        record {
          place = ap (λ (f : SavepointFields). nat_lt f.place a.next_place) (sym fields) ∙ ap (λ (b : Space). nat_lt x.place b.next_place) (sym space) ∙ z.place;
          log = ap (λ (f : SavepointFields). nat_le f.log_length a.log_length) (sym fields) ∙ ap (λ (b : Space). nat_le x.log_length b.log_length) (sym space) ∙ z.log;
        }

module _ (p q : Parts) (s t : Durable) (n : ℕ) (es : List Entry) (own : List Entry → List Entry) (l : IsLonger p q n es) (spaces : t.spaces ≡ with_space n (grown es own) s.spaces) (st : Stands p s) (tables : t.tables ≡ s.tables) where
  was : (m : ℕ) (new : Workspace) → workspace_of t.spaces m ≡ Some new → WasChanged n (grown es own) s.spaces m new
  was m new is = before p q s t n es own l spaces m new is

  -- the record of the workspace has its fields
  fields_here : (o : Workspace) → workspace_of s.spaces n ≡ Some o → fields_of l.old ≡ fields_in o
  fields_here o is = same_Some (fields_of l.old) (fields_in o) (sym (ap (option_map fields_of) l.old_is) ∙ st.spaces.same n ∙ ap (option_map fields_in) is)

  ready : KeepReady s.tables t.tables
  ready = KeepReady-same s.tables t.tables tables

  -- each entry is of a table of the state that is ready
  real_now : All (IsReal t.tables) es
  real_now = all_real-kept s.tables t.tables ready es (all_real-kept p.tables s.tables (KeepReady-stands p s st.tables) es l.real)

  -- ---- what they touch

  told_here : (o : Workspace) → workspace_of s.spaces n ≡ Some o → AreTold q.touches n (grown es own o)
  told_here o is = record {
    latest = tells_more n l.place o.next_place es o.lists.log p.touches q.touches touched (last o.next_place (sym (ap (λ (f : SpaceFields). f.next_place) fields) ∙ l.last)) (st.touches.latest n o is);
    kept = λ making k made.
        let m = marked_by p s n making o k l.old st is made l.old_is in
        subst (λ xs. TouchesTell q.touches n k.place xs)
        (sym (take-append-le k.log_length o.lists.log es (leb-true k.log_length (length o.lists.log) (ap (nat_le k.log_length) (sym (ap (λ (f : SpaceFields). f.log_length) fields)) ∙ m.log))))
        (tells_kept n l.place (length o.lists.log) k.place es (take k.log_length o.lists.log) p.touches q.touches touched (behind k.place l.old.next_place m.place l.last) (st.touches.kept n making o k is made));
  }
    where
      fields : fields_of l.old ≡ fields_in o
      fields = fields_here o is

      touched : Touched n l.place (length o.lists.log) es p.touches q.touches
      touched = subst (λ k. Touched n l.place k es p.touches q.touches) (ap (λ (f : SpaceFields). f.log_length) fields) l.touches

      last : (next : ℕ) → next ≡ l.place + 1 → nat_lt l.place next ≡ true
      last next same = grind (arith, same)

      behind : (place next : ℕ) → nat_lt place next ≡ true → next ≡ l.place + 1 → nat_lt l.place place ≡ false
      behind place next lt same = grind (arith, lt, same)

  TouchesStand-longer : TouchesStand q t
  TouchesStand-longer = TouchesStand-kept p q s t (λ m new is. by_how m new (was m new is)) st.touches
    where
      by_how : (m : ℕ) (new : Workspace) → WasChanged n (grown es own) s.spaces m new
          → (WasTouched s m new × ((below : ℕ) (log : List Entry) → TouchesTell p.touches m below log → TouchesTell q.touches m below log)) ⊎ AreTold q.touches m new
      by_how m new y = ⊎_elim
          (λ h. inr (subst (λ k. AreTold q.touches k new) (sym h.0) (subst (λ (v : Workspace). AreTold q.touches n v) (sym h.1) (told_here y.old (ap (workspace_of s.spaces) (sym h.0) ∙ y.is)))))
          (λ h. inl (
            record {
              old = y.old;
              is = y.is;
              log = ap (λ (v : Workspace). v.lists.log) h.1;
              place = ap (λ (v : Workspace). v.next_place) h.1;
              savepoints = ap (λ (v : Workspace). v.savepoints) h.1;
            },
            λ below log. tells_other n l.place l.old.log_length m below es log p.touches q.touches l.touches (ne_eqb m n h.0),
          ))
          y.how

  -- ---- the entries

  EntriesStand-longer : ((fs : List Entry) → All (IsReal t.tables) fs → All (IsReal t.tables) es → All (IsReal t.tables) (own fs)) → EntriesStand t
  EntriesStand-longer own_real = EntriesStand-kept t (λ m new is. by_how m new (was m new is))
    where
      real_here : (o : Workspace) → AreReal s.tables o → AreReal t.tables (grown es own o)
      real_here o r = record {
        log = All-append (IsReal t.tables) o.lists.log es (all_real-kept s.tables t.tables ready o.lists.log r.log) real_now;
        own = own_real o.lists.own (all_real-kept s.tables t.tables ready o.lists.own r.own) real_now;
        kept = λ making k made. all_real-kept s.tables t.tables ready k.own (r.kept making k made);
      }

      by_how : (m : ℕ) (new : Workspace) → WasChanged n (grown es own) s.spaces m new → AreReal t.tables new
      by_how m new y = ⊎_elim
          (λ h. subst (λ (v : Workspace). AreReal t.tables v) (sym h.1) (real_here y.old (entries_real s st.entries m y.old y.is)))
          (λ h. AreReal-same s.tables t.tables y.old new ready (ap (λ (v : Workspace). v.lists.log) h.1) (ap (λ (v : Workspace). v.lists.own) h.1) (ap (λ (v : Workspace). v.savepoints) h.1) (entries_real s st.entries m y.old y.is))
          y.how

  -- ---- the log that is longer

  now : (m : ℕ) → workspace_of t.spaces m ≡ cond (m == n) (option_map (grown es own) (workspace_of s.spaces m)) (workspace_of s.spaces m)
  now m = after p q s t n es own l spaces m

  -- the log of the workspace is longer
  record Longer : Type 0 where
    many : l.old.log_length ≡ length (log_of s.spaces n)
    here : log_of t.spaces n ≡ log_of s.spaces n ++ es

  longer : Longer
  longer = by_space (workspace_of s.spaces n) refl (sym (ap (option_map fields_of) l.old_is) ∙ st.spaces.same n)
    where
      by_space : (o : Option Workspace) → workspace_of s.spaces n ≡ o → Some (fields_of l.old) ≡ option_map fields_in o → Longer
      by_space None found e = absurd (none-some (fields_of l.old) (sym e))
      by_space (Some v) found e = record {
        many = ap (λ (f : SpaceFields). f.log_length) (fields_here v found) ∙ ap length (sym (log_of-found s.spaces n v found));
        here =
            log_of-found t.spaces n (grown es own v)
            (now n ∙ ap (λ b. cond b (option_map (grown es own) (workspace_of s.spaces n)) (workspace_of s.spaces n)) (eq-eqb n n refl) ∙ ap (option_map (grown es own)) found)
            ∙ ap (λ xs. xs ++ es) (sym (log_of-found s.spaces n v found));
      }

  -- and every other as it was
  away : (m : ℕ) → m ≢ n → log_of t.spaces m ≡ log_of s.spaces m
  away m other = log_of-same t.spaces s.spaces m (now m ∙ ap (λ b. cond b (option_map (grown es own) (workspace_of s.spaces m)) (workspace_of s.spaces m)) (ne_eqb _ _ other))

  -- ---- its records

  same_history : (table : ℕ) → has_history p.tables table ≡ has_history s.tables table
  same_history table = ap (λ (o : Option Table). option_map_or (λ (x : Table). x.history) o false) (sym (tables_found p s st.tables table))

  -- what the records of entries have, by the tables of the state
  hists_now : q.hists ≡ p.hists ++ hists_kept s.tables n (length (log_of s.spaces n)) es
  hists_now = l.hists ∙ ap (λ k. p.hists ++ hists_kept p.tables n k es) longer.many
      ∙ ap (λ xs. p.hists ++ xs) (hists_kept-alike p.tables s.tables same_history n (length (log_of s.spaces n)) es)

  HistsStand-longer : HistsStand q t
  HistsStand-longer = record { same = λ m i. ap (λ hs. option_map logged (hist_at hs m i)) hists_now ∙ by_number m i (cases_eq m n) ∙ ap (λ (ts : List Table). option_and_then (logged_in ts) (slice_get (log_of t.spaces m) i)) (sym tables) }
    where
      by_number : (m i : ℕ) → (m ≡ n) ⊎ (m ≢ n)
          → option_map logged (hist_at (p.hists ++ hists_kept s.tables n (length (log_of s.spaces n)) es) m i) ≡ option_and_then (logged_in s.tables) (slice_get (log_of t.spaces m) i)
      by_number m i (inl same) =
          subst (λ k. option_map logged (hist_at (p.hists ++ hists_kept s.tables n (length (log_of s.spaces n)) es) k i) ≡ option_and_then (logged_in s.tables) (slice_get (log_of t.spaces k) i)) (sym same)
          (logged-here s.tables n p.hists (log_of s.spaces n) es i (st.hists.same n i) ∙ ap (λ xs. option_and_then (logged_in s.tables) (slice_get xs i)) (sym longer.here))
      by_number m i (inr other) =
          logged-away s.tables n m (length (log_of s.spaces n)) p.hists es i (ne_eqb n m (λ same. other (sym same)))
          ∙ st.hists.same m i
          ∙ ap (λ xs. option_and_then (logged_in s.tables) (slice_get xs i)) (sym (away m other))

  -- ---- its rows

  -- each of the entries whose table keeps its history has its row
  rows_now : HaveRows q t.tables es
  rows_now k d lt history = l.rows k d lt (same_history (get_or es k d).table ∙ ap (λ (ts : List Table). has_history ts (get_or es k d).table) (sym tables) ∙ history)

  RowsStand-longer : RowsStand q t
  RowsStand-longer = record {
    logs = λ m. logs m (cases_eq m n);
    turns = turn_rows-kept p q s t l.rows_kept (part-changed turns_in n (grown es own) (λ v. refl) (λ v. refl) s.spaces t.spaces spaces) st.rows;
  }
    where
      still : (m : ℕ) → HaveRows q t.tables (log_of s.spaces m)
      still m = rows-kept p q s.tables t.tables l.rows_kept ready (log_of s.spaces m) (st.entries.logs m) (st.rows.logs m)

      logs : (m : ℕ) → (m ≡ n) ⊎ (m ≢ n) → HaveRows q t.tables (log_of t.spaces m)
      logs m (inl same) =
          subst (λ k. HaveRows q t.tables (log_of t.spaces k)) (sym same)
          (subst (λ xs. HaveRows q t.tables xs) (sym longer.here) (All-append (λ (e : Entry). has_history t.tables e.table ≡ true → HasRow q e) (log_of s.spaces n) es (still n) rows_now))
      logs m (inr other) = subst (λ xs. HaveRows q t.tables xs) (sym (away m other)) (still m)

  -- ---- the records

  -- they stand for the state, where what they name and what is own does
  pub Stands-longer : ((fs : List Entry) → All (IsReal t.tables) fs → All (IsReal t.tables) es → All (IsReal t.tables) (own fs)) → t.locks ≡ s.locks → CountersStand q t → keep_rules q ≡ true → NamedStand q t → OwnsStand q t → Stands q t
  Stands-longer own_real locks counters rules named owns = record {
    rules = rules;
    counters = counters;
    tables = fields.tables;
    spaces = fields.spaces;
    once = fields.once;
    savepoints = fields.savepoints;
    named = named;
    owns = owns;
    turns = TurnsStand-alike p q s t (ap (λ (z : Parts). z.turns) l.rest) (part-changed turns_in n (grown es own) (λ w. refl) (λ w. refl) s.spaces t.spaces spaces) st.turns;
    touches = TouchesStand-longer;
    marks = MarksStand-alike p q s t (ap (λ (z : Parts). z.marks) l.rest) (part-changed marks_in n (grown es own) (λ w. refl) (λ w. refl) s.spaces t.spaces spaces) st.marks;
    locks = LocksStand-same p q s t (ap (λ (z : Parts). z.locks) l.rest) locks st.locks;
    hists = HistsStand-longer;
    entries = EntriesStand-longer own_real;
    rows = RowsStand-longer;
  }
    where
      fields : FieldsStand q t
      fields = FieldsStand-longer p q s t n es own l spaces (fields_stand p s st) tables counters
