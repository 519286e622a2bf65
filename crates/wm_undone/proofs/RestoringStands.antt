-- The records of a workspace that went back to a savepoint stand for the state in which it did.
use Rattle.std.proofs.Common.{◌≡◌, ◌≢◌, ℕ, ◌≤◌, ◌==◌, nat_lt, nat_le, min, Bool, true, false, not, ◌&&◌, ◌||◌, cond, List, length, take, Option, Some, None, refl, sym, ap, subst, ◌∙◌, ◌⊎◌, inl, inr, arith, le_refl}
use Rattle.std.proofs.lemmas.Bool.{cases_eq, eqb-true, ne_eqb, and_parts, leb-true, or_right}
use Rattle.std.proofs.lemmas.List.{length-take}
use Rattle.std.proofs.lemmas.List.Elements.{All-take}
use Rattle.std.specs.Bool.{then_some}
use Rattle.std.specs.List.{All, filter, slice_get}
use Rattle.std.specs.Option.{option_and_then, option_map}
use Rattle.wm_graph.specs.Parts.{Parts}
use Rattle.wm_graph.specs.Rules.{keep_rules}
use Rattle.wm_spec.specs.Lists.{Entry}
use Rattle.wm_spec.specs.declared.record.hist.Hist.{Hist}
use Rattle.wm_spec.specs.declared.record.savepoint.Savepoint.{Savepoint as Record}
use Rattle.wm_spec.specs.declared.record.space.Space.{Space}
use Rattle.wm_spec.specs.declared.record.table.Table.{Table}
use Rattle.wm_state.specs.State.{Durable, Workspace, Savepoint, workspace_of, with_space, savepoint_made, log_of}
use Rattle.wm_state.specs.Standing.{SavepointFields, CountersStand, SpacesStand, SavepointsStand, FieldsStand, Stands, TouchesTell, TouchesStand, HasRow, HistsStand, IsReal, EntriesStand, LocksStand, Logged, MarksStand, RowsStand, locks_by_making, has_history, hist_at, logged, logged_as, marked_at}
use Rattle.wm_state.proofs.Frames.{KeepRows, fields_stand}
use Rattle.wm_state.proofs.Keeping.{KeepRows-same}
use Rattle.wm_state.proofs.Logging.{HaveRows, log_of-found, log_of-same, rows-kept}
use Rattle.wm_state.proofs.Ready.{KeepReady, KeepReady-same, all_real-kept}
use Rattle.wm_state.proofs.Staying.{AreReal, EntriesStand-kept, SameTurns, TurnsStand-alike, entries_real, part-changed, turn_rows-kept, turns_in, WasTold}
use Rattle.wm_state.proofs.Locking.{locks-filter}
use Rattle.wm_state.proofs.Marking.{AreMarked, MarksStand-kept, SayMarked, marks_in}
use Rattle.wm_forked.proofs.Placed.{Tell-as}
use Rattle.wm_undone.specs.Restoring.{GoesBack, RestoredTo, restored, stays_held, stays_logged, stays_marked, stays_touched}
use Rattle.wm_undone.proofs.Marked.{marked_back, marked_beside}
use Rattle.wm_undone.proofs.RestoringFields.{FieldsStand-restored, WasMade, WasRestored, before, found_away, found_here, its_fields, its_log, made_before, old_here, place_within}
use Rattle.wm_undone.proofs.RestoringLists.{find-gone, find-left, slice_get-take, take-take}
use Rattle.wm_undone.proofs.RestoringNamed.{NamedStand-restored, OwnsStand-restored}
use Rattle.wm_undone.proofs.RestoringTouches.{tells_back, tells_beside, tells_left, touches_there}

-- a front has as many as it says, or fewer
front_within : (many most : ℕ) (es : List Entry) → many ≤ most → length (take many es) ≤ most
front_within many most es le = least (length (take many es)) many (length es) most (length-take many es) le
  where
    least : (i j l m : ℕ) → i ≡ min j l → j ≤ m → i ≤ m
    least i j l m same le = omega (arith, same, le)

-- the entry at a position, where its table keeps its history
abbrev logged_in : List Table → Option Entry → Option Logged
logged_in tables o = option_and_then (λ (e : Entry). then_some (has_history tables e.table) (logged_as e)) o

module _ (p q : Parts) (s t : Durable) (n number making : ℕ) (a : Space) (w : Workspace) (k : Savepoint) (x : Record) (v : RestoredTo p q n number a x) (g : GoesBack p s n making w k x) (rules : keep_rules p ≡ true) (there : SpacesStand p s)
    (saves : SavepointsStand p s) (spaces : t.spaces ≡ with_space n (restored k) s.spaces) where
  was : (m : ℕ) (new : Workspace) → workspace_of t.spaces m ≡ Some new → WasRestored n k s.spaces m new
  was m new is = before p q s t n number making a w k x v g rules there saves spaces m new is

  was_made : (m at : ℕ) (new : Workspace) (j : Savepoint) → workspace_of t.spaces m ≡ Some new → savepoint_made at new.savepoints ≡ Some j → WasMade n k s.spaces m at new j
  was_made m at new j is made = made_before p q s t n number making a w k x v g rules there saves spaces m at new j is made

  it : (m : ℕ) (old : Workspace) → workspace_of s.spaces m ≡ Some old → m ≡ n → old ≡ w
  it m old is here = old_here p q s t n number making a w k x v g rules there saves spaces m old is here

  -- ---- logs

  log_here : log_of t.spaces n ≡ take k.log_length w.lists.log
  log_here = log_of-found t.spaces n (restored k w) (found_here p q s t n number making a w k x v g rules there saves spaces)

  log_away : (m : ℕ) → m ≢ n → log_of t.spaces m ≡ log_of s.spaces m
  log_away m away = log_of-same t.spaces s.spaces m (found_away p q s t n number making a w k x v g rules there saves spaces m away)

  -- the log of a workspace that went back is the front of what it was
  log_back : (m : ℕ) (new : Workspace) → (y : WasRestored n k s.spaces m new) → m ≡ n → new ≡ restored k y.old → new.lists.log ≡ take k.log_length w.lists.log
  log_back m new y here same = ap (λ (o : Workspace). o.lists.log) same ∙ ap (λ (o : Workspace). take k.log_length o.lists.log) (it m y.old y.is here)

  -- ---- touches

  touches_are : q.touches ≡ filter (stays_touched n k.place k.log_length) p.touches
  touches_are = v.touches ∙ ap (λ (f : SavepointFields). filter (stays_touched n f.place f.log_length) p.touches) (its_fields p q s t n number making a w k x v g rules there saves spaces)

  left : (m below : ℕ) (log : List Entry) → TouchesTell (filter (stays_touched n k.place k.log_length) p.touches) m below log → TouchesTell q.touches m below log
  left m below log tell = subst (λ xs. TouchesTell xs m below log) (sym touches_are) tell

  told_latest : TouchesStand p s → TouchesTell q.touches n w.next_place (take k.log_length w.lists.log)
  told_latest touches = left n w.next_place (take k.log_length w.lists.log)
      (tells_back n k.place k.log_length w.next_place (take k.log_length w.lists.log) p.touches (touches_there p rules) (place_within p q s t n number making a w k x v g rules there saves spaces)
      (front_within k.log_length k.log_length w.lists.log (le_refl k.log_length)) (touches.kept n making w k g.found g.made))

  told_kept : TouchesStand p s → (at : ℕ) (j : Savepoint) → savepoint_made at w.savepoints ≡ Some j → (nat_le j.place k.place && nat_le j.log_length k.log_length) ≡ true
      → TouchesTell q.touches n j.place (take j.log_length (take k.log_length w.lists.log))
  told_kept touches at j made stays =
      let h = and_parts (nat_le j.place k.place) (nat_le j.log_length k.log_length) stays in
      left n j.place (take j.log_length (take k.log_length w.lists.log))
      (Tell-as (filter (stays_touched n k.place k.log_length) p.touches) _ _ _ _ _ _ refl refl (take-take j.log_length k.log_length h.1 w.lists.log)
      (tells_left n k.place k.log_length j.place (take j.log_length w.lists.log) p.touches (touches_there p rules) (leb-true j.place k.place h.0)
      (front_within j.log_length k.log_length w.lists.log (leb-true j.log_length k.log_length h.1)) (touches.kept n at w j g.found made)))

  TouchesStand-restored : TouchesStand p s → TouchesStand q t
  TouchesStand-restored touches = record { latest = λ m new is. latest m new (was m new is); kept = λ m at new j is made. at_point m at new j (was_made m at new j is made) }
    where
      beside : (m below : ℕ) (log : List Entry) → m ≢ n → TouchesTell p.touches m below log → TouchesTell q.touches m below log
      beside m below log away tell = left m below log (tells_beside n k.place k.log_length m below log p.touches away tell)

      latest : (m : ℕ) (new : Workspace) → WasRestored n k s.spaces m new → TouchesTell q.touches m new.next_place new.lists.log
      latest m new y = by_case y.how
        where
          by_case : ((m ≡ n) × (new ≡ restored k y.old)) ⊎ ((m ≢ n) × (new ≡ y.old)) → TouchesTell q.touches m new.next_place new.lists.log
          by_case (inl h) = Tell-as q.touches _ _ _ _ _ _ h.0 (ap (λ (o : Workspace). o.next_place) h.1 ∙ ap (λ (o : Workspace). o.next_place) (it m y.old y.is h.0)) (log_back m new y h.0 h.1) (told_latest touches)
          by_case (inr h) = beside m new.next_place new.lists.log h.0 (subst (λ (o : Workspace). TouchesTell p.touches m o.next_place o.lists.log) (sym h.1) (touches.latest m y.old y.is))

      at_point : (m at : ℕ) (new : Workspace) (j : Savepoint) → WasMade n k s.spaces m at new j → TouchesTell q.touches m j.place (take j.log_length new.lists.log)
      at_point m at new j z = by_case z.was.how
        where
          by_case : ((m ≡ n) × (new ≡ restored k z.was.old)) ⊎ ((m ≢ n) × (new ≡ z.was.old)) → TouchesTell q.touches m j.place (take j.log_length new.lists.log)
          by_case (inl h) = Tell-as q.touches _ _ _ _ _ _ h.0 refl (ap (take j.log_length) (log_back m new z.was h.0 h.1))
              (told_kept touches at j (ap (λ (o : Workspace). savepoint_made at o.savepoints) (sym (it m z.was.old z.was.is h.0)) ∙ z.made) (z.stays h.0))
          by_case (inr h) = beside m j.place (take j.log_length new.lists.log) h.0 (subst (λ (o : Workspace). TouchesTell p.touches m j.place (take j.log_length o.lists.log)) (sym h.1) (touches.kept m at z.was.old j z.was.is z.made))

  -- ---- marks

  MarksStand-restored : MarksStand p s → MarksStand q t
  MarksStand-restored marks = MarksStand-kept p q s t (λ m new is. by_case m new (was m new is)) marks
    where
      marks_are : q.marks ≡ filter (stays_marked n k.place) p.marks
      marks_are = v.marks ∙ ap (λ (f : SavepointFields). filter (stays_marked n f.place) p.marks) (its_fields p q s t n number making a w k x v g rules there saves spaces)

      by_case : (m : ℕ) (new : Workspace) → WasRestored n k s.spaces m new → (WasTold marks_in s.spaces m new × SayMarked p.marks q.marks m) ⊎ AreMarked q.marks m new
      by_case m new y = by_how y.how
        where
          by_how : ((m ≡ n) × (new ≡ restored k y.old)) ⊎ ((m ≢ n) × (new ≡ y.old)) → (WasTold marks_in s.spaces m new × SayMarked p.marks q.marks m) ⊎ AreMarked q.marks m new
          by_how (inl h) = inr (rw (marks_are, h.0, h.1, it m y.old y.is h.0) (marked_back n k w p s g.found marks))
          by_how (inr h) = inl (record { old = y.old; is = y.is; same = ap marks_in h.1 }, λ place c. ap (λ xs. marked_at xs m place c) marks_are ∙ marked_beside n k.place m p.marks h.0 place c)

  -- ---- locks

  pub LocksStand-restored : t.locks ≡ filter (stays_held n k.place) s.locks → LocksStand p s → LocksStand q t
  LocksStand-restored locks stand = record {
    same =
        ap locks_by_making (v.locks ∙ ap (λ (f : SavepointFields). filter (stays_held n f.place) p.locks) (its_fields p q s t n number making a w k x v g rules there saves spaces))
        ∙ locks-filter (stays_held n k.place) p.locks
        ∙ ap (filter (stays_held n k.place)) stand.same
        ∙ sym locks;
  }

  -- ---- records of entries

  hists_are : q.hists ≡ filter (stays_logged n k.log_length) p.hists
  hists_are = v.hists ∙ ap (λ i. filter (stays_logged n i) p.hists) (its_log p q s t n number making a w k x v g rules there saves spaces)

  -- a record of another workspace stays, and one of this where its position does
  stays_of : (m position : ℕ) → ((m ≡ n) × (nat_lt position k.log_length ≡ true)) ⊎ (m ≢ n) → (y : Hist) → ((y.space == m) && (y.position == position)) ≡ true → stays_logged n k.log_length y ≡ true
  stays_of m position (inl h) y is =
      or_right (not (y.space == n)) (nat_lt y.position k.log_length) (ap (λ i. nat_lt i k.log_length) (eqb-true y.position position (and_parts (y.space == m) (y.position == position) is).1) ∙ h.1)
  stays_of m position (inr away) y is = ap (λ b. not b || nat_lt y.position k.log_length) (ne_eqb y.space n (λ same. away (sym (eqb-true y.space m (and_parts (y.space == m) (y.position == position) is).0) ∙ same)))

  goes_of : (position : ℕ) → nat_lt position k.log_length ≡ false → (y : Hist) → ((y.space == n) && (y.position == position)) ≡ true → stays_logged n k.log_length y ≡ false
  goes_of position past y is =
      let h = and_parts (y.space == n) (y.position == position) is in
      ap (λ b. not b || nat_lt y.position k.log_length) h.0 ∙ ap (λ i. nat_lt i k.log_length) (eqb-true y.position position h.1) ∙ past

  HistsStand-restored : t.tables ≡ s.tables → HistsStand p s → HistsStand q t
  HistsStand-restored tables hists = record { same = λ m position. ap (λ xs. option_map logged (hist_at xs m position)) hists_are ∙ by_number m position (cases_eq m n) }
    where
      same_tables : (o : Option Entry) → logged_in s.tables o ≡ logged_in t.tables o
      same_tables o = ap (λ ts. logged_in ts o) (sym tables)

      here : (position : ℕ) (b : Bool) → nat_lt position k.log_length ≡ b → option_map logged (hist_at (filter (stays_logged n k.log_length) p.hists) n position) ≡ logged_in t.tables (cond b (slice_get w.lists.log position) None)
      here position true lt =
          ap (option_map logged) (find-left (stays_logged n k.log_length) (λ (y : Hist). (y.space == n) && (y.position == position)) (stays_of n position (inl (refl, lt))) p.hists)
          ∙ hists.same n position
          ∙ same_tables (slice_get (log_of s.spaces n) position)
          ∙ ap (λ es. logged_in t.tables (slice_get es position)) (log_of-found s.spaces n w g.found)
      here position false past = ap (option_map logged) (find-gone (stays_logged n k.log_length) (λ (y : Hist). (y.space == n) && (y.position == position)) (goes_of position past) p.hists)

      by_number : (m position : ℕ) → (m ≡ n) ⊎ (m ≢ n) → option_map logged (hist_at (filter (stays_logged n k.log_length) p.hists) m position) ≡ logged_in t.tables (slice_get (log_of t.spaces m) position)
      by_number m position (inl same) =
          ap (λ i. option_map logged (hist_at (filter (stays_logged n k.log_length) p.hists) i position)) same
          ∙ here position (nat_lt position k.log_length) refl
          ∙ ap (logged_in t.tables) (sym (slice_get-take k.log_length w.lists.log position))
          ∙ ap (λ es. logged_in t.tables (slice_get es position)) (sym log_here)
          ∙ ap (λ i. logged_in t.tables (slice_get (log_of t.spaces i) position)) (sym same)
      by_number m position (inr away) =
          ap (option_map logged) (find-left (stays_logged n k.log_length) (λ (y : Hist). (y.space == m) && (y.position == position)) (stays_of m position (inr away)) p.hists)
          ∙ hists.same m position
          ∙ same_tables (slice_get (log_of s.spaces m) position)
          ∙ ap (λ es. logged_in t.tables (slice_get es position)) (sym (log_away m away))

  -- ---- entries and rows

  EntriesStand-restored : KeepReady s.tables t.tables → EntriesStand s → EntriesStand t
  EntriesStand-restored ready entries = EntriesStand-kept t (λ m new is. each m new is (was m new is))
    where
      real : (es fs : List Entry) → es ≡ fs → All (IsReal s.tables) fs → All (IsReal t.tables) es
      real es fs same all = subst (λ xs. All (IsReal t.tables) xs) (sym same) (all_real-kept s.tables t.tables ready fs all)

      each : (m : ℕ) (new : Workspace) → workspace_of t.spaces m ≡ Some new → WasRestored n k s.spaces m new → AreReal t.tables new
      each m new is y = by_case y.how
        where
          old : AreReal s.tables y.old
          old = entries_real s entries m y.old y.is

          points : (at : ℕ) (j : Savepoint) → savepoint_made at new.savepoints ≡ Some j → All (IsReal t.tables) j.own
          points at j made = let z = was_made m at new j is made in real j.own j.own refl (entries.kept m at z.was.old j z.was.is z.made)

          by_case : ((m ≡ n) × (new ≡ restored k y.old)) ⊎ ((m ≢ n) × (new ≡ y.old)) → AreReal t.tables new
          by_case (inl h) = record {
            log = real new.lists.log (take k.log_length y.old.lists.log) (ap (λ (o : Workspace). o.lists.log) h.1) (All-take (IsReal s.tables) k.log_length y.old.lists.log old.log);
            own = real new.lists.own k.own (ap (λ (o : Workspace). o.lists.own) h.1) (entries.kept n making w k g.found g.made);
            kept = points;
          }
          by_case (inr h) = record {
            log = real new.lists.log y.old.lists.log (ap (λ (o : Workspace). o.lists.log) h.1) old.log;
            own = real new.lists.own y.old.lists.own (ap (λ (o : Workspace). o.lists.own) h.1) old.own;
            kept = points;
          }

  alike : SameTurns s.spaces t.spaces
  alike = part-changed turns_in n (restored k) (λ o. refl) (λ o. refl) s.spaces t.spaces spaces

  keep_rows : KeepRows p q
  keep_rows = KeepRows-same p q (ap (λ (z : Parts). z.rows) v.rest)

  RowsStand-restored : KeepReady s.tables t.tables → EntriesStand s → RowsStand p s → RowsStand q t
  RowsStand-restored ready entries stand = record { logs = λ m. by_number m (cases_eq m n); turns = turn_rows-kept p q s t keep_rows alike stand }
    where
      -- the rows of the front of a log stand still
      fronts : (es : List Entry) → All (IsReal s.tables) es → HaveRows p s.tables es → HaveRows q t.tables es
      fronts es real has = rows-kept p q s.tables t.tables keep_rows ready es real has

      by_number : (m : ℕ) → (m ≡ n) ⊎ (m ≢ n) → HaveRows q t.tables (log_of t.spaces m)
      by_number m (inl same) =
          subst (λ es. HaveRows q t.tables es) (sym (ap (log_of t.spaces) same ∙ log_here ∙ ap (take k.log_length) (sym (log_of-found s.spaces n w g.found))))
          (fronts (take k.log_length (log_of s.spaces n)) (All-take (IsReal s.tables) k.log_length (log_of s.spaces n) (entries.logs n))
          (All-take (λ (e : Entry). has_history s.tables e.table ≡ true → HasRow p e) k.log_length (log_of s.spaces n) (stand.logs n)))
      by_number m (inr away) = subst (λ es. HaveRows q t.tables es) (sym (log_away m away)) (fronts (log_of s.spaces m) (entries.logs m) (stand.logs m))

-- ---- the records stand for the state that was gone back to

pub Stands-restored : (p q : Parts) (s t : Durable) (n number making : ℕ) (a : Space) (w : Workspace) (k : Savepoint) (x : Record) → RestoredTo p q n number a x → Stands p s → GoesBack p s n making w k x
    → t.spaces ≡ with_space n (restored k) s.spaces → t.tables ≡ s.tables → t.locks ≡ filter (stays_held n k.place) s.locks → CountersStand q t → keep_rules q ≡ true → Stands q t
Stands-restored p q s t n number making a w k x v st g spaces tables locks counters rules = record {
  rules = rules;
  counters = counters;
  tables = fields.tables;
  spaces = fields.spaces;
  once = fields.once;
  savepoints = fields.savepoints;
  named = NamedStand-restored p q s t n number making a w k x v g st.rules st.spaces st.savepoints spaces st.named;
  owns = OwnsStand-restored p q s t n number making a w k x v g st.rules st.spaces st.savepoints spaces st.owns;
  turns = TurnsStand-alike p q s t (ap (λ (z : Parts). z.turns) v.rest) (alike p q s t n number making a w k x v g st.rules st.spaces st.savepoints spaces) st.turns;
  touches = TouchesStand-restored p q s t n number making a w k x v g st.rules st.spaces st.savepoints spaces st.touches;
  marks = MarksStand-restored p q s t n number making a w k x v g st.rules st.spaces st.savepoints spaces st.marks;
  locks = LocksStand-restored p q s t n number making a w k x v g st.rules st.spaces st.savepoints spaces locks st.locks;
  hists = HistsStand-restored p q s t n number making a w k x v g st.rules st.spaces st.savepoints spaces tables st.hists;
  entries = EntriesStand-restored p q s t n number making a w k x v g st.rules st.spaces st.savepoints spaces ready st.entries;
  rows = RowsStand-restored p q s t n number making a w k x v g st.rules st.spaces st.savepoints spaces ready st.entries st.rows;
}
  where
    fields : FieldsStand q t
    fields = FieldsStand-restored p q s t n number making a w k x v g st.rules (fields_stand p s st) spaces tables counters

    ready : KeepReady s.tables t.tables
    ready = KeepReady-same s.tables t.tables tables
