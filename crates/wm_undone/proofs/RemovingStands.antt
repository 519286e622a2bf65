-- The records without a workspace stand for the state without it.
use Rattle.std.proofs.Common.{◌≡◌, ◌≢◌, ℕ, ◌==◌, nat_lt, Bool, true, false, not, ◌&&◌, ◌||◌, List, [], Option, Some, None, refl, sym, ap, subst, ◌∙◌, ◌⊎◌, inl, inr}
use Rattle.std.proofs.lemmas.Bool.{cases_eq, eqb-true, and_parts}
use Rattle.std.proofs.lemmas.List.Elements.{All-nil, filter_agree}
use Rattle.std.specs.Bool.{then_some}
use Rattle.std.specs.List.{filter, slice_get}
use Rattle.std.specs.Option.{option_and_then, option_map}
use Rattle.wm_base.proofs.Plain.{nat_lt-zero}
use Rattle.wm_graph.specs.Parts.{Parts}
use Rattle.wm_graph.specs.Rules.{keep_rules}
use Rattle.wm_spec.specs.Lists.{Entry}
use Rattle.wm_spec.specs.declared.record.counters.Counters.{Counters}
use Rattle.wm_spec.specs.declared.record.hist.Hist.{Hist}
use Rattle.wm_spec.specs.declared.record.table.Table.{Table}
use Rattle.wm_spec.specs.declared.record.trace.Trace.{Trace}
use Rattle.wm_spec.specs.declared.record.turn.Turn.{Turn as TurnRecord}
use Rattle.wm_state.specs.State.{Durable, Workspace, log_of, turns_of, workspace_of}
use Rattle.wm_state.specs.Standing.{CountersStand, EntriesStand, FieldsStand, HistsStand, LocksStand, Logged, MarksStand, RowsStand, Stands, TouchesStand, TouchesTell, TurnsStand, has_history, hist_at, logged, logged_as, turn_at, turned, turned_in}
use Rattle.wm_state.proofs.Frames.{KeepRows, fields_stand}
use Rattle.wm_state.proofs.Keeping.{KeepRows-same}
use Rattle.wm_state.proofs.Logging.{HaveRows, log_of-none, log_of-same, rows-kept}
use Rattle.wm_state.proofs.Marking.{MarksStand-kept}
use Rattle.wm_state.proofs.Ready.{KeepReady, KeepReady-same}
use Rattle.wm_state.proofs.Staying.{AreReal-same, EntriesStand-kept, entries_real, turns_of-none}
use Rattle.wm_spec.specs.declared.record.lock.Lock.{Lock}
use Rattle.wm_state.specs.Editing.{unlocked_of}
use Rattle.wm_state.proofs.Locking.{locks-filter}
use Rattle.wm_undone.specs.Removing.{CanRemove, Thinned, is_other, without}
use Rattle.wm_undone.specs.Restoring.{stays_touched}
use Rattle.wm_undone.proofs.Marked.{marked-filter}
use Rattle.wm_undone.proofs.RemovingFields.{FieldsStand-thinned, found_away, found_before, found_none}
use Rattle.wm_undone.proofs.RemovingNamed.{NamedStand-thinned, OwnsStand-thinned}
use Rattle.wm_undone.proofs.RemovingRecords.{find_other, find_own, other_of, thinned}
use Rattle.wm_undone.proofs.RestoringTouches.{tells_beside}

-- a touch of another workspace is one that stays where all of the workspace's go
tells_others : (n m below : ℕ) (log : List Entry) (xs : List Trace) → m ≢ n → TouchesTell xs m below log → TouchesTell (filter (λ (x : Trace). is_other n x.space) xs) m below log
tells_others n m below log xs away tell =
    subst (λ ys. TouchesTell ys m below log) (filter_agree (stays_touched n 0 0) (λ (x : Trace). is_other n x.space) (λ x. none_left (x.space == n) x.place x.position) xs) (tells_beside n 0 0 m below log xs away tell)
  where
    none_left : (b : Bool) (place position : ℕ) → (not b || (nat_lt place 0 && nat_lt position 0)) ≡ not b
    none_left true place position = rw (nat_lt-zero place) refl
    none_left false place position = refl

-- the entry at a position, where its table keeps its history
abbrev logged_in : List Table → Option Entry → Option Logged
logged_in tables o = option_and_then (λ (e : Entry). then_some (has_history tables e.table) (logged_as e)) o

module _ (p : Parts) (s t : Durable) (n : ℕ) (counters : List Counters) (may : CanRemove p n) (rules : keep_rules p ≡ true) (spaces : t.spaces ≡ without n s.spaces) (tables : t.tables ≡ s.tables) where
  was : (m : ℕ) (w : Workspace) → workspace_of t.spaces m ≡ Some w → (m ≢ n) × (workspace_of s.spaces m ≡ Some w)
  was = found_before p s t n counters may rules spaces

  none : workspace_of t.spaces n ≡ None
  none = found_none p s t n counters may rules spaces

  ready : KeepReady s.tables t.tables
  ready = KeepReady-same s.tables t.tables tables

  -- ---- turns

  TurnsStand-removed : TurnsStand p s → TurnsStand (thinned p n counters) t
  TurnsStand-removed stand = record { counted = λ m w some is. stand.counted m w some (was m w is).1; same = λ m number. by_number m number (cases_eq m n) }
    where
      its : (m number : ℕ) (x : TurnRecord) → ((x.space == m) && (x.rebase == number)) ≡ true → x.space ≡ m
      its m number x e = eqb-true x.space m (and_parts (x.space == m) (x.rebase == number) e).0

      turns_of-same : (ws vs : List Workspace) (m : ℕ) → workspace_of ws m ≡ workspace_of vs m → turns_of ws m ≡ turns_of vs m
      turns_of-same ws vs m same = rw same refl

      by_number : (m number : ℕ) → (m ≡ n) ⊎ (m ≢ n) → option_map turned (turn_at (thinned p n counters).turns m number) ≡ option_map turned_in (slice_get (turns_of t.spaces m) number)
      by_number m number (inl here) =
          ap (λ i. option_map turned (turn_at (thinned p n counters).turns i number)) here
          ∙ ap (option_map turned) (find_own (λ (x : TurnRecord). x.space) n (λ (x : TurnRecord). (x.space == n) && (x.rebase == number)) (its n number) p.turns)
          ∙ ap (λ ts. option_map turned_in (slice_get ts number)) (sym (turns_of-none t.spaces n none))
          ∙ ap (λ i. option_map turned_in (slice_get (turns_of t.spaces i) number)) (sym here)
      by_number m number (inr away) =
          ap (option_map turned) (find_other (λ (x : TurnRecord). x.space) n m (λ (x : TurnRecord). (x.space == m) && (x.rebase == number)) (its m number) away p.turns)
          ∙ stand.same m number
          ∙ ap (λ ts. option_map turned_in (slice_get ts number)) (sym (turns_of-same t.spaces s.spaces m (found_away p s t n counters may rules spaces m away)))

  -- ---- touches, marks and locks

  TouchesStand-removed : TouchesStand p s → TouchesStand (thinned p n counters) t
  TouchesStand-removed stand = record {
    latest = λ m w is. let h = was m w is in tells_others n m _ _ p.touches h.0 (stand.latest m w h.1);
    kept = λ m making w k is made. let h = was m w is in tells_others n m _ _ p.touches h.0 (stand.kept m making w k h.1 made);
  }

  MarksStand-removed : MarksStand p s → MarksStand (thinned p n counters) t
  MarksStand-removed stand = MarksStand-kept p (thinned p n counters) s t (λ m w is.
      let h = was m w is in
      inl (
        record { old = w; is = h.1; same = refl },
        λ place c.
            marked-filter (λ (x : Trace). is_other n x.space) true m place (λ x at. other_of n x.space (λ same. h.0 (sym (eqb-true x.space m (and_parts (x.space == m) (x.place == place) at).0) ∙ same))) p.marks c,
      ))
      stand

  LocksStand-removed : t.locks ≡ unlocked_of n s.locks → LocksStand p s → LocksStand (thinned p n counters) t
  LocksStand-removed locks stand = record { same = locks-filter (λ (x : Lock). is_other n x.space) p.locks ∙ ap (unlocked_of n) stand.same ∙ sym locks }

  -- ---- logs

  log_away : (m : ℕ) → m ≢ n → log_of t.spaces m ≡ log_of s.spaces m
  log_away m away = log_of-same t.spaces s.spaces m (found_away p s t n counters may rules spaces m away)

  log_none : log_of t.spaces n ≡ []
  log_none = log_of-none t.spaces n none

  HistsStand-removed : HistsStand p s → HistsStand (thinned p n counters) t
  HistsStand-removed stand = record { same = λ m position. by_number m position (cases_eq m n) }
    where
      its : (m position : ℕ) (x : Hist) → ((x.space == m) && (x.position == position)) ≡ true → x.space ≡ m
      its m position x e = eqb-true x.space m (and_parts (x.space == m) (x.position == position) e).0

      by_number : (m position : ℕ) → (m ≡ n) ⊎ (m ≢ n) → option_map logged (hist_at (thinned p n counters).hists m position) ≡ logged_in t.tables (slice_get (log_of t.spaces m) position)
      by_number m position (inl here) =
          ap (λ i. option_map logged (hist_at (thinned p n counters).hists i position)) here
          ∙ ap (option_map logged) (find_own (λ (x : Hist). x.space) n (λ (x : Hist). (x.space == n) && (x.position == position)) (its n position) p.hists)
          ∙ ap (λ es. logged_in t.tables (slice_get es position)) (sym log_none)
          ∙ ap (λ i. logged_in t.tables (slice_get (log_of t.spaces i) position)) (sym here)
      by_number m position (inr away) =
          ap (option_map logged) (find_other (λ (x : Hist). x.space) n m (λ (x : Hist). (x.space == m) && (x.position == position)) (its m position) away p.hists)
          ∙ stand.same m position
          ∙ ap (λ ts. logged_in ts (slice_get (log_of s.spaces m) position)) (sym tables)
          ∙ ap (λ es. logged_in t.tables (slice_get es position)) (sym (log_away m away))

  -- ---- entries and rows

  EntriesStand-removed : EntriesStand s → EntriesStand t
  EntriesStand-removed stand = EntriesStand-kept t (λ m w is. AreReal-same s.tables t.tables w w ready refl refl refl (entries_real s stand m w (was m w is).1))

  RowsStand-removed : EntriesStand s → RowsStand p s → RowsStand (thinned p n counters) t
  RowsStand-removed entries stand = record { logs = λ m. by_number m (cases_eq m n); turns = λ m number w x is turn. stand.turns m number w x (was m w is).1 turn }
    where
      rows : KeepRows p (thinned p n counters)
      rows = KeepRows-same p (thinned p n counters) refl

      by_number : (m : ℕ) → (m ≡ n) ⊎ (m ≢ n) → HaveRows (thinned p n counters) t.tables (log_of t.spaces m)
      by_number m (inl here) = subst (λ es. HaveRows (thinned p n counters) t.tables es) (sym (ap (log_of t.spaces) here ∙ log_none)) (All-nil _)
      by_number m (inr away) =
          subst (λ es. HaveRows (thinned p n counters) t.tables es) (sym (log_away m away))
          (rows-kept p (thinned p n counters) s.tables t.tables rows ready (log_of s.spaces m) (entries.logs m) (stand.logs m))

  -- ---- all of it

  pub Stands-thinned : Stands p s → t.locks ≡ unlocked_of n s.locks → CountersStand (thinned p n counters) t → keep_rules (thinned p n counters) ≡ true → Stands (thinned p n counters) t
  Stands-thinned st locks counted kept = record {
    rules = kept;
    counters = counted;
    tables = fields.tables;
    spaces = fields.spaces;
    once = fields.once;
    savepoints = fields.savepoints;
    named = NamedStand-thinned p s t n counters may rules st.spaces spaces st.named;
    owns = OwnsStand-thinned p s t n counters may rules st.spaces spaces st.owns;
    turns = TurnsStand-removed st.turns;
    touches = TouchesStand-removed st.touches;
    marks = MarksStand-removed st.marks;
    locks = LocksStand-removed locks st.locks;
    hists = HistsStand-removed st.hists;
    entries = EntriesStand-removed st.entries;
    rows = RowsStand-removed st.entries st.rows;
  }
    where
      fields : FieldsStand (thinned p n counters) t
      fields = FieldsStand-thinned p s t n counters may rules spaces (fields_stand p s st) tables counted

-- ---- the records that a workspace is gone from are these

pub are_thinned : (p q : Parts) (n : ℕ) → Thinned p q n → thinned p n q.counters ≡ q
are_thinned p q n v = ap (λ (z : Parts). record z { counters = q.counters }) (sym v.rest)

pub FieldsStand-removed : (p q : Parts) (s t : Durable) (n : ℕ) → Thinned p q n → keep_rules p ≡ true → FieldsStand p s → t.spaces ≡ without n s.spaces → t.tables ≡ s.tables → CountersStand q t → FieldsStand q t
FieldsStand-removed p q s t n v rules st spaces tables counters =
    let same = are_thinned p q n v in
    subst (λ (z : Parts). FieldsStand z t) same (FieldsStand-thinned p s t n q.counters v.may rules spaces st tables (subst (λ (z : Parts). CountersStand z t) (sym same) counters))

pub Stands-removed : (p q : Parts) (s t : Durable) (n : ℕ) → Thinned p q n → Stands p s → t.spaces ≡ without n s.spaces → t.tables ≡ s.tables → t.locks ≡ unlocked_of n s.locks → CountersStand q t → keep_rules q ≡ true → Stands q t
Stands-removed p q s t n v st spaces tables locks counters rules =
    let same = are_thinned p q n v in
    subst (λ (z : Parts). Stands z t) same
    (Stands-thinned p s t n q.counters v.may st.rules spaces tables st locks (subst (λ (z : Parts). CountersStand z t) (sym same) counters) (ap keep_rules same ∙ rules))
