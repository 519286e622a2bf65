-- The logs of workspaces, their records and their rows: what is kept where logs are as they were.
use Rattle.std.proofs.Common.{◌≡◌, ◌==◌, ℕ, Bool, true, false, cond, List, [], Option, Some, None, refl, sym, ap, subst, ◌∙◌}
use Rattle.std.proofs.lemmas.Option.{slice_get_within, get_or_from_slice_get}
use Rattle.std.specs.Bool.{then_some}
use Rattle.std.specs.List.{All, slice_get}
use Rattle.std.specs.Option.{option_map, option_and_then}
use Rattle.wm_graph.specs.Parts.{Parts}
use Rattle.wm_spec.specs.Lists.{Entry}
use Rattle.wm_spec.specs.declared.record.table.Table.{Table}
use Rattle.wm_state.specs.State.{Durable, Workspace, workspace_of, with_space, log_of}
use Rattle.wm_state.specs.Standing.{EntriesStand, HasRow, HistsStand, IsReal, has_history, logged, logged_as, hist_at}
use Rattle.wm_state.proofs.Changing.{workspace_of-changed}
use Rattle.wm_state.proofs.Frames.{KeepRows, row-kept}
use Rattle.wm_state.proofs.Ready.{KeepReady}

-- ---- logs that are as they were

pub log_of-found : (ws : List Workspace) (n : ℕ) (w : Workspace) → workspace_of ws n ≡ Some w → log_of ws n ≡ w.lists.log
log_of-found ws n w found = rw found refl

pub log_of-none : (ws : List Workspace) (n : ℕ) → workspace_of ws n ≡ None → log_of ws n ≡ []
log_of-none ws n none = rw none refl

pub log_of-same : (ws vs : List Workspace) (n : ℕ) → workspace_of ws n ≡ workspace_of vs n → log_of ws n ≡ log_of vs n
log_of-same ws vs n same = by_old (workspace_of vs n) refl
  where
    by_old : (o : Option Workspace) → workspace_of vs n ≡ o → log_of ws n ≡ log_of vs n
    by_old None is = log_of-none ws n (same ∙ is) ∙ sym (log_of-none vs n is)
    by_old (Some w) is = log_of-found ws n w (same ∙ is) ∙ sym (log_of-found vs n w is)

-- where a workspace was changed, but for its log
pub log_of-changed : (n : ℕ) (act : Workspace → Workspace) → ((w : Workspace) → (act w).number ≡ w.number) → ((w : Workspace) → (act w).lists.log ≡ w.lists.log) → (ws : List Workspace) (m : ℕ)
    → log_of (with_space n act ws) m ≡ log_of ws m
log_of-changed n act same kept ws m = by_test (m == n) (workspace_of ws m) refl (workspace_of-changed n act same ws m)
  where
    by_test : (b : Bool) (o : Option Workspace) → workspace_of ws m ≡ o → workspace_of (with_space n act ws) m ≡ cond b (option_map act o) o → log_of (with_space n act ws) m ≡ log_of ws m
    by_test true None found after = log_of-none (with_space n act ws) m after ∙ sym (log_of-none ws m found)
    by_test false None found after = log_of-none (with_space n act ws) m after ∙ sym (log_of-none ws m found)
    by_test true (Some w) found after = log_of-found (with_space n act ws) m (act w) after ∙ kept w ∙ sym (log_of-found ws m w found)
    by_test false (Some w) found after = log_of-found (with_space n act ws) m w after ∙ sym (log_of-found ws m w found)

-- ---- records of entries

-- what all entries are, one at a position is
pub all_at : {A : Type 0} (P : A → Type 0) (xs : List A) (i : ℕ) (x : A) → All P xs → slice_get xs i ≡ Some x → P x
all_at P xs i x all is = subst P (get_or_from_slice_get xs i x x is) (all i x (slice_get_within xs i x is))

-- where tables stay ready, the entries of a log have records where they had them
pub HistsStand-frame : (p q : Parts) (s t : Durable) → q.hists ≡ p.hists → ((n : ℕ) → log_of t.spaces n ≡ log_of s.spaces n) → KeepReady s.tables t.tables → EntriesStand s → HistsStand p s → HistsStand q t
HistsStand-frame p q s t hists logs keep entries stand = record {
  same = λ n position.
      ap (λ hs. option_map logged (hist_at hs n position)) hists
      ∙ stand.same n position
      ∙ by_entry n position (slice_get (log_of s.spaces n) position) refl
      ∙ ap (λ es. option_and_then (λ (e : Entry). then_some (has_history t.tables e.table) (logged_as e)) (slice_get es position)) (sym (logs n));
}
  where
    by_entry : (n position : ℕ) (o : Option Entry) → slice_get (log_of s.spaces n) position ≡ o
        → option_and_then (λ (e : Entry). then_some (has_history s.tables e.table) (logged_as e)) o ≡ option_and_then (λ (e : Entry). then_some (has_history t.tables e.table) (logged_as e)) o
    by_entry n position None is = refl
    by_entry n position (Some e) is = ap (λ b. then_some b (logged_as e)) (sym (keep.history e.table (all_at (IsReal s.tables) (log_of s.spaces n) position e (entries.logs n) is).on))

-- ---- rows of entries

-- the entries of tables with history have their rows
abbrev pub HaveRows : Parts → List Table → List Entry → Type 0
HaveRows p tables es = All (λ (e : Entry). has_history tables e.table ≡ true → HasRow p e) es

-- so do they still
pub rows-kept : (p q : Parts) (was now : List Table) → KeepRows p q → KeepReady was now → (es : List Entry) → All (IsReal was) es → HaveRows p was es → HaveRows q now es
rows-kept p q was now keep ready es real has k d lt history row is = row-kept p q keep _ row (has k d lt (sym (ready.history _ (real k d lt).on) ∙ history) row is)

pub logs-kept : (p q : Parts) (s t : Durable) → KeepRows p q → KeepReady s.tables t.tables → ((n : ℕ) → log_of t.spaces n ≡ log_of s.spaces n) → EntriesStand s
    → ((n : ℕ) → HaveRows p s.tables (log_of s.spaces n)) → (n : ℕ) → HaveRows q t.tables (log_of t.spaces n)
logs-kept p q s t keep ready logs entries has n = subst (λ es. HaveRows q t.tables es) (sym (logs n)) (rows-kept p q s.tables t.tables keep ready (log_of s.spaces n) (entries.logs n) (has n))
