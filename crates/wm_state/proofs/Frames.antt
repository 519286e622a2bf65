-- What is kept of workspaces, savepoints and rows where each thing that is looked up is as it was before: OnceStand-frame and
-- SavepointsStand-frame, with the cases in which one workspace was changed, or none. The module Naming has the law on versions that are named,
-- Staying those on turns, touches, logs and entries, and Keeping those on the rules.
use Rattle.std.proofs.Common.{◌≡◌, ℕ, ◌==◌, Bool, true, false, cond, List, [], map, length, Option, Some, None, refl, sym, ap, ◌∙◌, ◌⊎◌, inl, ⊎_elim}
use Rattle.std.specs.List.{filter}
use Rattle.std.specs.Option.{option_map}
use Rattle.wm_base.specs.declared.row.Row.{Row}
use Rattle.wm_graph.specs.Parts.{Parts, row_of}
use Rattle.wm_graph.specs.Rules.{differ}
use Rattle.wm_spec.specs.Lists.{Entry}
use Rattle.wm_spec.specs.declared.record.row.RowRecord.{RowRecord}
use Rattle.wm_spec.specs.declared.record.savepoint.Savepoint.{Savepoint as Record}
use Rattle.wm_state.specs.State.{Durable, Workspace, workspace_of, with_space, savepoints_of}
use Rattle.wm_state.specs.Standing.{FieldsStand, Stands, saved_fields, fields_saved, by_making, saved_in, OnceStand, SavepointsStand, HasRows}
use Rattle.wm_state.proofs.Changing.{length-changed, differ-changed, workspace_of-changed}

-- ---- counters, tables, workspaces and savepoints

-- records agree with a state that they stand for
pub fields_stand : (p : Parts) (s : Durable) → Stands p s → FieldsStand p s
fields_stand p s st = record { counters = st.counters; tables = st.tables; spaces = st.spaces; once = st.once; savepoints = st.savepoints }

-- ---- workspaces and what they show

-- the workspaces have the numbers that they had, and there are as many of them and of records as before
pub record Counted (p q : Parts) (s t : Durable) : Type 0 where
  pub numbers : differ (λ (v w : Workspace). v.number == w.number) t.spaces ≡ differ (λ (v w : Workspace). v.number == w.number) s.spaces
  pub there : length t.spaces ≡ length s.spaces
  pub recorded : length q.spaces ≡ length p.spaces

OnceStand-frame : (p q : Parts) (s t : Durable) → Counted p q s t → OnceStand p s → OnceStand q t
OnceStand-frame p q s t f stand = record { numbers = f.numbers ∙ stand.numbers; count = f.recorded ∙ stand.count ∙ sym f.there }

-- where one workspace was changed
pub OnceStand-changed : (p q : Parts) (s t : Durable) (n : ℕ) (act : Workspace → Workspace) → ((w : Workspace) → (act w).number ≡ w.number) → t.spaces ≡ with_space n act s.spaces → length q.spaces ≡ length p.spaces
    → OnceStand p s → OnceStand q t
OnceStand-changed p q s t n act same spaces recorded = OnceStand-frame p q s t (record {
  numbers = ap (differ (λ (v w : Workspace). v.number == w.number)) spaces ∙ differ-changed n act same s.spaces;
  there = ap length spaces ∙ length-changed n act s.spaces;
  recorded = recorded;
})

-- where the workspaces and their records are those of before
pub OnceStand-same : (p q : Parts) (s t : Durable) → q.spaces ≡ p.spaces → t.spaces ≡ s.spaces → OnceStand p s → OnceStand q t
OnceStand-same p q s t recorded same =
    OnceStand-frame p q s t (record { numbers = ap (differ (λ (v w : Workspace). v.number == w.number)) same; there = ap length same; recorded = ap length recorded })

-- ---- savepoints

-- the savepoints of a number are those of its workspace
pub savepoints_of-found : (ws : List Workspace) (n : ℕ) (w : Workspace) → workspace_of ws n ≡ Some w → savepoints_of ws n ≡ w.savepoints
savepoints_of-found ws n w found = rw found refl

pub savepoints_of-none : (ws : List Workspace) (n : ℕ) → workspace_of ws n ≡ None → savepoints_of ws n ≡ []
savepoints_of-none ws n none = rw none refl

-- where a workspace was changed, but for its savepoints
pub savepoints_of-changed : (n : ℕ) (act : Workspace → Workspace) → ((w : Workspace) → (act w).number ≡ w.number) → ((w : Workspace) → (act w).savepoints ≡ w.savepoints) → (ws : List Workspace) (m : ℕ)
    → savepoints_of (with_space n act ws) m ≡ savepoints_of ws m
savepoints_of-changed n act same kept ws m = by_test (m == n) (workspace_of ws m) refl (workspace_of-changed n act same ws m)
  where
    by_test : (b : Bool) (o : Option Workspace) → workspace_of ws m ≡ o → workspace_of (with_space n act ws) m ≡ cond b (option_map act o) o → savepoints_of (with_space n act ws) m ≡ savepoints_of ws m
    by_test true None found after = savepoints_of-none (with_space n act ws) m after ∙ sym (savepoints_of-none ws m found)
    by_test false None found after = savepoints_of-none (with_space n act ws) m after ∙ sym (savepoints_of-none ws m found)
    by_test true (Some w) found after = savepoints_of-found (with_space n act ws) m (act w) after ∙ kept w ∙ sym (savepoints_of-found ws m w found)
    by_test false (Some w) found after = savepoints_of-found (with_space n act ws) m w after ∙ sym (savepoints_of-found ws m w found)

-- the savepoints of a workspace and their records are those of before
pub record Points (p q : Parts) (s t : Durable) (n : ℕ) : Type 0 where
  pub recorded : saved_in q n ≡ saved_in p n
  pub same : savepoints_of t.spaces n ≡ savepoints_of s.spaces n

SavepointsStand-frame : (p q : Parts) (s t : Durable) → ((n : ℕ) → Points p q s t n ⊎ (map saved_fields (saved_in q n) ≡ map fields_saved (savepoints_of t.spaces n))) → SavepointsStand p s → SavepointsStand q t
SavepointsStand-frame p q s t each stand = record {
  same = λ n. ⊎_elim (λ (f : Points p q s t n). ap (map saved_fields) f.recorded ∙ stand.same n ∙ ap (map fields_saved) (sym f.same)) (λ h. h) (each n);
}

-- where the records of savepoints are those of before
saved_in-same : (p q : Parts) → q.savepoints ≡ p.savepoints → (n : ℕ) → saved_in q n ≡ saved_in p n
saved_in-same p q same n = ap (λ xs. by_making (filter (λ (x : Record). x.space == n) xs)) same

-- the savepoints of each workspace and their records are those of before
pub SavepointsStand-same : (p q : Parts) (s t : Durable) → q.savepoints ≡ p.savepoints → ((n : ℕ) → savepoints_of t.spaces n ≡ savepoints_of s.spaces n) → SavepointsStand p s → SavepointsStand q t
SavepointsStand-same p q s t recorded same = SavepointsStand-frame p q s t (λ n. inl (record { recorded = saved_in-same p q recorded n; same = same n }))

-- ---- rows

-- each row stands still
abbrev pub KeepRows : Parts → Parts → Type 0
KeepRows p q = (stamp : ℕ) (r : RowRecord) → row_of p.rows stamp ≡ Some r → row_of q.rows stamp ≡ Some r

pub row-kept : (p q : Parts) → KeepRows p q → (stamp : ℕ) (row : Row) → option_map (λ (r : RowRecord). r.values) (row_of p.rows stamp) ≡ Some row.values
    → option_map (λ (r : RowRecord). r.values) (row_of q.rows stamp) ≡ Some row.values
row-kept p q keep stamp row before = by_row (row_of p.rows stamp) refl before
  where
    by_row : (o : Option RowRecord) → row_of p.rows stamp ≡ o → option_map (λ (r : RowRecord). r.values) o ≡ Some row.values → option_map (λ (r : RowRecord). r.values) (row_of q.rows stamp) ≡ Some row.values
    by_row None found h = cc
    by_row (Some r) found h = ap (option_map (λ (r : RowRecord). r.values)) (keep stamp r found) ∙ h

pub HasRows-kept : (p q : Parts) → KeepRows p q → (es : List Entry) → HasRows p es → HasRows q es
HasRows-kept p q keep es has c t row held standing = row-kept p q keep t.stamp row (has c t row held standing)
