-- What edits of a merge leave: an implicit savepoint and a rebase leave each log, entries that come into one workspace leave another one,
-- and none of them changes a parent.
use Rattle.std.proofs.Common.{◌≡◌, ℕ, ◌≤◌, ◌==◌, Bool, true, false, cond, List, length, map, Option, Some, None, unwrap_or, refl, ap, ◌∙◌, le_refl}
use Rattle.std.proofs.lemmas.Bool.{eqb-true}
use Rattle.std.specs.Option.{option_and_then, option_map}
use Rattle.wm_state.specs.Editing.{edited, entry_of, keep_in, parent_of, rebased, rebased_in}
use Rattle.wm_state.specs.State.{Durable, Workspace, with_entries, with_space, workspace_of}
use Rattle.wm_state.specs.declared.edit.Edit.TheVariants as edits
use Rattle.wm_state.specs.declared.edit.NewEntry.{NewEntry}
use Rattle.wm_state.proofs.Changing.{workspace_of-changed}
use Rattle.wm_state.proofs.Mapped.{find-passes}
use Rattle.wm_gained.specs.Behind.{LeavesLog, LeavesParents, LeavesSpace, LeftLog}

-- ---- a workspace among others one of which changes

-- where it is not the one, it is what it was
other_still : (k n : ℕ) (act : Workspace → Workspace) → ((w : Workspace) → (act w).number ≡ w.number) → (n == k) ≡ false → (ws : List Workspace) → workspace_of (with_space k act ws) n ≡ workspace_of ws n
other_still k n act number other ws = workspace_of-changed k act number ws n ∙ ap (λ b. cond b (option_map act (workspace_of ws n)) (workspace_of ws n)) other

-- what does not change of the one is what it was in each
part_still : {A : Type 0} (part : Workspace → A) (k n : ℕ) (act : Workspace → Workspace) → ((w : Workspace) → (act w).number ≡ w.number) → ((w : Workspace) → part (act w) ≡ part w) → (ws : List Workspace)
    → option_map part (workspace_of (with_space k act ws) n) ≡ option_map part (workspace_of ws n)
part_still part k n act number same ws = ap (option_map part) (workspace_of-changed k act number ws n) ∙ by_test (n == k) (workspace_of ws n)
  where
    by_test : (b : Bool) (o : Option Workspace) → option_map part (cond b (option_map act o) o) ≡ option_map part o
    by_test true None = refl
    by_test true (Some w) = ap Some (same w)
    by_test false o = refl

-- so is its log
log_still : (k n : ℕ) (act : Workspace → Workspace) → ((w : Workspace) → (act w).number ≡ w.number) → ((w : Workspace) → length (act w).lists.log ≡ length w.lists.log) → (ws : List Workspace) (w : Workspace) → workspace_of ws n ≡ Some w
    → LeftLog (with_space k act ws) n w
log_still k n act number log ws w found = by_test (n == k) (workspace_of-changed k act number ws n ∙ ap (λ o. cond (n == k) (option_map act o) o) found)
  where
    by_test : (b : Bool) → workspace_of (with_space k act ws) n ≡ cond b (Some (act w)) (Some w) → LeftLog (with_space k act ws) n w
    by_test true is = record { workspace = act w; is = is; log = log w }
    by_test false is = record { workspace = w; is = is; log = refl }

-- ---- an implicit savepoint

pub leaves_keep : (m k n : ℕ) → LeavesLog (edited m (edits.Keep k)) n
leaves_keep m k n = record { tables = λ s. tables s (workspace_of s.spaces k); stamps = λ s. stamps s (workspace_of s.spaces k); there = λ s w found. there s w found (workspace_of s.spaces k) }
  where
    tables : (s : Durable) (o : Option Workspace) → (unwrap_or (option_and_then (keep_in m s) o) s).tables ≡ s.tables
    tables s None = refl
    tables s (Some v) = refl

    stamps : (s : Durable) (o : Option Workspace) → s.next_stamp ≤ (unwrap_or (option_and_then (keep_in m s) o) s).next_stamp
    stamps s None = le_refl s.next_stamp
    stamps s (Some v) = le_refl s.next_stamp

    there : (s : Durable) (w : Workspace) → workspace_of s.spaces n ≡ Some w → (o : Option Workspace) → LeftLog (unwrap_or (option_and_then (keep_in m s) o) s).spaces n w
    there s w found None = record { workspace = w; is = found; log = refl }
    there s w found (Some v) = log_still v.number n _ (λ x. refl) (λ x. refl) s.spaces w found

-- it leaves another workspace
pub keep_leaves_space : (m k n : ℕ) → (n == k) ≡ false → LeavesSpace (edited m (edits.Keep k)) n
keep_leaves_space m k n other s = by_workspace (workspace_of s.spaces k) refl
  where
    by_workspace : (o : Option Workspace) → workspace_of s.spaces k ≡ o → workspace_of (unwrap_or (option_and_then (keep_in m s) o) s).spaces n ≡ workspace_of s.spaces n
    by_workspace None none = refl
    by_workspace (Some v) found = other_still v.number n _ (λ x. refl) (ap (λ i. n == i) (eqb-true v.number k (find-passes (λ (w : Workspace). w.number == k) s.spaces v found)) ∙ other) s.spaces

-- and parents
pub keep_leaves_parents : (m k : ℕ) → LeavesParents (edited m (edits.Keep k))
keep_leaves_parents m k s n = by_workspace (workspace_of s.spaces k)
  where
    by_workspace : (o : Option Workspace) → option_map (λ (w : Workspace). w.parent) (workspace_of (unwrap_or (option_and_then (keep_in m s) o) s).spaces n) ≡ option_map (λ (w : Workspace). w.parent) (workspace_of s.spaces n)
    by_workspace None = refl
    by_workspace (Some v) = part_still (λ (w : Workspace). w.parent) v.number n _ (λ x. refl) (λ x. refl) s.spaces

-- ---- entries that come into another workspace

pub replay_leaves_space : (m k n : ℕ) (entries : List NewEntry) → (n == k) ≡ false → LeavesSpace (edited m (edits.Replay k entries)) n
replay_leaves_space m k n entries other s = other_still k n (with_entries (map entry_of entries)) (λ x. refl) other s.spaces

pub replay_leaves_parents : (m k : ℕ) (entries : List NewEntry) → LeavesParents (edited m (edits.Replay k entries))
replay_leaves_parents m k entries s n = part_still (λ (w : Workspace). w.parent) k n (with_entries (map entry_of entries)) (λ x. refl) (λ x. refl) s.spaces

pub leaves_replay : (m k n : ℕ) (entries : List NewEntry) → (n == k) ≡ false → LeavesLog (edited m (edits.Replay k entries)) n
leaves_replay m k n entries other = record {
  tables = λ s. refl;
  stamps = λ s. le_refl s.next_stamp;
  there = λ s w found. record { workspace = w; is = replay_leaves_space m k n entries other s ∙ found; log = refl };
}

-- ---- a rebase

pub leaves_rebase : (m k n : ℕ) (emptied : Bool) → LeavesLog (edited m (edits.Rebase k emptied)) n
leaves_rebase m k n emptied = record { tables = λ s. tables s (parent_of s.spaces k); stamps = λ s. stamps s (parent_of s.spaces k); there = λ s w found. there s w found (parent_of s.spaces k) }
  where
    tables : (s : Durable) (o : Option Workspace) → (unwrap_or (option_map (rebased_in k emptied s) o) s).tables ≡ s.tables
    tables s None = refl
    tables s (Some p) = refl

    stamps : (s : Durable) (o : Option Workspace) → s.next_stamp ≤ (unwrap_or (option_map (rebased_in k emptied s) o) s).next_stamp
    stamps s None = le_refl s.next_stamp
    stamps s (Some p) = le_refl s.next_stamp

    there : (s : Durable) (w : Workspace) → workspace_of s.spaces n ≡ Some w → (o : Option Workspace) → LeftLog (unwrap_or (option_map (rebased_in k emptied s) o) s).spaces n w
    there s w found None = record { workspace = w; is = found; log = refl }
    there s w found (Some p) = log_still k n (rebased emptied p) (λ x. refl) (λ x. refl) s.spaces w found
