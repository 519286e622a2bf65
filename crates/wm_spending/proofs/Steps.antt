-- What edits of a merge or a refresh leave of the workspaces that they are not about: their logs, and their parents.
use Rattle.std.proofs.Common.{◌≡◌, ℕ, ◌==◌, Bool, true, false, cond, List, ◌++◌, Option, Some, None, unwrap_or, refl, ap, ◌∙◌}
use Rattle.std.proofs.lemmas.Bool.{eq-eqb}
use Rattle.std.specs.Option.{option_and_then, option_map}
use Rattle.wm_spec.specs.Lists.{Entry}
use Rattle.wm_state.proofs.Changing.{workspace_of-changed}
use Rattle.wm_state.specs.Editing.{gained_in, keep_in, kept_in, parent_of, rebased, rebased_in, rebased_so, replayed_in}
use Rattle.wm_state.specs.State.{Durable, Workspace, with_entries, with_gained, with_space, workspace_of}

-- the workspace of a number is there, with this log and this parent
pub record IsAt (spaces : List Workspace) (n : ℕ) (log : List Entry) (parent : ℕ) : Type 0 where
  pub now : Workspace
  pub found : workspace_of spaces n ≡ Some now
  pub log_is : now.lists.log ≡ log
  pub parent_is : now.parent ≡ parent

-- ---- a workspace that is changed

-- in its number, its log and its parent it may stay
pub changed_stays : (n : ℕ) (act : Workspace → Workspace) → ((w : Workspace) → (act w).number ≡ w.number) → ((w : Workspace) → (act w).lists.log ≡ w.lists.log) → ((w : Workspace) → (act w).parent ≡ w.parent)
    → (spaces : List Workspace) (k : ℕ) (log : List Entry) (parent : ℕ) → IsAt spaces k log parent → IsAt (with_space n act spaces) k log parent
changed_stays n act number logs parents spaces k log parent at = by_number (k == n) (workspace_of-changed n act number spaces k)
  where
    by_number : (b : Bool) → workspace_of (with_space n act spaces) k ≡ cond b (option_map act (workspace_of spaces k)) (workspace_of spaces k) → IsAt (with_space n act spaces) k log parent
    by_number true is = record { now = act at.now; found = is ∙ ap (option_map act) at.found; log_is = logs at.now ∙ at.log_is; parent_is = parents at.now ∙ at.parent_is }
    by_number false is = record { now = at.now; found = is ∙ at.found; log_is = at.log_is; parent_is = at.parent_is }

-- another one stays
pub other_stays : (n : ℕ) (act : Workspace → Workspace) → ((w : Workspace) → (act w).number ≡ w.number) → (spaces : List Workspace) (k : ℕ) (log : List Entry) (parent : ℕ) → (k == n) ≡ false → IsAt spaces k log parent
    → IsAt (with_space n act spaces) k log parent
other_stays n act number spaces k log parent other at = record {
  now = at.now;
  found = workspace_of-changed n act number spaces k ∙ ap (λ b. cond b (option_map act (workspace_of spaces k)) (workspace_of spaces k)) other ∙ at.found;
  log_is = at.log_is;
  parent_is = at.parent_is;
}

-- and it itself is what the change makes of it
pub changed_is : (n : ℕ) (act : Workspace → Workspace) → ((w : Workspace) → (act w).number ≡ w.number) → (spaces : List Workspace) (w : Workspace) → workspace_of spaces n ≡ Some w → workspace_of (with_space n act spaces) n ≡ Some (act w)
changed_is n act number spaces w found =
    workspace_of-changed n act number spaces n ∙ ap (λ b. cond b (option_map act (workspace_of spaces n)) (workspace_of spaces n)) (eq-eqb n n refl) ∙ ap (option_map act) found

-- ---- edits

-- an implicit savepoint leaves all logs and parents
pub kept_stays : (m n : ℕ) (d : Durable) (k : ℕ) (log : List Entry) (parent : ℕ) → IsAt d.spaces k log parent → IsAt (kept_in m n d).spaces k log parent
kept_stays m n d k log parent at = by_space (workspace_of d.spaces n)
  where
    by_space : (o : Option Workspace) → IsAt (unwrap_or (option_and_then (keep_in m d) o) d).spaces k log parent
    by_space None = at
    by_space (Some w) = changed_stays w.number _ (λ v. refl) (λ v. refl) (λ v. refl) d.spaces k log parent at

-- entries that come into a workspace leave the others
pub replayed_stays : (n : ℕ) (es : List Entry) (d : Durable) (k : ℕ) (log : List Entry) (parent : ℕ) → (k == n) ≡ false → IsAt d.spaces k log parent → IsAt (replayed_in n es d).spaces k log parent
replayed_stays n es d k log parent other at = other_stays n (with_entries es) (λ v. refl) d.spaces k log parent other at

-- and its own log has them behind the others
pub replayed_is : (n : ℕ) (es : List Entry) (d : Durable) (log : List Entry) (parent : ℕ) → IsAt d.spaces n log parent → IsAt (replayed_in n es d).spaces n (log ++ es) parent
replayed_is n es d log parent at = record {
  now = with_entries es at.now;
  found = changed_is n (with_entries es) (λ v. refl) d.spaces at.now at.found;
  log_is = ap (λ (l : List Entry). l ++ es) at.log_is;
  parent_is = at.parent_is;
}

pub gained_is : (n : ℕ) (es : List Entry) (d : Durable) (log : List Entry) (parent : ℕ) → IsAt d.spaces n log parent → IsAt (gained_in n es d).spaces n (log ++ es) parent
gained_is n es d log parent at = record {
  now = with_gained es at.now;
  found = changed_is n (with_gained es) (λ v. refl) d.spaces at.now at.found;
  log_is = ap (λ (l : List Entry). l ++ es) at.log_is;
  parent_is = at.parent_is;
}

-- a rebase leaves all logs and parents
pub rebased_stays : (n : ℕ) (emptied : Bool) (d : Durable) (k : ℕ) (log : List Entry) (parent : ℕ) → IsAt d.spaces k log parent → IsAt (rebased_so n emptied d).spaces k log parent
rebased_stays n emptied d k log parent at = by_parent (parent_of d.spaces n)
  where
    by_parent : (o : Option Workspace) → IsAt (unwrap_or (option_map (rebased_in n emptied d) o) d).spaces k log parent
    by_parent None = at
    by_parent (Some p) = changed_stays n (rebased emptied p) (λ v. refl) (λ v. refl) (λ v. refl) d.spaces k log parent at

-- and where the parent is there, it is made
pub rebased_is : (n : ℕ) (emptied : Bool) (d : Durable) (w p : Workspace) → workspace_of d.spaces n ≡ Some w → workspace_of d.spaces w.parent ≡ Some p → workspace_of (rebased_so n emptied d).spaces n ≡ Some (rebased emptied p w)
rebased_is n emptied d w p found above =
    ap (λ (o : Option Workspace). workspace_of (unwrap_or (option_map (rebased_in n emptied d) o) d).spaces n)
    (ap (option_and_then (λ (v : Workspace). workspace_of d.spaces v.parent)) found ∙ above)
    ∙ changed_is n (rebased emptied p) (λ v. refl) d.spaces w found
