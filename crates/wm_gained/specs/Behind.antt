-- Edits behind which what is asked of others is asked still, told by what they make of the state.
use Rattle.std.specs.Prelude.{ℕ, ◌≡◌, ◌≤◌, length, List, Some}
use Rattle.std.specs.Option.{option_map}
use Rattle.wm_state.specs.State.{Durable, Workspace, workspace_of}

-- a workspace is there with a log as long as that of another
pub record LeftLog (spaces : List Workspace) (n : ℕ) (w : Workspace) : Type 0 where
  pub workspace : Workspace
  pub is : workspace_of spaces n ≡ Some workspace
  pub log : length workspace.lists.log ≡ length w.lists.log

-- an act leaves the tables, the stamps that were given, and how long the log of a workspace is
pub record LeavesLog (act : Durable → Durable) (n : ℕ) : Type 0 where
  pub tables : (s : Durable) → (act s).tables ≡ s.tables
  pub stamps : (s : Durable) → s.next_stamp ≤ (act s).next_stamp
  pub there : (s : Durable) (w : Workspace) → workspace_of s.spaces n ≡ Some w → LeftLog (act s).spaces n w

-- an act leaves the workspace of a number
abbrev pub LeavesSpace : (Durable → Durable) → ℕ → Type 0
LeavesSpace act n = (s : Durable) → workspace_of (act s).spaces n ≡ workspace_of s.spaces n

-- an act leaves which workspaces there are, and the parent of each
abbrev pub LeavesParents : (Durable → Durable) → Type 0
LeavesParents act = (s : Durable) (n : ℕ) → option_map (λ (w : Workspace). w.parent) (workspace_of (act s).spaces n) ≡ option_map (λ (w : Workspace). w.parent) (workspace_of s.spaces n)
