-- The first of the workspaces that pass a test, and of their records: the one of the least number. What tests there are of records.
use Rattle.std.specs.Prelude.{ℕ, zero, suc, Bool, false, not, ◌&&◌, ◌||◌, ◌==◌, nat_le, List, Option, None}
use Rattle.std.specs.Bool.{then_some}
use Rattle.std.specs.Option.{option_and_then, option_map_or, option_or}
use Rattle.wm_graph.specs.Parts.{space_of}
use Rattle.wm_spec.specs.declared.record.savepoint.Savepoint.{Savepoint}
use Rattle.wm_spec.specs.declared.record.space.Space.{Space}
use Rattle.wm_state.specs.Standing.{space_after}
use Rattle.wm_state.specs.State.{Workspace, next_space, workspace_of}

-- the least number below a bound that passes a test
unfoldable pub least_below : ℕ → (ℕ → Bool) → Option ℕ
least_below zero test = None
least_below (suc n) test = option_or (least_below n test) (then_some (test n) n)

-- the workspace of the least number that passes a test
abbrev pub first_space : (Workspace → Bool) → List Workspace → Option Workspace
first_space test spaces = option_and_then (workspace_of spaces) (least_below (next_space spaces) (λ number. option_map_or test (workspace_of spaces number) false))

-- the record of a workspace of the least number that passes a test
abbrev pub first_recorded : (Space → Bool) → List Space → Option Space
first_recorded test spaces = option_and_then (space_of spaces) (least_below (space_after spaces) (λ number. option_map_or test (space_of spaces number) false))

-- ---- tests of records

-- the workspace is a child of another, and was born at a place of it from this one on, or its copy of it has so much of its log
abbrev pub is_child_from : ℕ → ℕ → ℕ → Space → Bool
is_child_from parent place log_length r = (r.parent == parent) && (not (r.number == parent) && (nat_le place r.birth_place || nat_le log_length r.from))

-- a savepoint is at a later place, or had more of the log
abbrev pub is_behind : ℕ → ℕ → Savepoint → Bool
is_behind place log_length x = not (nat_le x.place place && nat_le x.log_length log_length)

-- so is a savepoint of a workspace
abbrev pub is_saved_behind : ℕ → ℕ → ℕ → Savepoint → Bool
is_saved_behind space place log_length x = (x.space == space) && is_behind place log_length x
