-- Plans that make a savepoint or a workspace.
use Rattle.std.specs.Prelude.{◌≡◌, ◌≤◌, true, length}
use Rattle.std.specs.List.{list_all}
use Rattle.wm_state.specs.Drafts.{is_fork as is_fork_edit}
use Rattle.wm_plan.specs.declared.planned.Planned.{Planned}

-- the plan makes a savepoint or a workspace at most
abbrev pub AreForks : Planned → Type 0
AreForks p = (list_all is_fork_edit p.edits.items ≡ true) × (length p.edits.items ≤ 1)
