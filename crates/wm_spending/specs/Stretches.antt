-- Into how many stretches the cells fall that a merge or a refresh is about, and how many marks and locks go by it.
use Rattle.std.specs.Prelude.{ℕ, ◌+◌, ◌||◌, ◌==◌, if◌then◌else◌, List, ◌++◌, length}
use Rattle.std.specs.List.{find}
use Rattle.std.specs.Option.{option_map_or}
use Rattle.std.specs.Str.{bytes_eq}
use Rattle.wm_graph.specs.Parts.{parts_of}
use Rattle.wm_net.specs.Counts.{cut_count}
use Rattle.wm_prices.specs.Prices.{marks_at}
use Rattle.wm_spec.specs.Lists.{Cell, Entry, touched}
use Rattle.wm_spec.specs.declared.record.space.Space.{Space}
use Rattle.wm_spec.specs.declared.record.stored.Stored.{Stored}
use Rattle.wm_state.specs.State.{State, Workspace, workspace_named}
use Rattle.wm_model.specs.Merged.{makings_of}
use Rattle.wm_model.specs.Step.{parent_in, pending}
use Rattle.wm_spending.specs.Nets.{Net}

-- the entries of all lists of a workspace
abbrev pub all_entries : Workspace → List Entry
all_entries w = w.lists.at_birth ++ (w.lists.base ++ (w.lists.own ++ w.lists.log))

-- the stretches into which the cells of what is own and of what is pending fall where they are cut at every end of an entry of the lists
-- of a workspace and of its parent
abbrev pub stretches_of : Workspace → Workspace → ℕ
stretches_of p w = cut_count (all_entries w ++ all_entries p) (λ (c : Cell). touched w.lists.own c || touched (pending p w) c)

-- those of the workspace of a name; none where there is no such, or it is LIVE, which has no parent
abbrev pub stretch_count : State → List ℕ → ℕ
stretch_count s name = option_map_or (λ (w : Workspace). if w.number == 0 then 0 else stretches_of (parent_in s w) w) (workspace_named name s.durable.spaces) 0

-- how many records are marks of the workspace of a name and, where it is merged, locks there; none where there is no such
abbrev pub going_count : List Stored → Net → ℕ
going_count rs net = option_map_or (λ (a : Space). length (marks_at (parts_of rs) a.number) + (if net.merges then length (makings_of a.number (parts_of rs).locks) else 0)) (find (λ (r : Space). bytes_eq net.workspace r.name) (parts_of rs).spaces) 0
