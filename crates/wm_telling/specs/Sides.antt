-- A workspace beside its parent.
use Rattle.wm_net.specs.Conflicts.{Sides}
use Rattle.wm_state.specs.State.{Workspace, content}

-- the two sides, and what they have in common
abbrev pub sides : Workspace → Workspace → Sides
sides p w = record { base = w.lists.base; parent = content p; own = w.lists.own; log = p.lists.log; from = w.from; settled = w.settled }
