use Rattle.std.proofs.Common.{◌≡◌, take}
use Rattle.std.specs.List.{filter}
use Rattle.wm_cells.specs.Lookups.{found, referred}
use Rattle.wm_graph.specs.Rules.{is_asked}
use Rattle.wm_rules.proofs.turns.asked_of.Given as goal

abbrev pub invariant-loop-turn : goal.invariant-loop-turn
invariant-loop-turn l = referred l.asked.items ≡ filter (is_asked (found l.spaces.entries)) (referred (take l.turn-index l.turns))
