use Rattle.std.proofs.Common.{◌≡◌, is_some, drop}
use Rattle.std.specs.List.{list_all}
use Rattle.wm_cells.specs.Lookups.{found, referred}
use Rattle.wm_spec.specs.declared.record.turn.Turn.{Turn}
use Rattle.wm_rules.proofs.turns.each_has_space.Given as goal

abbrev pub invariant-loop-turn : goal.invariant-loop-turn
invariant-loop-turn l = list_all (λ (x : Turn). is_some (found l.spaces.entries x.space)) (referred l.turns) ≡ list_all (λ (x : Turn). is_some (found l.spaces.entries x.space)) (referred (drop l.turn-index l.turns))
