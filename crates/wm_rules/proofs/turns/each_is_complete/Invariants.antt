use Rattle.std.proofs.Common.{◌≡◌, ◌==◌, ◌+◌, ◌||◌, drop}
use Rattle.std.specs.List.{list_all}
use Rattle.wm_cells.specs.Lookups.{counted, referred}
use Rattle.wm_spec.specs.declared.record.space.Space.{Space}
use Rattle.wm_rules.proofs.turns.each_is_complete.Given as goal

abbrev pub invariant-loop-space : goal.invariant-loop-space
invariant-loop-space l = list_all (λ (s : Space). (s.number == 0) || (counted l.counts.entries s.number == s.rebases + 1)) (referred l.spaces) ≡ list_all (λ (s : Space). (s.number == 0) || (counted l.counts.entries s.number == s.rebases + 1)) (referred (drop l.space-index l.spaces))
