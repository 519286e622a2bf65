use Rattle.std.proofs.Common.{◌≡◌, nat_le, drop}
use Rattle.std.specs.List.{list_all}
use Rattle.wm_cells.specs.Lookups.{counted, referred}
use Rattle.wm_spec.specs.declared.record.space.Space.{Space}
use Rattle.wm_rules.proofs.savepoints.each_has_few.Given as goal

abbrev pub invariant-loop-space : goal.invariant-loop-space
invariant-loop-space l = list_all (λ (s : Space). nat_le (counted l.counts.entries s.number) 4096) (referred l.spaces) ≡ list_all (λ (s : Space). nat_le (counted l.counts.entries s.number) 4096) (referred (drop l.space-index l.spaces))
