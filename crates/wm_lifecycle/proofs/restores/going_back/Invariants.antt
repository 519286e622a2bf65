use Rattle.std.proofs.Common.{◌≡◌, ◌++◌}
use Rattle.std.specs.List.{filter}
use Rattle.wm_lifecycle.specs.Gone.{goes_back}
use Rattle.wm_spec.specs.Records.{record_at}
use Rattle.wm_lifecycle.proofs.restores.going_back.Given as goal

abbrev pub invariant-loop-id : goal.invariant-loop-id
invariant-loop-id l = l.going.items ++ filter (λ id. goes_back l.savepoint (record_at l.image id)) l.id-iterator ≡ filter (λ id. goes_back l.savepoint (record_at l.image id)) l.ids.keys
