use Rattle.std.proofs.Common.{◌≡◌, ◌++◌, map}
use Rattle.wm_graph.specs.Parts.{as_lock, parts_of}
use Rattle.wm_guard.specs.Barring.{makings_of}
use Rattle.wm_index.specs.Kinds.{kind_at}
use Rattle.wm_spec.specs.declared.record.lock.Lock.{Lock}
use Rattle.wm_locks.proofs.makings.makings_of.Given as goal

abbrev pub invariant-loop-id : goal.invariant-loop-id
invariant-loop-id l = l.makings.items ++ map (λ (x : Lock). x.making) (kind_at as_lock l.image l.id-iterator) ≡ makings_of l.space (parts_of l.image).locks
