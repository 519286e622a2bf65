use Rattle.std.proofs.Common.{◌≡◌, ◌-◌}
use Rattle.std.specs.Option.{option_map}
use Rattle.wm_codec.specs.Format.{times}
use Rattle.wm_heap.specs.Slots.{slot}
use Rattle.wm_heap.proofs.reading.behind.Given as goal

abbrev pub invariant-loop : goal.invariant-loop
invariant-loop l = option_map (λ x. x.1) (times slot (l.count - l.counter) l.rest) ≡ option_map (λ x. x.1) (times slot l.count l.bytes)
