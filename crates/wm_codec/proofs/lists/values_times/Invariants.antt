use Rattle.std.proofs.Common.{◌≡◌, ◌-◌, ◌≤◌, vec_len, vec_capacity}
use Rattle.wm_codec.specs.Format.{times}
use Rattle.wm_codec.specs.Fields.{value}
use Rattle.wm_codec.proofs.Loop.{with_front}
use Rattle.wm_codec.proofs.lists.values_times.Given as goal

-- what was read and what is to be read; and for each value that is to be read there is room
abbrev pub invariant-loop : goal.invariant-loop
invariant-loop l =
    (with_front l.values.items (times value (l.count - l.counter) l.rest) ≡ times value l.count l.bytes)
    × ((vec_len l.values ≡ l.counter) × (l.count ≤ vec_capacity l.values))
