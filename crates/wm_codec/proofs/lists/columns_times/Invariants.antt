use Rattle.std.proofs.Common.{◌≡◌, ◌-◌}
use Rattle.wm_codec.specs.Format.{times}
use Rattle.wm_codec.specs.Spelling.{column}
use Rattle.wm_codec.proofs.Loop.{with_front}
use Rattle.wm_codec.proofs.lists.columns_times.Given as goal

abbrev pub invariant-loop : goal.invariant-loop
invariant-loop l = with_front l.columns (times column (l.count - l.counter) l.rest) ≡ times column l.count l.bytes
