use Rattle.std.proofs.Common.{◌≡◌}
use Rattle.wm_station.specs.History.{said}
use Rattle.wm_station.specs.Recorded.{history_at}
use Rattle.wm_station.proofs.recording.Recording.said.Given as goal

abbrev pub invariant-loop-call : goal.invariant-loop-call
invariant-loop-call l = l.bytes.items ≡ said (history_at l.self l.call-index)
