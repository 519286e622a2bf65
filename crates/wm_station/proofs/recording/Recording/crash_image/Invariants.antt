use Rattle.std.proofs.Common.{◌≡◌}
use Rattle.wm_station.specs.History.{now, Leaves}
use Rattle.wm_station.specs.Recorded.{history_at}
use Rattle.wm_station.proofs.recording.Recording.crash_image.Given as goal

abbrev pub invariant-loop-i : goal.invariant-loop-i
invariant-loop-i l = (now (history_at l.self l.i) ≡ l.image.items) × Leaves (history_at l.self l.i) l.left.items
