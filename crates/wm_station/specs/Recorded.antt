-- What a file in memory tells.
use Rattle.std.specs.Prelude.{ℕ, take}
use Rattle.wm_station.specs.History.{History, Begin}
use Rattle.wm_station.specs.Replay.{replay}
use Rattle.wm_station.specs.declared.recording.Recording.{Recording}

-- what it did so far
abbrev pub history_of : Recording → History
history_of r = replay (Begin r.start.items) r.calls.items

-- what it had done after so many calls
abbrev pub history_at : Recording → ℕ → History
history_at r calls = replay (Begin r.start.items) (take calls r.calls.items)
