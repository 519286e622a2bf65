-- The history of a file in memory, from the calls that it kept.
use Rattle.std.specs.Prelude.{ℕ, ◌+◌, ◌-◌, List, [], ◌∷◌, ◌++◌, length, take, drop, replicate, fold}
use Rattle.wm_station.specs.History.{History, Wrote, Synced, Said, now}
use Rattle.wm_station.specs.declared.recording.Call.{Call}
use Rattle.wm_station.specs.declared.recording.Call.TheVariants.{Write, Sync, Say}

-- the file with zeros at its end, where it has fewer than n bytes
abbrev pub padded : ℕ → List ℕ → List ℕ
padded n file = file ++ replicate (n - length file) 0

-- the file with these bytes in place, and zeros in a gap before them; the same file where there are none
abbrev pub over : ℕ → List ℕ → List ℕ → List ℕ
over at [] old = old
over at (b ∷ bs) old = let end = at + length (b ∷ bs) in take at (padded end old) ++ (b ∷ bs) ++ drop end (padded end old)

-- the history after a call
abbrev pub after : History → Call → History
after h (Write at len bytes) = Wrote h at len (over at bytes.items (now h))
after h Sync = Synced h
after h (Say piece count) = Said h piece.items count

-- the history after these calls, in order
abbrev pub replay : History → List Call → History
replay h calls = fold after h calls
