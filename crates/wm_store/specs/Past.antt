-- A history spelled in numbers.
use Rattle.std.specs.Prelude.{ℕ, List, ◌∷◌, ◌++◌, length}
use Rattle.wm_station.specs.History.{History, Begin, Wrote, Synced, Said}

-- what a station did, so that two histories that are spelled the same are the same
unfoldable pub past_of : History → List ℕ
past_of (Begin image) = 0 ∷ image
past_of (Wrote h at n image) = 1 ∷ at ∷ n ∷ length image ∷ (image ++ past_of h)
past_of (Synced h) = 2 ∷ past_of h
past_of (Said h piece n) = 3 ∷ n ∷ length piece ∷ (piece ++ past_of h)
