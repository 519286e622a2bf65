-- What is said of a run of calls, and of each moment in it.
use Rattle.std.specs.Prelude.{◌≡◌, ℕ, ◌≤◌, ◌⊎◌, List}
use Rattle.wm_station.specs.History.{History, now, said, moment, Leaves, Since}

-- P holds of what a read gives, and of each file that a crash may leave
pub record Holds (h : History) (P : List ℕ → Type 0) : Type 0 where
  pub here : P (now h)
  pub left : (c : List ℕ) → Leaves h c → P c

-- a crash at any moment since old leaves a file and bytes said that have P
pub record During (old new : History) (P : List ℕ → List ℕ → Type 0) : Type 0 where
  pub later : moment old ≤ moment new
  pub each : (c s : List ℕ) → Since new (moment old) c s → P c s
  -- for a run that began earlier
  pub before : (t : ℕ) (c s : List ℕ) → t ≤ moment old → Since new t c s → Since old t c s ⊎ P c s

-- nothing more was said
abbrev pub Silent : History → (List ℕ → Type 0) → List ℕ → List ℕ → Type 0
Silent old P c s = P c × (s ≡ said old)

-- a run in which nothing was said: each crash since its start, and what a read gives now, has T
pub record Ended (start h : History) (T : List ℕ → Type 0) : Type 0 where
  pub during : During start h (Silent start T)
  pub here : T (now h)
  pub quiet : said h ≡ said start
