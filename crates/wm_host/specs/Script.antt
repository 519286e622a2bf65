-- What the host did with a whole script.
use Rattle.std.specs.Prelude.{ℕ, ◌≡◌, ◌^◌, ◌<◌, false, List, ◌++◌, length, take}
use Rattle.wm_station.specs.History.{History}
use Rattle.wm_model.specs.Lines.{capped}
use Rattle.wm_host.specs.Hosting.{Finishes}
use Rattle.wm_host.specs.declared.host.Host.{Host}

-- of the bytes that were taken, the lines that LF ended were answered
pub record AnswersTaken (tells : Type 0) (old new : History) (from to : Host) (script left : List ℕ) : Type 0 where
  pub taken : List ℕ
  pub script_is : script ≡ taken ++ left
  pub lines : Finishes tells old new from (capped false taken) to

-- the script is longer than its limit, and of its first 2^30 bytes the lines that LF ended were answered
pub record AnswersToLimit (tells : Type 0) (old new : History) (from to : Host) (script : List ℕ) : Type 0 where
  pub long : 2 ^ 30 < length script
  pub lines : Finishes tells old new from (capped false (take (2 ^ 30) script)) to
