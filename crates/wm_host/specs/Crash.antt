-- What a crash within a stretch of a run may leave: a file, and the bytes said.
use Rattle.std.specs.Prelude.{ℕ, ◌≡◌, ◌⊎◌, List, [], ◌++◌}
use Rattle.wm_engine.specs.Working.{FileStands, IsSound}
use Rattle.wm_station.specs.History.{History, now, said, Leaves}
use Rattle.wm_station.specs.Moments.{During}
use Rattle.wm_state.specs.State.{State}
use Rattle.wm_model.specs.Step.{step}
use Rattle.wm_model.specs.Running.{answer, Stopped, Cut}
use Rattle.wm_host.specs.Hosting.{standing}
use Rattle.wm_host.specs.declared.host.Host.{Host}

-- what each crash since old may leave, and what a read gives at the end, have P together with the bytes said
pub record Throughout (old new : History) (P : List ℕ → List ℕ → Type 0) : Type 0 where
  pub crash : During old new P
  pub here : P (now new) (said new)

-- a file that a crash could leave before, and a front of these bytes
pub record CrashSays (old : History) (bytes : List ℕ) (file after : List ℕ) : Type 0 where
  pub leaves : Leaves old file
  pub front : List ℕ
  pub said_is : after ≡ said old ++ front
  pub rest : List ℕ
  pub is : bytes ≡ front ++ rest

-- what opening leaves: a file that a crash could leave before, or one that stands for the state; and nothing said
abbrev pub CrashOpens : History → State → List ℕ → List ℕ → Type 0
CrashOpens old s file after = (Leaves old file ⊎ FileStands file s) × (after ≡ said old)

-- whatever was said, the file is a store whose records keep the rules
abbrev pub CrashSound : List ℕ → List ℕ → Type 0
CrashSound file after = IsSound file

-- the line is not kept, and nothing of its answer said; or it is kept, and a front of its answer said
pub record CrashLine (old : History) (s : State) (line : List ℕ) (file after : List ℕ) : Type 0 where
  pub front : List ℕ
  pub said_is : after ≡ said old ++ front
  pub kept : ((front ≡ []) × FileStands file s) ⊎ ((rest : List ℕ) × (answer s line ≡ front ++ rest) × FileStands file (step s line).0)

-- what a run that stops in this piece said, and the state that it keeps: after the lines answered whole, or after one more,
-- and that where a part of its answer was said
pub record CrashRuns (old : History) (s : State) (from : Host) (bytes : List ℕ) (file after : List ℕ) : Type 0 where
  pub out : List ℕ
  pub said_is : after ≡ said old ++ out
  pub count : ℕ
  pub end : State
  pub cut : Cut (standing s from) bytes out count end
  pub stands : FileStands file end

-- the same of a run that stops over these lines
pub record CrashAnswers (old : History) (s : State) (lines : List (List ℕ)) (file after : List ℕ) : Type 0 where
  pub out : List ℕ
  pub said_is : after ≡ said old ++ out
  pub count : ℕ
  pub end : State
  pub stopped : Stopped s lines out count end
  pub stands : FileStands file end

-- a file that a crash could leave before the run, and nothing said; or what the run leaves where it stops over the lines
abbrev pub CrashOfRun : History → State → List (List ℕ) → List ℕ → List ℕ → Type 0
CrashOfRun old s lines file after = (Leaves old file × (after ≡ said old)) ⊎ CrashAnswers old s lines file after
