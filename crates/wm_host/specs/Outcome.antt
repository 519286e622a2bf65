-- What a run did with a script whose lines are answered from a state.
use Rattle.std.specs.Prelude.{ℕ, ◌≡◌, ◌≤◌, ◌⊎◌, List, ◌∷◌, [], ◌++◌, length, codes}
use Rattle.wm_engine.specs.Working.{FileStands, HoldsSorted, IsSound, LeavesAlone, Tells}
use Rattle.wm_station.specs.History.{History, Synced, now, said, Leaves}
use Rattle.wm_station.specs.Moments.{During, Holds}
use Rattle.wm_gen.specs.Script.{script}
use Rattle.wm_model.specs.Lines.{lines, ended_lines}
use Rattle.wm_state.specs.State.{State, begin}
use Rattle.wm_model.specs.Running.{transcript, after, Stopped}
use Rattle.wm_faults.specs.declared.fault.OpenFault.TheVariants.{Damaged}
use Rattle.wm_host.specs.Saying.{OnlySaid}
use Rattle.wm_host.specs.declared.ended.Place.{Place}
use Rattle.wm_host.specs.declared.ended.Place.TheVariants.{Nowhere, Page}
use Rattle.wm_store.specs.Opened.{HoldsAs}
use Rattle.wm_spec.specs.declared.record.stored.Stored.{Stored}

-- these bytes were said, and no others
abbrev pub HasSaid : History → History → List ℕ → Type 0
HasSaid old new bytes = said new ≡ said old ++ bytes

-- what `init` and `check` say
abbrev pub ok_text : List ℕ
ok_text = codes "OK" ++ 10 ∷ []

-- a front of these bytes was said, and nothing else
pub record HasSaidFront (old new : History) (bytes : List ℕ) : Type 0 where
  pub front : List ℕ
  pub says : HasSaid old new front
  pub rest : List ℕ
  pub is : bytes ≡ front ++ rest

-- these lines were answered, nothing else was said, and the file stands for the state that they leave, now and after a crash
pub record Answered (old new : History) (s : State) (script_lines : List (List ℕ)) : Type 0 where
  pub says : HasSaid old new (transcript s script_lines)
  pub stands : Holds new (λ file. FileStands file (after s script_lines))

-- so many of these lines were answered whole, the next at most in part, and nothing else was said
pub record AnswersSome (old new : History) (s : State) (script_lines : List (List ℕ)) (count : ℕ) : Type 0 where
  pub out : List ℕ
  pub says : HasSaid old new out
  pub end : State
  pub stopped : Stopped s script_lines out count end

-- of the bytes that were taken, the lines that LF ended were answered, from each state at which a run begins
pub record AnswersEnded (old new : History) (moment : ℕ) (script left : List ℕ) (count : ℕ) : Type 0 where
  pub taken : List ℕ
  pub script_is : script ≡ taken ++ left
  pub count_is : count ≡ length (ended_lines taken)
  pub each : (s : State) → FileStands (now old) s → Answered old new (begin s moment) (ended_lines taken)

-- the file is a store whose records keep the rules, and each that a stop since old may leave is one, or could be left before
pub record StaysSound (old new : History) : Type 0 where
  pub here : IsSound (now new)
  pub crash : During old new (λ file after. Leaves old file ⊎ IsSound file)

-- the two files are stores that hold the same records
pub record HoldsSame (old file : List ℕ) : Type 0 where
  pub records : List Stored
  pub before : HoldsSorted old records
  pub holds : HoldsSorted file records

-- what a stop within `check` leaves: a file that one before could, or one that holds what the file held; and a front of `OK` was
-- said. Where any of it was said, the file was a store whose records keep the rules, and what is left holds the same records
pub record CrashChecks (old : History) (file after : List ℕ) : Type 0 where
  pub kept : Leaves old file ⊎ HoldsAs (now old) file
  pub front : List ℕ
  pub said_is : after ≡ said old ++ front
  pub rest : List ℕ
  pub is : ok_text ≡ front ++ rest
  pub opened : (front ≡ []) ⊎ (IsSound (now old) × HoldsSame (now old) file)

-- nothing was done but that bytes were said; or there was a sync first, and each crash behind it leaves a file that holds what
-- the file held
abbrev pub HoldsBehindSync : History → History → Type 0
HoldsBehindSync old new = ((out : List ℕ) × OnlySaid old new out) ⊎ During (Synced old) new (λ file after. HoldsAs (now old) file)

-- a front of the script was taken, of at most so many bytes
pub record TakesAtMost (limit : ℕ) (script left : List ℕ) : Type 0 where
  pub taken : List ℕ
  pub script_is : script ≡ taken ++ left
  pub few : length taken ≤ limit

-- the place is a page
abbrev pub IsPage : Place → Type 0
IsPage Nowhere = ⊥
IsPage (Page number kind) = Unit {0}

-- the first test of opening this file that fails is the one of the place
abbrev pub IsDamaged : Place → List ℕ → Type 0
IsDamaged Nowhere file = ⊥
IsDamaged (Page number kind) file = Tells (Damaged number kind) file

-- the place is page 0 with a kind other than graph, so short, format or journal: nothing is written before it is found
abbrev pub IsUnwritten : Place → Type 0
IsUnwritten Nowhere = ⊥
IsUnwritten (Page number kind) = LeavesAlone (Damaged number kind)

-- the lines that `load` runs: those of the script that the number draws
unfoldable pub load_lines : ℕ → ℕ → List (List ℕ)
load_lines seed count = lines (script seed count)
