-- What a run over lines says, where it stands between two bytes, and where it may stop.
use Rattle.std.specs.Prelude.{ℕ, ◌≡◌, ◌<◌, ◌≤◌, Bool, true, ◌⊎◌, List, [], ◌∷◌, ◌++◌, length, take, drop}
use Rattle.wm_model.specs.Lines.{capped}
use Rattle.wm_model.specs.Step.{State, step, answer_text}

-- what the line is answered
abbrev pub answer : State → List ℕ → List ℕ
answer state line = answer_text (step state line).1

-- the answers to all lines, one after another
unfoldable pub transcript : State → List (List ℕ) → List ℕ
transcript state [] = []
transcript state (line ∷ lines) = answer state line ++ transcript (step state line).0 lines

-- the state that the lines leave
unfoldable pub after : State → List (List ℕ) → State
after state [] = state
after state (line ∷ lines) = after (step state line).0 lines

-- a first part of the whole that is not all of it
pub record IsPart (part whole : List ℕ) : Type 0 where
  pub rest : List ℕ
  pub is : whole ≡ part ++ rest
  pub more : 0 < length rest

-- nothing of these lines was run; or the first of them was, and a part of its answer was said
abbrev pub StopsIn : State → List (List ℕ) → List ℕ → State → Type 0
StopsIn state [] part end = (part ≡ []) × (end ≡ state)
StopsIn state (line ∷ lines) part end = ((part ≡ []) × (end ≡ state)) ⊎ (IsPart part (answer state line) × (end ≡ (step state line).0))

-- a run that stopped: so many lines were answered whole, and the next at most in part
pub record Stopped (state : State) (lines : List (List ℕ)) (out : List ℕ) (count : ℕ) (end : State) : Type 0 where
  pub within : count ≤ length lines
  pub part : List ℕ
  pub out_is : out ≡ transcript state (take count lines) ++ part
  pub next : StopsIn (after state (take count lines)) (drop count lines) part end

-- where a run stands between two bytes: its state, and what is held of the line not ended yet
pub record Standing : Type 0 where
  pub state : State
  pub held : List ℕ

-- whatever comes behind these bytes, they are these lines and what is held then; at most one line for each byte
pub record Ran (from : Standing) (bytes : List ℕ) (done : List (List ℕ)) (to : Standing) : Type 0 where
  pub cut : (counts : Bool) (rest : List ℕ) → capped counts (from.held ++ (bytes ++ rest)) ≡ done ++ capped counts (to.held ++ rest)
  pub state : to.state ≡ after from.state done
  pub few : length done ≤ length bytes

-- whatever comes behind these bytes, the run stopped with this said
pub record Cut (from : Standing) (bytes out : List ℕ) (count : ℕ) (end : State) : Type 0 where
  pub stops : (rest : List ℕ) → Stopped from.state (capped true (from.held ++ (bytes ++ rest))) out count end
