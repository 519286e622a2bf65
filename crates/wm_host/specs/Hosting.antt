-- What the host did with a piece of the script, and what it said: for each state that its engine stands for.
use Rattle.std.specs.Prelude.{ℕ, ◌≡◌, ◌≤◌, ◌+◌, true, List, [], ◌∷◌, length}
use Rattle.wm_engine.specs.Working.{Engaged, FileStands, StandsFor, WorksOver}
use Rattle.wm_graph.specs.Parts.{parts_of}
use Rattle.wm_graph.specs.Rules.{keep_rules}
use Rattle.wm_station.specs.History.{History, now}
use Rattle.wm_model.specs.Lines.{cap, without_cr, HasNoLf}
use Rattle.wm_state.specs.State.{State, begin}
use Rattle.wm_model.specs.Step.{step}
use Rattle.wm_model.specs.Running.{answer, transcript, after, StopsIn, Standing, Ran, Cut}
use Rattle.wm_host.specs.Outcome.{HasSaid, Answered, AnswersSome}
use Rattle.wm_host.specs.declared.host.Host.{Host}

-- where the host stands between two bytes, at a state
abbrev pub standing : State → Host → Standing
standing s host = record { state = s; held = host.line }

-- the line that the host holds, as it is run
abbrev pub line_of : Host → List ℕ
line_of host = cap (without_cr host.line)

-- the engine works over its station, and its records keep the rules
pub record WorksSoundly (e : Engaged) (h : History) : Type 0 where
  pub works : WorksOver e h
  pub rules : keep_rules (parts_of e.records) ≡ true

-- the host stands before a script, over a station that was opened for a run that begins at a moment
pub record Begins (tells : Type 0) (old new : History) (host : Host) (moment : ℕ) : Type 0 where
  pub held : host.line ≡ []
  pub none : host.lines ≡ 0
  pub works : tells → WorksSoundly host.engine new
  pub each : tells → (s : State) → FileStands (now old) s → StandsFor host.engine (begin s moment)

-- the line was run, kept, and its whole answer said
pub record Answers (tells : Type 0) (old new : History) (from to : Host) : Type 0 where
  pub held : to.line ≡ []
  pub lines : to.lines ≡ from.lines + 1
  pub stands : (s : State) → StandsFor from.engine s → StandsFor to.engine (step s (line_of from)).0
  pub says : tells → (s : State) → StandsFor from.engine s → HasSaid old new (answer s (line_of from))
  pub works : tells → WorksSoundly to.engine new

-- nothing of the line's answer was said, or a part
pub record SaysPart (old new : History) (s : State) (line : List ℕ) : Type 0 where
  pub part : List ℕ
  pub end : State
  pub stops : StopsIn s (line ∷ []) part end
  pub says : HasSaid old new part

-- the line was not run, or not all of its answer said
pub record Unanswered (tells : Type 0) (old new : History) (from to : Host) : Type 0 where
  pub lines : to.lines ≡ from.lines
  pub each : tells → (s : State) → StandsFor from.engine s → SaysPart old new s (line_of from)

-- the piece was taken, and the lines that ended in it answered
pub record Says (tells : Type 0) (old new : History) (from : Host) (bytes : List ℕ) (to : Host) : Type 0 where
  pub done : List (List ℕ)
  pub ran : (s : State) → Ran (standing s from) bytes done (standing (after s done) to)
  pub few : length done ≤ length bytes
  pub lines : to.lines ≡ from.lines + length done
  pub no_lf : HasNoLf to.line
  pub stands : (s : State) → StandsFor from.engine s → StandsFor to.engine (after s done)
  pub says : tells → (s : State) → StandsFor from.engine s → HasSaid old new (transcript s done)
  pub works : tells → WorksSoundly to.engine new

-- so many lines were answered whole in the piece, the next at most in part
pub record SaysSome (old new : History) (s : State) (from : Host) (bytes : List ℕ) (count : ℕ) : Type 0 where
  pub out : List ℕ
  pub end : State
  pub cut : Cut (standing s from) bytes out count end
  pub says : HasSaid old new out

-- the run stopped within the piece
pub record Breaks (tells : Type 0) (old new : History) (from : Host) (bytes : List ℕ) (to : Host) : Type 0 where
  pub count : ℕ
  pub lines : to.lines ≡ from.lines + count
  pub each : tells → (s : State) → StandsFor from.engine s → SaysSome old new s from bytes count

-- all these lines were answered
pub record Finishes (tells : Type 0) (old new : History) (from : Host) (lines : List (List ℕ)) (to : Host) : Type 0 where
  pub count : to.lines ≡ from.lines + length lines
  pub each : tells → (s : State) → StandsFor from.engine s → Answered old new s lines

-- the run stopped within these lines
pub record Halts (tells : Type 0) (old new : History) (from : Host) (lines : List (List ℕ)) (to : Host) : Type 0 where
  pub count : ℕ
  pub counted : to.lines ≡ from.lines + count
  pub each : tells → (s : State) → StandsFor from.engine s → AnswersSome old new s lines count
