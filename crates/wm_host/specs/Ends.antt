-- How the commands end: a promise a field. Where a field names no status, it holds at each.
use Rattle.std.specs.Prelude.{ℕ, ◌≡◌, ◌+◌, ◌^◌, ◌<◌, ◌≤◌, ◌↔◌, ◌⊎◌, ◌==◌, true, false, List, [], ◌∷◌, length, take, Option, None, Some}
use Rattle.std.specs.List.{list_any}
use Rattle.wm_engine.specs.Working.{FileStands, IsSound}
use Rattle.wm_journal.specs.Disk.{is_made}
use Rattle.wm_model.specs.Lines.{lines, ended_lines}
use Rattle.wm_model.specs.Running.{transcript}
use Rattle.wm_state.specs.State.{State, begin, fresh}
use Rattle.wm_station.specs.Cause.{Rises}
use Rattle.wm_station.specs.History.{History, Synced, now, said, Leaves}
use Rattle.wm_station.specs.Moments.{During, Holds}
use Rattle.wm_station.specs.declared.source.Source.{Ghosts as Source}
use Rattle.wm_station.specs.declared.station.Station.{Ghosts as Station}
use Rattle.wm_store.specs.Opened.{HoldsAs}
use Rattle.wm_words.specs.declared.command.Command.{Command}
use Rattle.wm_words.specs.declared.command.Command.TheVariants.{Init, Run, Check, Load}
use Rattle.wm_host.specs.Crash.{CrashAnswers, CrashOfRun}
use Rattle.wm_host.specs.Loading.{CrashOfLoad, Loaded, LoadsSome}
use Rattle.wm_host.specs.Outcome.{CrashChecks, HasSaid, HasSaidFront, HoldsBehindSync, HoldsSame, Answered, AnswersSome, AnswersEnded, IsDamaged, IsPage, IsUnwritten, StaysSound, TakesAtMost, load_lines, ok_text}
use Rattle.wm_host.specs.declared.ended.Ended.{Ended}
use Rattle.wm_host.specs.declared.ended.Place.TheVariants.{Nowhere}

-- ---- whichever the command

-- what a status says of the store
pub record StoreTells (tells : Type 0) (old new : History) (it : Ended) : Type 0 where
  -- 6: the file is no store, stays as it is, and is only synced
  pub not_store : it.status ≡ 6 → tells → (is_made (now old) ≡ false) × (now new ≡ now old)
  pub synced : it.status ≡ 6 → tells → new ≡ Synced old
  -- 7: the first test of opening that fails is the one that the place names; at no other status is it a page
  pub damaged : it.status ≡ 7 → tells → IsDamaged it.place (now old)
  pub place : (it.status ≡ 7) ↔ IsPage it.place
  -- where that is page 0 with short, format or journal, the file is only synced too
  pub unwritten : IsUnwritten it.place → tells → new ≡ Synced old
  -- neither comes where the file stands for some state, and nothing was said
  pub sound : (it.status ≡ 6) ⊎ (it.status ≡ 7) → tells → (s : State) → FileStands (now old) s → ⊥
  pub unsaid : (it.status ≡ 6) ⊎ (it.status ≡ 7) → tells → said new ≡ said old
  pub unopened : (it.status ≡ 6) ⊎ (it.status ≡ 7) → it.lines ≡ 0
  -- at both the pages are held as they were, also by what a crash within the command leaves
  pub pages : (it.status ≡ 6) ⊎ (it.status ≡ 7) → tells → HoldsAs (now old) (now new)
  pub pages_any_moment : (it.status ≡ 6) ⊎ (it.status ≡ 7) → tells → During old new (λ c s. (Leaves old c ⊎ HoldsAs (now old) c) × (s ≡ said old))
  -- 8: there was a store, and nothing was done
  pub exists : it.status ≡ 8 → tells → (is_made (now old) ≡ true) × (new ≡ old)
  -- 11 comes never over a station that tells its content
  pub unchanged : it.status ≡ 11 → tells → ⊥

-- what the counts of faults of the station say: 4 and 5 come only where theirs rose, 0 only where neither did, 10 only where that
-- of the disk did not
pub record FaultsTell {P : Type 0} (station : Station P) (old new : P) (it : Ended) : Type 0 where
  pub say : it.status ≡ 4 → Rises (station.say_faults old) (station.say_faults new)
  pub disk : it.status ≡ 5 → Rises (station.disk_faults old) (station.disk_faults new)
  pub say_kept : it.status ≡ 0 → station.say_faults new ≡ station.say_faults old
  pub disk_kept : (it.status ≡ 0) ⊎ (it.status ≡ 10) → station.disk_faults new ≡ station.disk_faults old
  -- neither falls
  pub say_later : station.say_faults old ≤ station.say_faults new
  pub disk_later : station.disk_faults old ≤ station.disk_faults new

-- what is so of the source
pub record SourceTells {S : Type 0} (source : Source S) (old new : S) (it : Ended) : Type 0 where
  -- at most one byte is taken past the limit
  pub few : source.tells → TakesAtMost (2 ^ 30 + 1) (source.left old) (source.left new)
  -- 9: the script is longer than its limit, and the lines that LF ended in its first 2^30 bytes are counted
  pub limit : it.status ≡ 9 → source.tells → 2 ^ 30 < length (source.left old)
  pub counted_to_limit : it.status ≡ 9 → source.tells → it.lines ≡ length (ended_lines (take (2 ^ 30) (source.left old)))
  -- a store that is not opened leaves it alone
  pub unopened : (it.status ≡ 6) ⊎ (it.status ≡ 7) → new ≡ old
  -- 3 comes only where its count of faults rose, and 0 only where that did not; it does not fall
  pub failed : it.status ≡ 3 → Rises (source.faults old) (source.faults new)
  pub kept : it.status ≡ 0 → source.faults new ≡ source.faults old
  pub later : source.faults old ≤ source.faults new

-- a store whose records keep the rules stays one, whether or not it stands for a state
pub record KeepsSound (tells : Type 0) (old new : History) (it : Ended) : Type 0 where
  -- these statuses come only where the file was one
  pub opened : list_any (λ status. status == it.status) (0 ∷ 3 ∷ 4 ∷ 9 ∷ []) ≡ true → tells → IsSound (now old)
  -- after them it is one still, and so is each file that a crash may leave from then on
  pub still : list_any (λ status. status == it.status) (0 ∷ 3 ∷ 4 ∷ 9 ∷ []) ≡ true → tells → Holds new IsSound
  -- it stays one also at a crash within the command
  pub kept_sound : tells → IsSound (now old) → StaysSound old new

-- ---- each command

-- `init`
pub record InitEnds (tells : Type 0) (limit : ℕ) (old new : History) (it : Ended) : Type 0 where
  -- 0: the whole of `OK` was said; else a front of it, and nothing where the disk failed
  pub done : it.status ≡ 0 → tells → HasSaid old new ok_text
  pub front : tells → HasSaidFront old new ok_text
  pub unsaid : it.status ≡ 5 → tells → said new ≡ said old
  -- 0 or 4: there was no store, and what a read gives and each crash leaves is a fresh one
  pub made : (it.status ≡ 0) ⊎ (it.status ≡ 4) → tells → Holds new (λ file. FileStands file (fresh limit))
  pub absent : (it.status ≡ 0) ⊎ (it.status ≡ 4) → tells → is_made (now old) ≡ false
  -- a store that is there is never touched
  pub kept : tells → is_made (now old) ≡ true → new ≡ old
  pub statuses : list_any (λ status. status == it.status) (0 ∷ 4 ∷ 5 ∷ 8 ∷ 10 ∷ []) ≡ true
  pub lines : it.lines ≡ 0
  pub place : it.place ≡ Nowhere

-- `run`, over a script of which this is left, from each state that the file stands for, at a moment
pub record RunEnds (reads tells : Type 0) (moment : ℕ) (script left : List ℕ) (old new : History) (it : Ended) : Type 0 where
  -- 0: all lines were answered, the file stands for the state that they leave, and the script is at its end
  pub done : it.status ≡ 0 → reads → tells → (s : State) → FileStands (now old) s → Answered old new (begin s moment) (lines script)
  pub all : it.status ≡ 0 → reads → it.lines ≡ length (lines script)
  pub end : it.status ≡ 0 → reads → left ≡ []
  pub within : it.status ≡ 0 → reads → length script ≤ 2 ^ 30
  -- 3: the lines that LF ended in the bytes taken were answered; 9: those in the first 2^30
  pub ended : it.status ≡ 3 → reads → tells → AnswersEnded old new moment script left it.lines
  pub to_limit : it.status ≡ 9 → reads → tells → (s : State) → FileStands (now old) s → Answered old new (begin s moment) (ended_lines (take (2 ^ 30) script))
  -- a front of the answers was said, lines are those that were answered whole, and the file stands for the state after the lines
  -- answered or after one more
  pub front : reads → tells → (s : State) → FileStands (now old) s → HasSaidFront old new (transcript (begin s moment) (lines script))
  pub counted : reads → tells → (s : State) → FileStands (now old) s → AnswersSome old new (begin s moment) (lines script) it.lines
  pub stands : reads → tells → (s : State) → FileStands (now old) s → CrashAnswers old (begin s moment) (lines script) (now new) (said new)
  -- a crash at any moment leaves a file that one before the run could, with nothing said; or one that stands for the state after the
  -- lines answered or after one more, and that where a part of its answer was said
  pub crash : reads → tells → (s : State) → FileStands (now old) s → During old new (CrashOfRun old (begin s moment) (lines script))
  pub keeps : KeepsSound tells old new it
  pub statuses : list_any (λ status. status == it.status) (0 ∷ 3 ∷ 4 ∷ 5 ∷ 6 ∷ 7 ∷ 9 ∷ 10 ∷ 11 ∷ []) ≡ true

-- `check`
pub record CheckEnds (tells : Type 0) (old new : History) (it : Ended) : Type 0 where
  -- 0: the whole of `OK` was said; else a front of it, and nothing where the disk failed
  pub done : it.status ≡ 0 → tells → HasSaid old new ok_text
  pub front : tells → HasSaidFront old new ok_text
  pub unsaid : it.status ≡ 5 → tells → said new ≡ said old
  -- 0 or 4: the store was opened, so the file was one whose records keep the rules, and what a read gives and each crash from then
  -- on leaves holds the same records
  pub opened : (it.status ≡ 0) ⊎ (it.status ≡ 4) → tells → IsSound (now old)
  pub same : (it.status ≡ 0) ⊎ (it.status ≡ 4) → tells → Holds new (HoldsSame (now old))
  -- the pages are held as they were, also by what a crash within it leaves, and, once there was a sync, by each
  pub pages : tells → HoldsAs (now old) (now new)
  pub crash : tells → During old new (CrashChecks old)
  pub behind_sync : tells → HoldsBehindSync old new
  pub statuses : list_any (λ status. status == it.status) (0 ∷ 4 ∷ 5 ∷ 6 ∷ 7 ∷ 10 ∷ []) ≡ true
  pub lines : it.lines ≡ 0

-- `load`, over the lines that a number draws, from each state that the file stands for, at the store's last moment
pub record LoadEnds (tells : Type 0) (seed count : ℕ) (old new : History) (it : Ended) : Type 0 where
  -- 0: all lines were run, the counts of their answers were said and nothing else, and the file stands for the state that they leave
  pub done : it.status ≡ 0 → tells → (s : State) → FileStands (now old) s → Loaded old new (begin s 0) (load_lines seed count)
  pub all : it.status ≡ 0 → it.lines ≡ length (load_lines seed count)
  -- a front of the counts was said, lines are those that were run, and the file stands for the state after them or after one more
  pub some : tells → (s : State) → FileStands (now old) s → LoadsSome old new (begin s 0) (load_lines seed count) it.lines
  -- nothing is said before all lines were run, and nothing where the disk failed
  pub silent : tells → (said new ≡ said old) ⊎ (it.lines ≡ length (load_lines seed count))
  pub unsaid : it.status ≡ 5 → tells → said new ≡ said old
  -- a crash at any moment leaves a file that one before could, with nothing said; or one that stands for the state after some of the
  -- lines, with a front of the counts said, and after all of them where any was said
  pub crash : tells → (s : State) → FileStands (now old) s → During old new (CrashOfLoad old (begin s 0) (load_lines seed count))
  pub keeps : KeepsSound tells old new it
  pub statuses : list_any (λ status. status == it.status) (0 ∷ 4 ∷ 5 ∷ 6 ∷ 7 ∷ 10 ∷ 11 ∷ []) ≡ true

-- ---- the words of a command

-- words that are none end with 2, or for want of memory with 10, and then nothing was done
pub record Untouched {S P : Type 0} (was is : S) (old new : P) (it : Ended) : Type 0 where
  pub status : (it.status ≡ 2) ⊎ (it.status ≡ 10)
  pub source : is ≡ was
  pub station : new ≡ old
  pub lines : it.lines ≡ 0

module _ {S P : Type 0} (source : Source S) (station : Station P) where
  -- what the command that the words give promises; no other than `run` touches the source
  abbrev pub EndsAs : Option Command → S → S → P → P → Ended → Type 0
  EndsAs None was is old new it = Untouched was is old new it
  EndsAs (Some (Init limit)) was is old new it = InitEnds station.tells limit (station.history old) (station.history new) it × (is ≡ was)
  EndsAs (Some (Run moment)) was is old new it = RunEnds source.tells station.tells moment (source.left was) (source.left is) (station.history old) (station.history new) it
  EndsAs (Some Check) was is old new it = CheckEnds station.tells (station.history old) (station.history new) it × (is ≡ was)
  EndsAs (Some (Load seed count)) was is old new it = LoadEnds station.tells seed count (station.history old) (station.history new) it × (is ≡ was)

  -- how a run of the program ends
  pub record Ends (command : Option Command) (was is : S) (old new : P) (it : Ended) : Type 0 where
    -- status 2 comes only for words that are not in the grammar
    pub usage : it.status ≡ 2 → command ≡ None
    pub command_ends : EndsAs command was is old new it
    pub store : StoreTells station.tells (station.history old) (station.history new) it
    pub source_is : SourceTells source was is it
    pub faults : FaultsTell station old new it
