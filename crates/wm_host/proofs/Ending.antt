-- What a command comes to.
use Rattle.std.proofs.Common.{ℕ, ◌≡◌, ◌⊎◌, ⊎_elim, inl, inr, ◌==◌, true, false, if◌then◌else◌, List, [], ◌∷◌, ◌++◌, length, map, refl, ap, sym, subst, ◌∙◌, append-nil, arith}
use Rattle.std.specs.Prelude.{Result, Ok, Err, OnOk, OnErr, IfErr}
use Rattle.std.specs.List.{list_any}
use Rattle.std.proofs.lemmas.List.{length-map}
use Rattle.wm_faults.specs.declared.fault.OpenFault.{OpenFault}
use Rattle.wm_faults.specs.declared.fault.OpenFault.TheVariants as opening
use Rattle.wm_engine.specs.Working.{FileStands, LeavesAlone}
use Rattle.wm_station.specs.History.{History, now, said, Leaves}
use Rattle.wm_station.specs.Moments.{During, Holds}
use Rattle.wm_station.proofs.Steps.{weaken, followed}
use Rattle.wm_model.specs.Lines.{cap, ended_lines}
use Rattle.wm_state.specs.State.{State, begin}
use Rattle.wm_model.specs.Running.{transcript, after, Stopped}
use Rattle.wm_model.proofs.Running.{transcript-cap, after-cap, Stopped-cap, stopped_all, stopped_before, stopped_front}
use Rattle.wm_host.specs.Crash.{CrashOpens, CrashAnswers, CrashOfRun}
use Rattle.wm_host.specs.Hosting.{Begins, Finishes, Halts}
use Rattle.wm_host.specs.Script.{AnswersTaken}
use Rattle.wm_host.specs.Outcome.{HasSaidFront, Answered, AnswersSome, AnswersEnded, IsUnwritten, TakesAtMost}
use Rattle.wm_host.specs.Cause.{IsOfOpening, IsOfScript, StopsAlone, stop_of_open}
use Rattle.wm_host.specs.Status.{status_of, place_of}
use Rattle.wm_host.specs.declared.host.Host.{Host}
use Rattle.wm_host.specs.declared.stop.Stop.{Stop}
use Rattle.wm_host.specs.declared.stop.Stop.TheVariants.{SourceFault, SayFault, DiskFault, NotStore, Damaged, Exists, InputLimit, Memory, Changed}
use Rattle.wm_host.proofs.Crashing.{crash_answers_cap}
use Rattle.wm_host.proofs.Past.{EachAnswers}

-- ---- statuses

-- what ended with the number, where that is not 7
abbrev ended_by : ℕ → Result (Unit {0}) Stop
ended_by n =
    if n == 0 then Ok tt else
    (if n == 3 then Err SourceFault else
    (if n == 4 then Err SayFault else
    (if n == 5 then Err DiskFault else
    (if n == 6 then Err NotStore else
    (if n == 8 then Err Exists else
    (if n == 9 then Err InputLimit else
    (if n == 10 then Err Memory else Err Changed)))))))

ended_by-status : (run : Result (Unit {0}) Stop) → (status_of run ≡ 7) ⊎ (ended_by (status_of run) ≡ run)
ended_by-status (Ok done) = inr refl
ended_by-status (Err SourceFault) = inr refl
ended_by-status (Err SayFault) = inr refl
ended_by-status (Err DiskFault) = inr refl
ended_by-status (Err NotStore) = inr refl
ended_by-status (Err (Damaged page kind)) = inl refl
ended_by-status (Err Exists) = inr refl
ended_by-status (Err InputLimit) = inr refl
ended_by-status (Err Memory) = inr refl
ended_by-status (Err Changed) = inr refl

-- a status other than 7 says how the run ended
pub at_status : (run end : Result (Unit {0}) Stop) (number : ℕ) → number ≡ status_of run → number ≡ status_of end → (status_of end == 7) ≡ false → run ≡ end
at_status run end number is is_end other = by_end (ended_by-status run) (ended_by-status end) where
  not_seven : (status_of end ≡ 7) → ⊥
  not_seven seven = let e : (7 == 7) ≡ false = ap (λ (n : ℕ). n == 7) (sym seven) ∙ other in cc

  by_end : (status_of run ≡ 7) ⊎ (ended_by (status_of run) ≡ run) → (status_of end ≡ 7) ⊎ (ended_by (status_of end) ≡ end) → run ≡ end
  by_end one (inl seven) = absurd (not_seven seven)
  by_end (inl seven) (inr two) = absurd (not_seven (sym is_end ∙ is ∙ seven))
  by_end (inr one) (inr two) = sym one ∙ ap ended_by (sym is ∙ is_end) ∙ two

pub at_done : {P : Type 0} (run : Result (Unit {0}) Stop) (number : ℕ) → number ≡ status_of run → number ≡ 0 → OnOk run P → P
at_done {P} run number is zero ok = subst (λ r. OnOk r P) (at_status run (Ok tt) number is zero refl) ok

-- a stop with the status of another is that one, and none has that of success
pub stops_by : (stop other : Stop) (number : ℕ) → number ≡ status_of (Err stop) → number ≡ status_of (Err other) → (status_of (Err other) == 7) ≡ false → stop ≡ other
stops_by stop other number is is_other seven = same (at_status (Err stop) (Err other) number is is_other seven) where
  same : ◌≡◌ {A = Result (Unit {0}) Stop} (Err stop) (Err other) → stop ≡ other
  same e = cc

pub stops_not : (stop : Stop) (number : ℕ) → number ≡ status_of (Err stop) → number ≡ 0 → ⊥
stops_not stop number is zero = differ (at_status (Err stop) (Ok tt) number is zero refl) where
  differ : ◌≡◌ {A = Result (Unit {0}) Stop} (Err stop) (Ok tt) → ⊥
  differ e = cc

-- a run whose store was not opened ends with none of these
pub unopened_status : (stop : Stop) (number : ℕ) → number ≡ status_of (Err stop) → IsOfOpening stop → list_any (λ (status : ℕ). status == number) (0 ∷ 3 ∷ 4 ∷ 9 ∷ []) ≡ true → ⊥
unopened_status DiskFault number is of e = let f : list_any (λ (status : ℕ). status == 5) (0 ∷ 3 ∷ 4 ∷ 9 ∷ []) ≡ true = subst (λ (n : ℕ). list_any (λ (status : ℕ). status == n) (0 ∷ 3 ∷ 4 ∷ 9 ∷ []) ≡ true) is e in cc
unopened_status NotStore number is of e = let f : list_any (λ (status : ℕ). status == 6) (0 ∷ 3 ∷ 4 ∷ 9 ∷ []) ≡ true = subst (λ (n : ℕ). list_any (λ (status : ℕ). status == n) (0 ∷ 3 ∷ 4 ∷ 9 ∷ []) ≡ true) is e in cc
unopened_status (Damaged page kind) number is of e = let f : list_any (λ (status : ℕ). status == 7) (0 ∷ 3 ∷ 4 ∷ 9 ∷ []) ≡ true = subst (λ (n : ℕ). list_any (λ (status : ℕ). status == n) (0 ∷ 3 ∷ 4 ∷ 9 ∷ []) ≡ true) is e in cc
unopened_status Memory number is of e = let f : list_any (λ (status : ℕ). status == 10) (0 ∷ 3 ∷ 4 ∷ 9 ∷ []) ≡ true = subst (λ (n : ℕ). list_any (λ (status : ℕ). status == n) (0 ∷ 3 ∷ 4 ∷ 9 ∷ []) ≡ true) is e in cc
unopened_status SourceFault number is of e = of
unopened_status SayFault number is of e = of
unopened_status Exists number is of e = of
unopened_status InputLimit number is of e = of
unopened_status Changed number is of e = of

-- ---- what ends a run before anything was written

-- what ended the opening left the file alone, where its fault did
pub alone_of_open : (fault : OpenFault) → StopsAlone (stop_of_open fault) → LeavesAlone fault
alone_of_open opening.Disk alone = alone
alone_of_open opening.NotStore alone = alone
alone_of_open (opening.Damaged page kind) alone = alone
alone_of_open opening.Memory alone = alone

-- the place is that of what ended it
pub alone_at_place : (stop : Stop) → IsUnwritten (place_of (Err stop)) → StopsAlone stop
alone_at_place (Damaged page kind) unwritten = unwritten
alone_at_place NotStore unwritten = absurd unwritten
alone_at_place DiskFault unwritten = unwritten
alone_at_place SourceFault unwritten = unwritten
alone_at_place SayFault unwritten = unwritten
alone_at_place Exists unwritten = unwritten
alone_at_place InputLimit unwritten = unwritten
alone_at_place Memory unwritten = unwritten
alone_at_place Changed unwritten = unwritten

-- and so is a file that is no store
pub alone_at_status : (stop : Stop) (number : ℕ) → number ≡ status_of (Err stop) → number ≡ 6 → StopsAlone stop
alone_at_status stop number is six = let same : stop ≡ NotStore = err_same (at_status (Err stop) (Err NotStore) number is six refl) in subst StopsAlone (sym same) tt where
  err_same : ◌≡◌ {A = Result (Unit {0}) Stop} (Err stop) (Err NotStore) → stop ≡ NotStore
  err_same e = cc

-- a run over the lines names no page
pub placed_by_script : (run : Result (Unit {0}) Stop) → IfErr run IsOfScript → IsUnwritten (place_of run) → ⊥
placed_by_script (Ok done) of unwritten = unwritten
placed_by_script (Err (Damaged page kind)) of unwritten = of
placed_by_script (Err NotStore) of unwritten = of
placed_by_script (Err DiskFault) of unwritten = unwritten
placed_by_script (Err SourceFault) of unwritten = unwritten
placed_by_script (Err SayFault) of unwritten = unwritten
placed_by_script (Err Exists) of unwritten = unwritten
placed_by_script (Err InputLimit) of unwritten = unwritten
placed_by_script (Err Memory) of unwritten = unwritten
placed_by_script (Err Changed) of unwritten = unwritten

-- ---- the bytes taken

pub takes_none : (limit : ℕ) (script left : List ℕ) → left ≡ script → TakesAtMost limit script left
takes_none limit script left same = record { taken = []; script_is = sym same; few = omega arith }

-- ---- where a run begins

-- sessions and the moment stand in no file
pub file_begins : (file : List ℕ) (s : State) (moment : ℕ) → FileStands file s → FileStands file (begin s moment)
unfolding begin
file_begins file s moment stands = record { records = stands.records; held = stands.held; stands = stands.stands; lawful = stands.lawful }

-- nothing was said, and the file stands for the state at entry
stands_before : (old : History) (s : State) (moment : ℕ) (ls : List (List ℕ)) (file after_it : List ℕ) → FileStands file s → after_it ≡ said old → CrashAnswers old (begin s moment) ls file after_it
stands_before old s moment ls file after_it stands quiet = record {
  out = [];
  said_is = quiet ∙ sym (append-nil (said old));
  count = 0;
  end = begin s moment;
  stopped = stopped_before (begin s moment) ls;
  stands = file_begins file s moment stands;
}

-- a crash while the store is opened
pub crash_opened : (old new : History) (s : State) (moment : ℕ) (ls : List (List ℕ)) → During old new (CrashOpens old s) → During old new (CrashOfRun old (begin s moment) ls)
crash_opened old new s moment ls crash = weaken old new (CrashOpens old s) (CrashOfRun old (begin s moment) ls) (λ file after_it opens. by_kind file after_it opens.1 opens.0) crash where
  by_kind : (file after_it : List ℕ) → after_it ≡ said old → Leaves old file ⊎ FileStands file s → CrashOfRun old (begin s moment) ls file after_it
  by_kind file after_it quiet (inl leaves) = inl (leaves, quiet)
  by_kind file after_it quiet (inr stands) = inr (stands_before old s moment ls file after_it stands quiet)

pub stands_unopened : (old new : History) (s : State) (moment : ℕ) (ls : List (List ℕ)) → FileStands (now new) s → said new ≡ said old → CrashAnswers old (begin s moment) ls (now new) (said new)
stands_unopened old new s moment ls stands quiet = stands_before old s moment ls (now new) (said new) stands quiet

pub counted_unopened : (old new : History) (s : State) (ls : List (List ℕ)) → said new ≡ said old → AnswersSome old new s ls 0
counted_unopened old new s ls quiet = record { out = []; says = quiet ∙ sym (append-nil (said old)); end = s; stopped = stopped_before s ls }

-- ---- a run over the lines, once the store is open

-- all of the lines were answered
pub answers_all : (tells : Type 0) (old begun new : History) (from to : Host) (moment : ℕ) (ls : List (List ℕ)) → Begins tells old begun from moment → said begun ≡ said old
    → Finishes tells begun new from (map cap ls) to → tells → (s : State) → FileStands (now old) s → Answered old new (begin s moment) ls
answers_all tells old begun new from to moment ls begins quiet finishes t s stands = by_lines (finishes.each t (begin s moment) (begins.each t s stands)) where
  by_lines : Answered begun new (begin s moment) (map cap ls) → Answered old new (begin s moment) ls
  by_lines answered = record {
    says = answered.says ∙ ap (λ (b : List ℕ). b ++ transcript (begin s moment) (map cap ls)) quiet ∙ ap (λ (out : List ℕ). said old ++ out) (transcript-cap (begin s moment) ls);
    stands = subst (λ (end : State). Holds new (λ file. FileStands file end)) (after-cap (begin s moment) ls) answered.stands;
  }

pub counts_all : (tells : Type 0) (begun new : History) (from to : Host) (ls : List (List ℕ)) → from.lines ≡ 0 → Finishes tells begun new from (map cap ls) to → to.lines ≡ length ls
counts_all tells begun new from to ls none finishes = omega (arith, finishes.count, none, length-map ls cap)

-- so many of them were answered whole
pub answers_at_end : (tells : Type 0) (old begun new : History) (from to : Host) (moment : ℕ) (ls : List (List ℕ)) (run : Result (Unit {0}) Stop) → Begins tells old begun from moment → said begun ≡ said old
    → OnOk run (Finishes tells begun new from (map cap ls) to) → OnErr run (Halts tells begun new from (map cap ls) to)
    → tells → (s : State) → FileStands (now old) s → AnswersSome old new (begin s moment) ls to.lines
answers_at_end tells old begun new from to moment ls (Ok done) begins quiet ok err t s stands = record {
  out = transcript (begin s moment) ls;
  says = (answers_all tells old begun new from to moment ls begins quiet ok t s stands).says;
  end = after (begin s moment) ls;
  stopped = subst (λ (count : ℕ). Stopped (begin s moment) ls (transcript (begin s moment) ls) count (after (begin s moment) ls)) (sym (counts_all tells begun new from to ls begins.none ok)) (stopped_all (begin s moment) ls);
}
answers_at_end tells old begun new from to moment ls (Err stop) begins quiet ok err t s stands = by_some (err.each t (begin s moment) (begins.each t s stands)) where
  counted : err.count ≡ to.lines
  counted = omega (arith, err.counted, begins.none)

  by_some : AnswersSome begun new (begin s moment) (map cap ls) err.count → AnswersSome old new (begin s moment) ls to.lines
  by_some some = record {
    out = some.out;
    says = some.says ∙ ap (λ (b : List ℕ). b ++ some.out) quiet;
    end = some.end;
    stopped = Stopped-cap (begin s moment) ls some.out to.lines some.end (subst (λ (count : ℕ). Stopped (begin s moment) (map cap ls) some.out count some.end) counted some.stopped);
  }

pub front_of_answers : (old new : History) (s : State) (ls : List (List ℕ)) (count : ℕ) → AnswersSome old new s ls count → HasSaidFront old new (transcript s ls)
front_of_answers old new s ls count some = record {
  front = some.out;
  says = some.says;
  rest = whole.0;
  is = whole.1;
} where
  whole : (rest : List ℕ) × (transcript s ls ≡ some.out ++ rest)
  whole = stopped_front s ls some.out count some.end some.stopped

pub answers_ended : (tells : Type 0) (old begun new : History) (from to : Host) (moment : ℕ) (script left : List ℕ) → Begins tells old begun from moment → said begun ≡ said old
    → AnswersTaken tells begun new from to script left → tells → AnswersEnded old new moment script left to.lines
answers_ended tells old begun new from to moment script left begins quiet taken t = record {
  taken = taken.taken;
  script_is = taken.script_is;
  count_is = counts_all tells begun new from to (ended_lines taken.taken) begins.none taken.lines;
  each = answers_all tells old begun new from to moment (ended_lines taken.taken) begins quiet taken.lines t;
}

-- a crash in the run
pub crash_ran : (tells : Type 0) (old begun new : History) (from : Host) (moment : ℕ) (ls : List (List ℕ)) → Begins tells old begun from moment → said begun ≡ said old
    → (s : State) → During old begun (CrashOpens old s) → EachAnswers tells begun new from (map cap ls) → tells → FileStands (now old) s → During old new (CrashOfRun old (begin s moment) ls)
crash_ran tells old begun new from moment ls begins quiet s opening each t stands =
    weaken old new (λ file after_it. CrashOfRun old (begin s moment) ls file after_it ⊎ CrashAnswers begun (begin s moment) (map cap ls) file after_it) (CrashOfRun old (begin s moment) ls)
    (λ file after_it. ⊎_elim (λ was. was) (λ ran. inr (crash_answers_cap old begun (begin s moment) ls file after_it quiet ran)))
    (followed old begun new (CrashOfRun old (begin s moment) ls) (CrashAnswers begun (begin s moment) (map cap ls))
    (crash_opened old begun s moment ls opening)
    (each t (begin s moment) (begins.each t s stands)).crash)

-- and a read after it
pub stands_ran : (tells : Type 0) (old begun new : History) (from : Host) (moment : ℕ) (ls : List (List ℕ)) → Begins tells old begun from moment → said begun ≡ said old
    → EachAnswers tells begun new from (map cap ls) → tells → (s : State) → FileStands (now old) s → CrashAnswers old (begin s moment) ls (now new) (said new)
stands_ran tells old begun new from moment ls begins quiet each t s stands =
    crash_answers_cap old begun (begin s moment) ls (now new) (said new) quiet (each t (begin s moment) (begins.each t s stands)).here
