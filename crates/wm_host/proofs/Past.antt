-- Laws on a script of which the host has taken a part.
use Rattle.std.proofs.Common.{ℕ, ◌≡◌, ◌≤◌, ◌+◌, ◌^◌, true, false, List, [], ◌++◌, length, take, refl, ap, sym, subst, ◌∙◌, append_assoc, append-nil, length-append, arith}
use Rattle.std.proofs.lemmas.List.{take_at, length-take-le}
use Rattle.wm_engine.specs.Working.{FileStands, StandsFor}
use Rattle.wm_engine.proofs.Working.{stands_over}
use Rattle.wm_station.specs.History.{History}
use Rattle.wm_station.specs.Moments.{Holds}
use Rattle.wm_model.specs.Lines.{capped, HasNoLf}
use Rattle.wm_state.specs.State.{State, fresh}
use Rattle.wm_model.specs.Running.{transcript, after, Stopped}
use Rattle.wm_model.proofs.Running.{transcript-append, after-append, ran_lines, ran_ended_lines, stopped_after}
use Rattle.wm_host.specs.Crash.{Throughout, CrashRuns, CrashAnswers}
use Rattle.wm_host.specs.Hosting.{standing, WorksSoundly, Says, SaysSome, Breaks, Finishes, Halts}
use Rattle.wm_host.specs.Outcome.{HasSaid, Answered, AnswersSome, TakesAtMost}
use Rattle.wm_host.specs.Script.{AnswersTaken, AnswersToLimit}
use Rattle.wm_host.specs.declared.host.Host.{Host}
use Rattle.wm_host.proofs.Throughout.{throughout_weaker, throughout_more}
use Rattle.wm_host.proofs.Crashing.{EachRuns, crash_runs_begun, crash_runs_more, crash_answers_front, crash_answers_behind}
use Rattle.wm_host.proofs.Hosting.{has_said_more, says_begun, says_more, says_then_breaks, breaks_before}

-- the bytes taken so far, where the source tells its script, and what the host did with them
pub record Past (source_tells tells : Type 0) (script left : List ℕ) (old new : History) (from to : Host) (taken : ℕ) : Type 0 where
  pub past : List ℕ
  pub script_is : source_tells → script ≡ past ++ left
  pub size : length past ≡ taken
  pub says : Says tells old new from past to
  pub crash : EachRuns tells old new from past

pub past_begun : (source_tells tells : Type 0) (script : List ℕ) (history : History) (host : Host) → host.line ≡ [] → (tells → WorksSoundly host.engine history) → Past source_tells tells script script history history host host 0
past_begun source_tells tells script history host none works = record {
  past = [];
  script_is = λ s. refl;
  size = refl;
  says = says_begun tells history host (subst HasNoLf (sym none) tt) works;
  crash = λ t s for. crash_runs_begun history s host [] (stands_over host.engine history s (works t).works for);
}

pub past_more : (source_tells tells : Type 0) (script left rest into : List ℕ) (first middle last : History) (a b c : Host) (taken n : ℕ)
    → Past source_tells tells script left first middle a b taken → n ≤ length into → (source_tells → left ≡ take n into ++ rest)
    → Says tells middle last b (take n into) c → EachRuns tells middle last b (take n into) → Past source_tells tells script rest first last a c (taken + n)
past_more source_tells tells script left rest into first middle last a b c taken n so_far within next says crash = record {
  past = so_far.past ++ take n into;
  script_is = λ s. so_far.script_is s ∙ ap (λ (l : List ℕ). so_far.past ++ l) (next s) ∙ sym (append_assoc so_far.past (take n into) rest);
  size = omega (arith, so_far.size, length-append so_far.past (take n into), length-take-le n into within);
  says = says_more tells first middle last a b c so_far.past (take n into) so_far.says says;
  crash = λ t s for. crash_runs_more tells first middle last s a b so_far.past (take n into) so_far.says t for (so_far.crash t s for) (crash t (after s so_far.says.done) (so_far.says.stands s for));
}

-- what was answered before, and the lines answered at the end of the script
finishes_more : (tells : Type 0) (first middle last : History) (a b c : Host) (past : List ℕ) (lines : List (List ℕ)) (says : Says tells first middle a past b)
    → Finishes tells middle last b lines c → Finishes tells first last a (says.done ++ lines) c
finishes_more tells first middle last a b c past lines says finishes = record {
  count = omega (arith, says.lines, finishes.count, length-append says.done lines);
  each = λ t s for. by_lines t s for (finishes.each t (after s says.done) (says.stands s for));
} where
  by_lines : tells → (s : State) → StandsFor a.engine s → Answered middle last (after s says.done) lines → Answered first last s (says.done ++ lines)
  by_lines t s for answered = record {
    says = subst (λ (out : List ℕ). HasSaid first last out) (sym (transcript-append s says.done lines))
        (has_said_more first middle last (transcript s says.done) (transcript (after s says.done) lines) (says.says t s for) answered.says);
    stands = subst (λ (end : State). Holds last (λ file. FileStands file end)) (sym (after-append s says.done lines)) answered.stands;
  }

halts_more : (tells : Type 0) (first middle last : History) (a b c : Host) (past : List ℕ) (lines : List (List ℕ)) (says : Says tells first middle a past b)
    → Halts tells middle last b lines c → Halts tells first last a (says.done ++ lines) c
halts_more tells first middle last a b c past lines says halts = record {
  count = length says.done + halts.count;
  counted = omega (arith, says.lines, halts.counted);
  each = λ t s for. by_lines t s for (halts.each t (after s says.done) (says.stands s for));
} where
  by_lines : tells → (s : State) → StandsFor a.engine s → AnswersSome middle last (after s says.done) lines halts.count → AnswersSome first last s (says.done ++ lines) (length says.done + halts.count)
  by_lines t s for some = record {
    out = transcript s says.done ++ some.out;
    says = has_said_more first middle last (transcript s says.done) some.out (says.says t s for) some.says;
    end = some.end;
    stopped = stopped_after s says.done lines some.out halts.count some.end some.stopped;
  }

-- the lines of the whole script, at its end; they depend on no state
lines_at_end : (tells : Type 0) (script left past : List ℕ) (old new : History) (from to : Host) → from.line ≡ [] → script ≡ past ++ left → left ≡ []
    → (says : Says tells old new from past to) → capped true script ≡ says.done ++ capped true to.line
lines_at_end tells script left past old new from to empty is none says =
    ap (capped true) is
    ∙ ran_lines (standing (fresh 0) from) (standing (after (fresh 0) says.done) to) past left says.done empty (says.ran (fresh 0))
    ∙ ap (λ (rest : List ℕ). says.done ++ capped true rest) (ap (λ (l : List ℕ). to.line ++ l) none ∙ append-nil to.line)

pub past_finished : (source_tells tells : Type 0) (script left : List ℕ) (first middle last : History) (a b c : Host) (taken : ℕ) → a.line ≡ []
    → Past source_tells tells script left first middle a b taken → (source_tells → left ≡ []) → Finishes tells middle last b (capped true b.line) c
    → source_tells → Finishes tells first last a (capped true script) c
past_finished source_tells tells script left first middle last a b c taken empty so_far end finishes s =
    subst (λ (lines : List (List ℕ)). Finishes tells first last a lines c)
    (sym (lines_at_end tells script left so_far.past first middle a b empty (so_far.script_is s) (end s) so_far.says))
    (finishes_more tells first middle last a b c so_far.past (capped true b.line) so_far.says finishes)

pub past_halted : (source_tells tells : Type 0) (script left : List ℕ) (first middle last : History) (a b c : Host) (taken : ℕ) → a.line ≡ []
    → Past source_tells tells script left first middle a b taken → (source_tells → left ≡ []) → Halts tells middle last b (capped true b.line) c
    → source_tells → Halts tells first last a (capped true script) c
past_halted source_tells tells script left first middle last a b c taken empty so_far end halts s =
    subst (λ (lines : List (List ℕ)). Halts tells first last a lines c)
    (sym (lines_at_end tells script left so_far.past first middle a b empty (so_far.script_is s) (end s) so_far.says))
    (halts_more tells first middle last a b c so_far.past (capped true b.line) so_far.says halts)

-- a run that stopped in a front of the script
halts_in_front : (tells : Type 0) (script front rest : List ℕ) (old new : History) (from to : Host) → from.line ≡ [] → script ≡ front ++ rest
    → Breaks tells old new from front to → Halts tells old new from (capped true script) to
halts_in_front tells script front rest old new from to empty is breaks = record {
  count = breaks.count;
  counted = breaks.lines;
  each = λ t s for. by_some s (breaks.each t s for);
} where
  by_some : (s : State) → SaysSome old new s from front breaks.count → AnswersSome old new s (capped true script) breaks.count
  by_some s some = record {
    out = some.out;
    says = some.says;
    end = some.end;
    stopped = subst (λ (bytes : List ℕ). Stopped s (capped true bytes) some.out breaks.count some.end)
        (ap (λ (held : List ℕ). held ++ (front ++ rest)) empty ∙ sym is) (some.cut.stops rest);
  }

pub past_broken : (source_tells tells : Type 0) (script left rest into : List ℕ) (first middle last : History) (a b c : Host) (taken n : ℕ) → a.line ≡ []
    → Past source_tells tells script left first middle a b taken → (source_tells → left ≡ take n into ++ rest)
    → Breaks tells middle last b (take n into) c → source_tells → Halts tells first last a (capped true script) c
past_broken source_tells tells script left rest into first middle last a b c taken n empty so_far next breaks s =
    halts_in_front tells script (so_far.past ++ take n into) rest first last a c empty
    (so_far.script_is s ∙ ap (λ (l : List ℕ). so_far.past ++ l) (next s) ∙ sym (append_assoc so_far.past (take n into) rest))
    (says_then_breaks tells first middle last a b c so_far.past (take n into) so_far.says breaks)

-- a run that stopped between two takes
pub past_stopped : (source_tells tells : Type 0) (script left : List ℕ) (old new : History) (from to : Host) (taken : ℕ) → from.line ≡ []
    → Past source_tells tells script left old new from to taken → source_tells → Halts tells old new from (capped true script) to
past_stopped source_tells tells script left old new from to taken empty so_far s =
    halts_in_front tells script (so_far.past ++ []) left old new from to empty
    (so_far.script_is s ∙ ap (λ (l : List ℕ). l ++ left) (sym (append-nil so_far.past)))
    (says_then_breaks tells old new new from to to so_far.past [] so_far.says (breaks_before tells new to [] to.line))

-- the lines that LF ended in what was taken
past_ended : (source_tells tells : Type 0) (script left : List ℕ) (old new : History) (from to : Host) (taken : ℕ) → from.line ≡ []
    → (so_far : Past source_tells tells script left old new from to taken) → Finishes tells old new from (capped false so_far.past) to
past_ended source_tells tells script left old new from to taken empty so_far =
    rw (ran_ended_lines (standing (fresh 0) from) (standing (after (fresh 0) so_far.says.done) to) so_far.past so_far.says.done empty so_far.says.no_lf (so_far.says.ran (fresh 0)))
    (record {
      count = so_far.says.lines;
      each = λ t s for. record {
        says = so_far.says.says t s for;
        stands = stands_over to.engine new (after s so_far.says.done) (so_far.says.works t).works (so_far.says.stands s for);
      };
    })

pub past_taken : (source_tells tells : Type 0) (script left same : List ℕ) (old new : History) (from to : Host) (taken : ℕ) → from.line ≡ []
    → Past source_tells tells script left old new from to taken → (source_tells → same ≡ left) → source_tells → AnswersTaken tells old new from to script same
past_taken source_tells tells script left same old new from to taken empty so_far untaken s = record {
  taken = so_far.past;
  script_is = so_far.script_is s ∙ ap (λ (l : List ℕ). so_far.past ++ l) (sym (untaken s));
  lines = past_ended source_tells tells script left old new from to taken empty so_far;
}

pub past_limit : (source_tells tells : Type 0) (script left rest into : List ℕ) (old new : History) (from to : Host) (taken n : ℕ) → from.line ≡ []
    → Past source_tells tells script left old new from to taken → taken ≡ 2 ^ 30 → (n ≡ 0 → ⊥) → n ≤ length into → (source_tells → left ≡ take n into ++ rest)
    → source_tells → AnswersToLimit tells old new from to script
past_limit source_tells tells script left rest into old new from to taken n empty so_far full more within next s = record {
  long = omega (arith, ap length (so_far.script_is s), ap length (next s), length-append so_far.past left, length-append (take n into) rest, length-take-le n into within, so_far.size);
  lines = rw (ap (take (2 ^ 30)) (so_far.script_is s) ∙ take_at so_far.past left (2 ^ 30) (so_far.size ∙ full))
      (past_ended source_tells tells script left old new from to taken empty so_far);
}

-- the bytes taken before a take that failed
pub past_untaken : (source_tells tells : Type 0) (script left same : List ℕ) (old new : History) (from to : Host) (taken limit : ℕ)
    → Past source_tells tells script left old new from to taken → (source_tells → same ≡ left) → taken ≤ limit → source_tells → TakesAtMost limit script same
past_untaken source_tells tells script left same old new from to taken limit so_far untaken few s = record {
  taken = so_far.past;
  script_is = so_far.script_is s ∙ ap (λ (l : List ℕ). so_far.past ++ l) (sym (untaken s));
  few = omega (arith, few, so_far.size);
}

-- the bytes taken before a take, and those that it took
pub past_few : (source_tells tells : Type 0) (script left rest into : List ℕ) (old new : History) (from to : Host) (taken n limit : ℕ)
    → Past source_tells tells script left old new from to taken → n ≤ length into → (source_tells → left ≡ take n into ++ rest) → taken + n ≤ limit
    → source_tells → TakesAtMost limit script rest
past_few source_tells tells script left rest into old new from to taken n limit so_far within next few s = record {
  taken = so_far.past ++ take n into;
  script_is = so_far.script_is s ∙ ap (λ (l : List ℕ). so_far.past ++ l) (next s) ∙ sym (append_assoc so_far.past (take n into) rest);
  few = omega (arith, few, so_far.size, length-append so_far.past (take n into), length-take-le n into within);
}

-- what a crash of a run over the whole script leaves, for each state that the engine stands for
abbrev pub EachAnswers : Type 0 → History → History → Host → List (List ℕ) → Type 0
EachAnswers tells old new from lines = tells → (s : State) → StandsFor from.engine s → Throughout old new (CrashAnswers old s lines)

-- a crash, up to each of the places where a run ends
pub past_crash : (source_tells tells : Type 0) (script left : List ℕ) (old new : History) (from to : Host) (taken : ℕ) → from.line ≡ []
    → Past source_tells tells script left old new from to taken → source_tells → EachAnswers tells old new from (capped true script)
past_crash source_tells tells script left old new from to taken empty so_far r t s for =
    throughout_weaker old new (CrashRuns old s from so_far.past) (CrashAnswers old s (capped true script))
    (λ file after_it. crash_answers_front old s from script so_far.past left file after_it empty (so_far.script_is r)) (so_far.crash t s for)

pub past_crash_finish : (source_tells tells : Type 0) (script left : List ℕ) (first middle last : History) (a b : Host) (taken : ℕ) → a.line ≡ []
    → Past source_tells tells script left first middle a b taken → (source_tells → left ≡ []) → EachAnswers tells middle last b (capped true b.line)
    → source_tells → EachAnswers tells first last a (capped true script)
past_crash_finish source_tells tells script left first middle last a b taken empty so_far end crash r t s for =
    throughout_more first middle last (CrashAnswers first s (capped true script)) (CrashAnswers middle (after s so_far.says.done) (capped true b.line)) (CrashAnswers first s (capped true script))
    (λ file after_it was. was)
    (λ file after_it now_is.
    subst (λ (lines : List (List ℕ)). CrashAnswers first s lines file after_it)
    (sym (lines_at_end tells script left so_far.past first middle a b empty (so_far.script_is r) (end r) so_far.says))
    (crash_answers_behind tells first middle s a b so_far.past (capped true b.line) file after_it so_far.says t for now_is))
    (past_crash source_tells tells script left first middle a b taken empty so_far r t s for)
    (crash t (after s so_far.says.done) (so_far.says.stands s for))

pub past_crash_broken : (source_tells tells : Type 0) (script left rest into : List ℕ) (first middle last : History) (a b : Host) (taken n : ℕ) → a.line ≡ []
    → Past source_tells tells script left first middle a b taken → (source_tells → left ≡ take n into ++ rest) → EachRuns tells middle last b (take n into)
    → source_tells → EachAnswers tells first last a (capped true script)
past_crash_broken source_tells tells script left rest into first middle last a b taken n empty so_far next crash r t s for =
    throughout_weaker first last (CrashRuns first s a (so_far.past ++ take n into)) (CrashAnswers first s (capped true script))
    (λ file after_it. crash_answers_front first s a script (so_far.past ++ take n into) rest file after_it empty
    (so_far.script_is r ∙ ap (λ (l : List ℕ). so_far.past ++ l) (next r) ∙ sym (append_assoc so_far.past (take n into) rest)))
    (crash_runs_more tells first middle last s a b so_far.past (take n into) so_far.says t for (so_far.crash t s for) (crash t (after s so_far.says.done) (so_far.says.stands s for)))
