-- What a crash may leave, over one stretch of a run after another.
use Rattle.std.proofs.Common.{ℕ, ◌≡◌, ◌<◌, ◌≤◌, ◌+◌, ◌⊎◌, inl, inr, List, [], ◌∷◌, ◌++◌, length, map, get_or, true, take, drop, refl, ap, sym, subst, ◌∙◌, append_assoc, append-nil, arith}
use Rattle.std.proofs.lemmas.List.{take-append-drop, take_more}
use Rattle.wm_engine.specs.Working.{FileStands, StandsFor}
use Rattle.wm_station.specs.History.{History, Said, now, said, MayHaveSaid}
use Rattle.wm_station.specs.Moments.{During, Holds, Ended, Silent}
use Rattle.wm_station.proofs.Steps.{during_begun, during_said, weaken}
use Rattle.wm_model.specs.Lines.{cap, capped, without_cr, HasNoLf}
use Rattle.wm_state.specs.State.{State}
use Rattle.wm_model.specs.Step.{step}
use Rattle.wm_model.specs.Running.{answer, transcript, after, Stopped}
use Rattle.wm_model.proofs.Cutting.{capped_last}
use Rattle.wm_model.proofs.Running.{transcript-single, after-single, ran_line, ran_then_cut, cut_longer, cut_before, cut_within, stopped_before, stopped_within, stopped_after, Stopped-cap}
use Rattle.wm_host.specs.Saying.{OnlySaid}
use Rattle.wm_host.specs.Hosting.{standing, line_of, Says}
use Rattle.wm_host.specs.declared.host.Host.{Host}
use Rattle.wm_host.specs.Crash.{Throughout, CrashSays, CrashLine, CrashRuns, CrashAnswers}
use Rattle.wm_host.proofs.Saying.{SaidFront, said-only, now-only, Leaves-only}
use Rattle.wm_host.proofs.Throughout.{throughout_begun, throughout_weaker, throughout_more}

-- ---- an answer is said

pub crash_says_begun : (history : History) (bytes : List ℕ) → During history history (CrashSays history bytes)
crash_says_begun history bytes = during_begun history (CrashSays history bytes) (λ file leaves. record {
  leaves = leaves;
  front = [];
  said_is = sym (append-nil (said history));
  rest = bytes;
  is = refl;
})

-- one say more, of a front of the rest
pub crash_says_more : (tells : Type 0) (a b c : History) (bytes rest : List ℕ) (n : ℕ) → SaidFront tells a b bytes rest → n ≤ length rest → c ≡ Said b rest n
    → tells → During a b (CrashSays a bytes) → During a c (CrashSays a bytes)
crash_says_more tells a b c bytes rest n so_far within told t crash =
    subst (λ (h : History). During a h (CrashSays a bytes)) (sym told)
    (during_said a b rest n (CrashSays a bytes) within crash (λ file k leaves le. record {
      leaves = Leaves-only a b so_far.front file (so_far.only t) leaves;
      front = so_far.front ++ take k rest;
      said_is = ap (λ (s : List ℕ). s ++ take k rest) (said-only a b so_far.front (so_far.only t)) ∙ append_assoc (said a) so_far.front (take k rest);
      rest = drop k rest;
      is = so_far.is ∙ ap (λ (r : List ℕ). so_far.front ++ r) (sym (take-append-drop k rest)) ∙ sym (append_assoc so_far.front (take k rest) (drop k rest));
    }))

-- a say that failed
pub crash_says_failed : (tells : Type 0) (a b c : History) (bytes rest : List ℕ) → SaidFront tells a b bytes rest → MayHaveSaid rest b c
    → tells → During a b (CrashSays a bytes) → During a c (CrashSays a bytes)
crash_says_failed tells a b c bytes rest so_far (inl same) t crash = subst (λ (h : History). During a h (CrashSays a bytes)) (sym same) crash
crash_says_failed tells a b c bytes rest so_far (inr none) t crash = crash_says_more tells a b c bytes rest 0 so_far (omega arith) none t crash

-- ---- a line is run, and answered

-- while it is run nothing is said, and the line is kept or not
pub crash_line_run : (old new : History) (s : State) (line : List ℕ) → Ended old new (λ file. FileStands file s ⊎ FileStands file (step s line).0) → Throughout old new (CrashLine old s line)
crash_line_run old new s line ended = record {
  crash = weaken old new (Silent old T) (CrashLine old s line) (λ file after silent. by_kept file after silent.1 silent.0) ended.during;
  here = by_kept (now new) (said new) ended.quiet ended.here;
} where
  T : List ℕ → Type 0
  T file = FileStands file s ⊎ FileStands file (step s line).0

  by_kept : (file after : List ℕ) → after ≡ said old → T file → CrashLine old s line file after
  by_kept file after quiet (inl before) = record { front = []; said_is = quiet ∙ sym (append-nil (said old)); kept = inl (refl, before) }
  by_kept file after quiet (inr done) = record { front = []; said_is = quiet ∙ sym (append-nil (said old)); kept = inr (answer s line, refl, done) }

-- while it is answered it is kept
pub crash_line_said : (old middle new : History) (s : State) (line out rest : List ℕ) → Throughout old middle (CrashLine old s line) → said middle ≡ said old
    → Holds middle (λ file. FileStands file (step s line).0) → answer s line ≡ out ++ rest → During middle new (CrashSays middle (answer s line)) → OnlySaid middle new out
    → Throughout old new (CrashLine old s line)
crash_line_said old middle new s line out rest run quiet holds is crash only =
    throughout_more old middle new (CrashLine old s line) (CrashLine middle s line) (CrashLine old s line)
    (λ file after was. was)
    (λ file after now_is. record { front = now_is.front; said_is = now_is.said_is ∙ ap (λ (b : List ℕ). b ++ now_is.front) quiet; kept = now_is.kept })
    run
    (record {
      crash = weaken middle new (CrashSays middle (answer s line)) (CrashLine middle s line)
          (λ file after says. record { front = says.front; said_is = says.said_is; kept = inr (says.rest, says.is, holds.left file says.leaves) }) crash;
      here = record {
        front = out;
        said_is = said-only middle new out only;
        kept = inr (rest, is, subst (λ (file : List ℕ). FileStands file (step s line).0) (sym (now-only middle new out only)) holds.here);
      };
    })

-- ---- a piece of the script

pub crash_runs_begun : (history : History) (s : State) (host : Host) (bytes : List ℕ) → Holds history (λ file. FileStands file s) → Throughout history history (CrashRuns history s host bytes)
crash_runs_begun history s host bytes holds = throughout_begun history (λ file. FileStands file s) (CrashRuns history s host bytes) holds (λ file stands. record {
  out = [];
  said_is = sym (append-nil (said history));
  count = 0;
  end = s;
  cut = cut_before (standing s host) bytes;
  stands = stands;
})

-- a crash while the line that LF ended is run and answered: it is not kept, or answered whole, or in part
crash_runs_at_line : (old : History) (s : State) (from : Host) (file after : List ℕ) → HasNoLf from.line → CrashLine old s (line_of from) file after → CrashRuns old s from (10 ∷ []) file after
crash_runs_at_line old s from file after no_lf crash = by_kept crash.kept where
  by_rest : (rest : List ℕ) → answer s (line_of from) ≡ crash.front ++ rest → FileStands file (step s (line_of from)).0 → CrashRuns old s from (10 ∷ []) file after
  by_rest [] is stands = record {
    out = transcript s (line_of from ∷ []) ++ [];
    said_is = crash.said_is ∙ ap (λ (out : List ℕ). said old ++ out) (sym (append-nil crash.front) ∙ sym is ∙ sym (transcript-single s (line_of from)) ∙ sym (append-nil (transcript s (line_of from ∷ []))));
    count = 1;
    end = (step s (line_of from)).0;
    cut = ran_then_cut (standing s from) (record { state = (step s (line_of from)).0; held = [] }) (10 ∷ []) [] [] (line_of from ∷ []) 0 (step s (line_of from)).0 (ran_line (standing s from) no_lf) (cut_before (record { state = (step s (line_of from)).0; held = [] }) []);
    stands = stands;
  }
  by_rest (b ∷ rest) is stands = record {
    out = crash.front;
    said_is = crash.said_is;
    count = 0;
    end = (step s (line_of from)).0;
    cut = cut_within (standing s from) crash.front (step s (line_of from)).0 no_lf (inr (record { rest = b ∷ rest; is = is; more = omega arith }, refl));
    stands = stands;
  }

  by_kept : ((crash.front ≡ []) × FileStands file s) ⊎ ((rest : List ℕ) × (answer s (line_of from) ≡ crash.front ++ rest) × FileStands file (step s (line_of from)).0) → CrashRuns old s from (10 ∷ []) file after
  by_kept (inl before) = record {
    out = [];
    said_is = crash.said_is ∙ ap (λ (out : List ℕ). said old ++ out) before.0;
    count = 0;
    end = s;
    cut = cut_before (standing s from) (10 ∷ []);
    stands = before.1;
  }
  by_kept (inr done) = by_rest done.0 done.1 done.2

pub crash_runs_line : (old new : History) (s : State) (from : Host) (byte : ℕ) → byte ≡ 10 → HasNoLf from.line → Throughout old new (CrashLine old s (line_of from)) → Throughout old new (CrashRuns old s from (byte ∷ []))
crash_runs_line old new s from byte lf no_lf crash =
    subst (λ (b : ℕ). Throughout old new (CrashRuns old s from (b ∷ []))) (sym lf)
    (throughout_weaker old new (CrashLine old s (line_of from)) (CrashRuns old s from (10 ∷ [])) (λ file after. crash_runs_at_line old s from file after no_lf) crash)

-- a crash before a longer piece is taken
pub crash_runs_longer : (old : History) (s : State) (from : Host) (xs ys : List ℕ) (file after : List ℕ) → CrashRuns old s from xs file after → CrashRuns old s from (xs ++ ys) file after
crash_runs_longer old s from xs ys file after crash = record {
  out = crash.out;
  said_is = crash.said_is;
  count = crash.count;
  end = crash.end;
  cut = cut_longer (standing s from) xs ys crash.out crash.count crash.end crash.cut;
  stands = crash.stands;
}

-- a crash behind a piece
crash_runs_behind : (tells : Type 0) (first middle : History) (s : State) (a b : Host) (xs ys : List ℕ) (file after_it : List ℕ) → (says : Says tells first middle a xs b) → tells → StandsFor a.engine s
    → CrashRuns middle (after s says.done) b ys file after_it → CrashRuns first s a (xs ++ ys) file after_it
crash_runs_behind tells first middle s a b xs ys file after_it says t stands crash = record {
  out = transcript s says.done ++ crash.out;
  said_is =
      crash.said_is
      ∙ ap (λ (bytes : List ℕ). bytes ++ crash.out) (says.says t s stands)
      ∙ append_assoc (said first) (transcript s says.done) crash.out;
  count = length says.done + crash.count;
  end = crash.end;
  cut = ran_then_cut (standing s a) (standing (after s says.done) b) xs ys crash.out says.done crash.count crash.end (says.ran s) crash.cut;
  stands = crash.stands;
}

pub crash_runs_more : (tells : Type 0) (first middle last : History) (s : State) (a b : Host) (xs ys : List ℕ) → (says : Says tells first middle a xs b) → tells → StandsFor a.engine s
    → Throughout first middle (CrashRuns first s a xs) → Throughout middle last (CrashRuns middle (after s says.done) b ys) → Throughout first last (CrashRuns first s a (xs ++ ys))
crash_runs_more tells first middle last s a b xs ys says t stands before then =
    throughout_more first middle last (CrashRuns first s a xs) (CrashRuns middle (after s says.done) b ys) (CrashRuns first s a (xs ++ ys))
    (crash_runs_longer first s a xs ys)
    (λ file after_it. crash_runs_behind tells first middle s a b xs ys file after_it says t stands)
    before then

-- what a crash of a run over a piece leaves, for each state that the engine stands for
abbrev pub EachRuns : Type 0 → History → History → Host → List ℕ → Type 0
EachRuns tells old new from bytes = tells → (s : State) → StandsFor from.engine s → Throughout old new (CrashRuns old s from bytes)

-- the next byte of a piece
pub crash_runs_next : (tells : Type 0) (first middle last : History) (a b : Host) (bytes : List ℕ) (i : ℕ) → i < length bytes → Says tells first middle a (take i bytes) b
    → EachRuns tells first middle a (take i bytes) → EachRuns tells middle last b (get_or bytes i 0 ∷ []) → EachRuns tells first last a (take (i + 1) bytes)
crash_runs_next tells first middle last a b bytes i within says before then t s stands =
    rw (take_more bytes i 0 within)
    (crash_runs_more tells first middle last s a b (take i bytes) (get_or bytes i 0 ∷ []) says t stands (before t s stands) (then t (after s says.done) (says.stands s stands)))

pub crash_runs_within : (tells : Type 0) (first middle last : History) (a b : Host) (bytes : List ℕ) (i : ℕ) → i < length bytes → Says tells first middle a (take i bytes) b
    → EachRuns tells first middle a (take i bytes) → EachRuns tells middle last b (get_or bytes i 0 ∷ []) → EachRuns tells first last a bytes
crash_runs_within tells first middle last a b bytes i within says before then t s stands =
    subst (λ (all : List ℕ). Throughout first last (CrashRuns first s a all)) (take-append-drop (i + 1) bytes)
    (throughout_weaker first last (CrashRuns first s a (take (i + 1) bytes)) (CrashRuns first s a (take (i + 1) bytes ++ drop (i + 1) bytes))
    (crash_runs_longer first s a (take (i + 1) bytes) (drop (i + 1) bytes))
    (crash_runs_next tells first middle last a b bytes i within says before then t s stands))

-- ---- the lines of the script

pub crash_answers_begun : (history : History) (s : State) (lines : List (List ℕ)) → Holds history (λ file. FileStands file s) → Throughout history history (CrashAnswers history s lines)
crash_answers_begun history s lines holds = throughout_begun history (λ file. FileStands file s) (CrashAnswers history s lines) holds (λ file stands. record {
  out = [];
  said_is = sym (append-nil (said history));
  count = 0;
  end = s;
  stopped = stopped_before s lines;
  stands = stands;
})

-- a crash while the only line is run and answered
crash_answers_one : (old : History) (s : State) (line : List ℕ) (file after_it : List ℕ) → CrashLine old s line file after_it → CrashAnswers old s (line ∷ []) file after_it
crash_answers_one old s line file after_it crash = by_kept crash.kept where
  by_rest : (rest : List ℕ) → answer s line ≡ crash.front ++ rest → FileStands file (step s line).0 → CrashAnswers old s (line ∷ []) file after_it
  by_rest [] is stands = record {
    out = transcript s (line ∷ []) ++ [];
    said_is = crash.said_is ∙ ap (λ (out : List ℕ). said old ++ out) (sym (append-nil crash.front) ∙ sym is ∙ sym (transcript-single s line) ∙ sym (append-nil (transcript s (line ∷ []))));
    count = 1;
    end = (step s line).0;
    stopped = stopped_after s (line ∷ []) [] [] 0 (step s line).0 (subst (λ (t : State). Stopped t [] [] 0 (step s line).0) (sym (after-single s line)) (stopped_before (step s line).0 []));
    stands = stands;
  }
  by_rest (c ∷ rest) is stands = record {
    out = crash.front;
    said_is = crash.said_is;
    count = 0;
    end = (step s line).0;
    stopped = stopped_within s line [] crash.front (step s line).0 (inr (record { rest = c ∷ rest; is = is; more = omega arith }, refl));
    stands = stands;
  }

  by_kept : ((crash.front ≡ []) × FileStands file s) ⊎ ((rest : List ℕ) × (answer s line ≡ crash.front ++ rest) × FileStands file (step s line).0) → CrashAnswers old s (line ∷ []) file after_it
  by_kept (inl before) = record {
    out = [];
    said_is = crash.said_is ∙ ap (λ (out : List ℕ). said old ++ out) before.0;
    count = 0;
    end = s;
    stopped = stopped_before s (line ∷ []);
    stands = before.1;
  }
  by_kept (inr done) = by_rest done.0 done.1 done.2

-- the last line, which no LF ended
pub crash_answers_last : (old new : History) (s : State) (held : List ℕ) → (held ≡ [] → ⊥) → HasNoLf held → Throughout old new (CrashLine old s (cap (without_cr held))) → Throughout old new (CrashAnswers old s (capped true held))
crash_answers_last old new s [] more no_lf crash = absurd (more refl)
crash_answers_last old new s (b ∷ held) more no_lf crash = rw (capped_last b held no_lf)
    (throughout_weaker old new (CrashLine old s (cap (without_cr (b ∷ held)))) (CrashAnswers old s (cap (without_cr (b ∷ held)) ∷ [])) (crash_answers_one old s (cap (without_cr (b ∷ held)))) crash)

-- a crash in a front of the script
pub crash_answers_front : (old : History) (s : State) (from : Host) (script front rest : List ℕ) (file after_it : List ℕ) → from.line ≡ [] → script ≡ front ++ rest
    → CrashRuns old s from front file after_it → CrashAnswers old s (capped true script) file after_it
crash_answers_front old s from script front rest file after_it empty is crash = record {
  out = crash.out;
  said_is = crash.said_is;
  count = crash.count;
  end = crash.end;
  stopped = subst (λ (bytes : List ℕ). Stopped s (capped true bytes) crash.out crash.count crash.end)
      (ap (λ (held : List ℕ). held ++ (front ++ rest)) empty ∙ sym is) (crash.cut.stops rest);
  stands = crash.stands;
}

-- a crash behind the lines that were answered
pub crash_answers_behind : (tells : Type 0) (first middle : History) (s : State) (a b : Host) (past : List ℕ) (lines : List (List ℕ)) (file after_it : List ℕ) → (says : Says tells first middle a past b) → tells → StandsFor a.engine s
    → CrashAnswers middle (after s says.done) lines file after_it → CrashAnswers first s (says.done ++ lines) file after_it
crash_answers_behind tells first middle s a b past lines file after_it says t stands crash = record {
  out = transcript s says.done ++ crash.out;
  said_is =
      crash.said_is
      ∙ ap (λ (bytes : List ℕ). bytes ++ crash.out) (says.says t s stands)
      ∙ append_assoc (said first) (transcript s says.done) crash.out;
  count = length says.done + crash.count;
  end = crash.end;
  stopped = stopped_after s says.done lines crash.out crash.count crash.end crash.stopped;
  stands = crash.stands;
}

-- the lines themselves, where one stood for all that do not fit; and the same bytes were said before
pub crash_answers_cap : (old begun : History) (s : State) (ls : List (List ℕ)) (file after_it : List ℕ) → said begun ≡ said old
    → CrashAnswers begun s (map cap ls) file after_it → CrashAnswers old s ls file after_it
crash_answers_cap old begun s ls file after_it quiet crash = record {
  out = crash.out;
  said_is = crash.said_is ∙ ap (λ (bytes : List ℕ). bytes ++ crash.out) quiet;
  count = crash.count;
  end = crash.end;
  stopped = Stopped-cap s ls crash.out crash.count crash.end crash.stopped;
  stands = crash.stands;
}
