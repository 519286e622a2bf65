-- Laws on what the host did with a piece of the script.
use Rattle.std.proofs.Common.{ℕ, ◌≡◌, ◌<◌, ◌+◌, ◌⊎◌, true, List, [], ◌∷◌, ◌++◌, length, get_or, take, drop, refl, ap, sym, subst, ◌∙◌, inl, inr, append_assoc, append-nil, length-append, arith}
use Rattle.std.proofs.lemmas.Bool.{ne_eqb}
use Rattle.std.proofs.lemmas.List.{take_more, take-append-drop}
use Rattle.wm_engine.specs.Working.{Engaged, FileStands, StandsFor, WorksOver}
use Rattle.wm_engine.proofs.Working.{stands_over, works_said}
use Rattle.wm_station.specs.History.{History, Said, said}
use Rattle.wm_station.specs.Moments.{During, Ended, Holds}
use Rattle.wm_model.specs.Lines.{cap, capped, without_cr, HasNoLf, held_more}
use Rattle.wm_state.specs.State.{State}
use Rattle.wm_model.specs.Step.{step, answer_text}
use Rattle.wm_model.specs.Running.{answer, transcript, after, IsPart, StopsIn, Standing, Ran, Cut}
use Rattle.wm_model.proofs.Running.{step-cap, transcript-append, transcript-single, after-append, after-single, ran_none, ran_byte, ran_line, ran_more, ran_then_cut, cut_longer, cut_before, cut_within, stopped_within}
use Rattle.wm_model.proofs.Cutting.{HasNoLf-held_more, capped_last}
use Rattle.wm_host.specs.Crash.{Throughout, CrashSays, CrashLine}
use Rattle.wm_host.specs.Outcome.{HasSaid, AnswersSome}
use Rattle.wm_host.specs.Saying.{OnlySaid, SaidPart, after_says}
use Rattle.wm_host.specs.Hosting.{standing, line_of, WorksSoundly, Answers, SaysPart, Unanswered, Says, SaysSome, Breaks, Finishes, Halts}
use Rattle.wm_host.specs.declared.host.Host.{Host}
use Rattle.wm_host.proofs.Saying.{said-only}
use Rattle.wm_host.proofs.Crashing.{crash_line_run, crash_line_said}

-- ---- what is said

pub has_said_nothing : (h : History) → HasSaid h h []
has_said_nothing h = sym (append-nil (said h))

pub has_said_more : (a b c : History) (xs ys : List ℕ) → HasSaid a b xs → HasSaid b c ys → HasSaid a c (xs ++ ys)
has_said_more a b c xs ys first second = second ∙ ap (λ (s : List ℕ). s ++ ys) first ∙ append_assoc (said a) xs ys

-- the engine works over a station that did nothing but say
works_says : (e : Engaged) (h : History) (calls : List (List ℕ × ℕ)) → WorksOver e h → WorksOver e (after_says h calls)
works_says e h [] works = works
works_says e h (call ∷ calls) works = works_says e (Said h call.0 call.1) calls (works_said e h call.0 call.1 works)

pub works-only : (e : Engaged) (old new : History) (out : List ℕ) → OnlySaid old new out → WorksOver e old → WorksOver e new
works-only e old new out only works = subst (λ (h : History). WorksOver e h) (sym only.told) (works_says e old only.calls works)

pub soundly-only : (e : Engaged) (old new : History) (out : List ℕ) → OnlySaid old new out → WorksSoundly e old → WorksSoundly e new
soundly-only e old new out only soundly = record { works = works-only e old new out only soundly.works; rules = soundly.rules }

-- ---- a line

-- what the engine did with a line: it ran it, or not
abbrev pub RanLine : Engaged → Engaged → List ℕ → List ℕ → Type 0
RanLine old new line bytes = (s : State) → StandsFor old s → StandsFor new (step s line).0 × (bytes ≡ answer_text (step s line).1)

-- what a crash while it ran the line leaves, and a read after it
abbrev pub EndedLine : Type 0 → Engaged → List ℕ → History → History → Type 0
EndedLine tells e line old new = tells → (s : State) → StandsFor e s → Ended old new (λ file. FileStands file s ⊎ FileStands file (step s line).0)

-- what the engine makes of the line that it was handed for the one that is held
ran_line_of : (s : State) (from : Host) (line : List ℕ) → cap line ≡ cap (without_cr from.line) → step s line ≡ step s (line_of from)
ran_line_of s from line same = sym (step-cap s line) ∙ ap (step s) same

-- the bytes that are said for it
answered_bytes : (s : State) (from : Host) (line bytes piece : List ℕ) → cap line ≡ cap (without_cr from.line) → bytes ≡ answer_text (step s line).1 → piece ≡ bytes → piece ≡ answer s (line_of from)
answered_bytes s from line bytes piece same is spoken = spoken ∙ is ∙ ap (λ r. answer_text r.1) (ran_line_of s from line same)

pub answered : (tells : Type 0) (old middle new : History) (from : Host) (e : Engaged) (line bytes piece held : List ℕ)
    → cap line ≡ cap (without_cr from.line) → RanLine from.engine e line bytes → EndedLine tells from.engine line old middle → (tells → WorksSoundly e middle)
    → piece ≡ bytes → held ≡ [] → (tells → OnlySaid middle new piece)
    → Answers tells old new from (record { engine = e; line = held; lines = from.lines + 1 })
answered tells old middle new from e line bytes piece held same ran ended works spoken empty only = record {
  held = empty;
  lines = refl;
  stands = λ s for. subst (λ r. StandsFor e r.0) (ran_line_of s from line same) (ran s for).0;
  says = λ t s for.
      said-only middle new piece (only t)
      ∙ ap (λ (b : List ℕ). b ++ piece) (ended t s for).quiet
      ∙ ap (λ (out : List ℕ). said old ++ out) (answered_bytes s from line bytes piece same (ran s for).1 spoken);
  works = λ t. soundly-only e middle new piece (only t) (works t);
}

-- the engine did not answer
pub unanswered : (tells : Type 0) (old new : History) (from : Host) (e : Engaged) (line : List ℕ) → EndedLine tells from.engine line old new
    → Unanswered tells old new from (record { engine = e; line = from.line; lines = from.lines })
unanswered tells old new from e line ended = record {
  lines = refl;
  each = λ t s for. record { part = []; end = s; stops = inl (refl, refl); says = (ended t s for).quiet ∙ sym (append-nil (said old)) };
}

-- not all of the answer was said
pub answered_part : (tells : Type 0) (old middle new : History) (from : Host) (e : Engaged) (line bytes piece : List ℕ)
    → cap line ≡ cap (without_cr from.line) → RanLine from.engine e line bytes → EndedLine tells from.engine line old middle → piece ≡ bytes → SaidPart tells middle new piece
    → Unanswered tells old new from (record { engine = e; line = from.line; lines = from.lines })
answered_part tells old middle new from e line bytes piece same ran ended spoken part = record {
  lines = refl;
  each = λ t s for. record {
    part = part.part;
    end = (step s (line_of from)).0;
    stops = inr (subst (λ (whole : List ℕ). IsPart part.part whole) (answered_bytes s from line bytes piece same (ran s for).1 spoken) part.is_part, refl);
    says = said-only middle new part.part (part.only t) ∙ ap (λ (b : List ℕ). b ++ part.part) (ended t s for).quiet;
  };
}

-- what a crash while the line is run leaves
pub crash_of_run : (tells : Type 0) (old new : History) (from : Host) (line : List ℕ) → cap line ≡ cap (without_cr from.line) → EndedLine tells from.engine line old new
    → tells → (s : State) → StandsFor from.engine s → Throughout old new (CrashLine old s (line_of from))
crash_of_run tells old new from line same ended t s for =
    crash_line_run old new s (line_of from)
    (subst (λ r. Ended old new (λ file. FileStands file s ⊎ FileStands file r.0)) (ran_line_of s from line same) (ended t s for))

-- and while its answer is said
pub crash_of_answer : (tells : Type 0) (old middle new : History) (from : Host) (e : Engaged) (line bytes piece out rest : List ℕ)
    → cap line ≡ cap (without_cr from.line) → RanLine from.engine e line bytes → EndedLine tells from.engine line old middle → (tells → WorksOver e middle) → piece ≡ bytes
    → piece ≡ out ++ rest → (tells → During middle new (CrashSays middle piece)) → (tells → OnlySaid middle new out)
    → tells → (s : State) → StandsFor from.engine s → Throughout old new (CrashLine old s (line_of from))
crash_of_answer tells old middle new from e line bytes piece out rest same ran ended works spoken is crash only t s for =
    crash_line_said old middle new s (line_of from) out rest
    (crash_of_run tells old middle from line same ended t s for)
    (ended t s for).quiet
    (stands_over e middle (step s (line_of from)).0 (works t) (subst (λ r. StandsFor e r.0) (ran_line_of s from line same) (ran s for).0))
    (sym whole ∙ is)
    (subst (λ (all : List ℕ). During middle new (CrashSays middle all)) whole (crash t))
    (only t)
  where
    whole : piece ≡ answer s (line_of from)
    whole = answered_bytes s from line bytes piece same (ran s for).1 spoken

-- ---- a byte

-- LF, once the line before it was answered
pub says_line : (tells : Type 0) (old new : History) (from to : Host) (byte : ℕ) → byte ≡ 10 → HasNoLf from.line → Answers tells old new from to → Says tells old new from (byte ∷ []) to
says_line tells old new from to byte lf no_lf answers = record {
  done = line_of from ∷ [];
  ran = λ s. subst (λ (b : ℕ). Ran (standing s from) (b ∷ []) (line_of from ∷ []) (standing (after s (line_of from ∷ [])) to)) (sym lf) (ran s);
  few = omega arith;
  lines = answers.lines;
  no_lf = subst HasNoLf (sym answers.held) tt;
  stands = λ s for. subst (StandsFor to.engine) (sym (after-single s (line_of from))) (answers.stands s for);
  says = λ t s for. subst (λ (out : List ℕ). HasSaid old new out) (sym (transcript-single s (line_of from))) (answers.says t s for);
  works = answers.works;
} where
  there : (s : State) → record { state = (step s (line_of from)).0; held = [] } ≡ standing (after s (line_of from ∷ [])) to
  there s = ap (λ (t : State). record { state = t; held = [] }) (sym (after-single s (line_of from))) ∙ ap (λ (held : List ℕ). record { state = after s (line_of from ∷ []); held = held }) (sym answers.held)

  ran : (s : State) → Ran (standing s from) (10 ∷ []) (line_of from ∷ []) (standing (after s (line_of from ∷ [])) to)
  ran s = subst (λ (at : Standing). Ran (standing s from) (10 ∷ []) (line_of from ∷ []) at) (there s) (ran_line (standing s from) no_lf)

pub breaks_line : (tells : Type 0) (old new : History) (from to : Host) (byte : ℕ) → byte ≡ 10 → HasNoLf from.line → Unanswered tells old new from to → Breaks tells old new from (byte ∷ []) to
breaks_line tells old new from to byte lf no_lf stop = record {
  count = 0;
  lines = omega (arith, stop.lines);
  each = λ t s for. by_part s (stop.each t s for);
} where
  by_part : (s : State) → SaysPart old new s (line_of from) → SaysSome old new s from (byte ∷ []) 0
  by_part s said_part = record {
    out = said_part.part;
    end = said_part.end;
    cut = subst (λ (b : ℕ). Cut (standing s from) (b ∷ []) said_part.part 0 said_part.end) (sym lf) (cut_within (standing s from) said_part.part said_part.end no_lf said_part.stops);
    says = said_part.says;
  }

-- a byte that is held
pub says_byte : (tells : Type 0) (history : History) (from : Host) (byte : ℕ) (held : List ℕ) → (byte ≡ 10 → ⊥) → HasNoLf from.line → (tells → WorksSoundly from.engine history) → held ≡ held_more from.line byte
    → Says tells history history from (byte ∷ []) (record { engine = from.engine; line = held; lines = from.lines })
unfolding transcript after
says_byte tells history from byte held other no_lf works is = record {
  done = [];
  ran = λ s. subst (λ (h : List ℕ). Ran (standing s from) (byte ∷ []) [] (record { state = s; held = h })) (sym is) (ran_byte (standing s from) byte no_lf (ne_eqb byte 10 other));
  few = omega arith;
  lines = omega arith;
  no_lf = subst HasNoLf (sym is) (HasNoLf-held_more from.line byte no_lf (ne_eqb byte 10 other));
  stands = λ s for. for;
  says = λ t s for. has_said_nothing history;
  works = works;
}

-- a byte for which there was no memory
pub breaks_before : (tells : Type 0) (history : History) (from : Host) (bytes held : List ℕ) → Breaks tells history history from bytes (record { engine = from.engine; line = held; lines = from.lines })
breaks_before tells history from bytes held = record {
  count = 0;
  lines = omega arith;
  each = λ t s for. record { out = []; end = s; cut = cut_before (standing s from) bytes; says = has_said_nothing history };
}

pub says_begun : (tells : Type 0) (history : History) (host : Host) → HasNoLf host.line → (tells → WorksSoundly host.engine history) → Says tells history history host [] host
unfolding transcript after
says_begun tells history host no_lf works = record {
  done = [];
  ran = λ s. ran_none (standing s host);
  few = omega arith;
  lines = omega arith;
  no_lf = no_lf;
  stands = λ s for. for;
  says = λ t s for. has_said_nothing history;
  works = works;
}

-- ---- pieces

-- one piece after another
pub says_more : (tells : Type 0) (first middle last : History) (a b c : Host) (xs ys : List ℕ) → Says tells first middle a xs b → Says tells middle last b ys c → Says tells first last a (xs ++ ys) c
says_more tells first middle last a b c xs ys one other = record {
  done = one.done ++ other.done;
  ran = λ s.
      subst (λ (end : State). Ran (standing s a) (xs ++ ys) (one.done ++ other.done) (standing end c)) (sym (after-append s one.done other.done))
      (ran_more (standing s a) (standing (after s one.done) b) (standing (after (after s one.done) other.done) c) xs ys one.done other.done (one.ran s) (other.ran (after s one.done)));
  few = omega (arith, one.few, other.few, length-append one.done other.done, length-append xs ys);
  lines = omega (arith, one.lines, other.lines, length-append one.done other.done);
  no_lf = other.no_lf;
  stands = λ s for. subst (StandsFor c.engine) (sym (after-append s one.done other.done)) (other.stands (after s one.done) (one.stands s for));
  says = λ t s for. subst (λ (out : List ℕ). HasSaid first last out) (sym (transcript-append s one.done other.done))
      (has_said_more first middle last (transcript s one.done) (transcript (after s one.done) other.done) (one.says t s for) (other.says t (after s one.done) (one.stands s for)));
  works = other.works;
}

pub says_then_breaks : (tells : Type 0) (first middle last : History) (a b c : Host) (xs ys : List ℕ) → Says tells first middle a xs b → Breaks tells middle last b ys c → Breaks tells first last a (xs ++ ys) c
says_then_breaks tells first middle last a b c xs ys one stop = record {
  count = length one.done + stop.count;
  lines = omega (arith, one.lines, stop.lines);
  each = λ t s for. by_some t s for (stop.each t (after s one.done) (one.stands s for));
} where
  by_some : tells → (s : State) → StandsFor a.engine s → SaysSome middle last (after s one.done) b ys stop.count → SaysSome first last s a (xs ++ ys) (length one.done + stop.count)
  by_some t s for some = record {
    out = transcript s one.done ++ some.out;
    end = some.end;
    cut = ran_then_cut (standing s a) (standing (after s one.done) b) xs ys some.out one.done stop.count some.end (one.ran s) some.cut;
    says = has_said_more first middle last (transcript s one.done) some.out (one.says t s for) some.says;
  }

breaks_longer : (tells : Type 0) (old new : History) (a b : Host) (xs ys : List ℕ) → Breaks tells old new a xs b → Breaks tells old new a (xs ++ ys) b
breaks_longer tells old new a b xs ys stop = record {
  count = stop.count;
  lines = stop.lines;
  each = λ t s for. longer s (stop.each t s for);
} where
  longer : (s : State) → SaysSome old new s a xs stop.count → SaysSome old new s a (xs ++ ys) stop.count
  longer s some = record { out = some.out; end = some.end; cut = cut_longer (standing s a) xs ys some.out stop.count some.end some.cut; says = some.says }

-- the next byte of a piece
pub says_next : (tells : Type 0) (first middle last : History) (a b c : Host) (bytes : List ℕ) (i : ℕ) → i < length bytes
    → Says tells first middle a (take i bytes) b → Says tells middle last b (get_or bytes i 0 ∷ []) c → Says tells first last a (take (i + 1) bytes) c
says_next tells first middle last a b c bytes i within one other =
    rw (take_more bytes i 0 within) (says_more tells first middle last a b c (take i bytes) (get_or bytes i 0 ∷ []) one other)

pub breaks_next : (tells : Type 0) (first middle last : History) (a b c : Host) (bytes : List ℕ) (i : ℕ) → i < length bytes
    → Says tells first middle a (take i bytes) b → Breaks tells middle last b (get_or bytes i 0 ∷ []) c → Breaks tells first last a bytes c
breaks_next tells first middle last a b c bytes i within one stop =
    subst (λ (all : List ℕ). Breaks tells first last a all c) (ap (λ (front : List ℕ). front ++ drop (i + 1) bytes) (sym (take_more bytes i 0 within)) ∙ take-append-drop (i + 1) bytes)
    (breaks_longer tells first last a c (take i bytes ++ get_or bytes i 0 ∷ []) (drop (i + 1) bytes)
    (says_then_breaks tells first middle last a b c (take i bytes) (get_or bytes i 0 ∷ []) one stop))

-- ---- the end of the script

pub finishes_nothing : (tells : Type 0) (history : History) (host : Host) → host.line ≡ [] → (tells → WorksSoundly host.engine history) → Finishes tells history history host (capped true host.line) host
unfolding transcript after
finishes_nothing tells history host none works = rw none (record {
  count = omega arith;
  each = λ t s for. record { says = has_said_nothing history; stands = stands_over host.engine history s (works t).works for };
})

pub finishes_line : (tells : Type 0) (old new : History) (from to : Host) (held : List ℕ) → from.line ≡ held → (held ≡ [] → ⊥) → HasNoLf held → Answers tells old new from to → Finishes tells old new from (capped true held) to
finishes_line tells old new from to [] is more no_lf answers = absurd (more refl)
finishes_line tells old new from to (b ∷ held) is more no_lf answers = rw (capped_last b held no_lf) (record {
  count = answers.lines;
  each = λ t s for. record {
    says = subst (λ (out : List ℕ). HasSaid old new out) (ap (λ (l : List ℕ). answer s (cap (without_cr l))) is ∙ sym (transcript-single s (cap (without_cr (b ∷ held))))) (answers.says t s for);
    stands = subst (λ (end : State). Holds new (λ file. FileStands file end)) (ap (λ (l : List ℕ). (step s (cap (without_cr l))).0) is ∙ sym (after-single s (cap (without_cr (b ∷ held)))))
        (stands_over to.engine new (step s (line_of from)).0 (answers.works t).works (answers.stands s for));
  };
})

pub halts_line : (tells : Type 0) (old new : History) (from to : Host) (held : List ℕ) → from.line ≡ held → (held ≡ [] → ⊥) → HasNoLf held → Unanswered tells old new from to → Halts tells old new from (capped true held) to
halts_line tells old new from to [] is more no_lf stop = absurd (more refl)
halts_line tells old new from to (b ∷ held) is more no_lf stop = rw (capped_last b held no_lf) (record {
  count = 0;
  counted = omega (arith, stop.lines);
  each = λ t s for. by_part s (stop.each t s for);
}) where
  by_part : (s : State) → SaysPart old new s (line_of from) → AnswersSome old new s (cap (without_cr (b ∷ held)) ∷ []) 0
  by_part s said_part = record {
    out = said_part.part;
    says = said_part.says;
    end = said_part.end;
    stopped = stopped_within s (cap (without_cr (b ∷ held))) [] said_part.part said_part.end
        (subst (λ (l : List ℕ). StopsIn s (cap (without_cr l) ∷ []) said_part.part said_part.end) is said_part.stops);
  }
