-- Laws on runs over lines and over pieces of input.
use Rattle.std.proofs.Common.{◌≤◌, ℕ, ◌≡◌, ◌+◌, ◌==◌, Bool, true, false, cond, inl, inr, List, [], ◌∷◌, ◌++◌, length, map, take, drop, refl, ap, sym, subst, ◌∙◌, append_assoc, append-nil, length-append, arith}
use Rattle.std.proofs.Math.Seq.{take-append-add, drop-append-add}
use Rattle.std.proofs.lemmas.List.{length-map, take-map, drop-map, take-append-drop, take_all, drop_all}
use Rattle.wm_model.specs.Lines.{fits_line, too_long, cap, capped, without_cr, HasNoLf, held_more}
use Rattle.wm_model.specs.Step.{State, step, answer_text}
use Rattle.wm_model.specs.Running.{answer, transcript, after, IsPart, StopsIn, Stopped, Standing, Ran, Cut}
use Rattle.wm_model.proofs.Cutting.{capped-held_more, capped_ended, capped_not_ended}
use Rattle.wm_model.proofs.Steps.{step_long}

pub transcript-append : (s : State) (xs ys : List (List ℕ)) → transcript s (xs ++ ys) ≡ transcript s xs ++ transcript (after s xs) ys
unfolding transcript after
transcript-append s [] ys = refl
transcript-append s (x ∷ xs) ys = ap (λ (out : List ℕ). answer s x ++ out) (transcript-append (step s x).0 xs ys) ∙ sym (append_assoc (answer s x) (transcript (step s x).0 xs) (transcript (after (step s x).0 xs) ys))

pub after-append : (s : State) (xs ys : List (List ℕ)) → after s (xs ++ ys) ≡ after (after s xs) ys
unfolding after
after-append s [] ys = refl
after-append s (x ∷ xs) ys = after-append (step s x).0 xs ys

pub transcript-single : (s : State) (line : List ℕ) → transcript s (line ∷ []) ≡ answer s line
unfolding transcript
transcript-single s line = append-nil (answer s line)

pub after-single : (s : State) (line : List ℕ) → after s (line ∷ []) ≡ (step s line).0
unfolding after
after-single s line = refl

-- all lines that do not fit are answered alike
pub step-cap : (s : State) (line : List ℕ) → step s (cap line) ≡ step s line
step-cap s line = by_fit (fits_line line) refl where
  by_fit : (t : Bool) → fits_line line ≡ t → step s (cond t line too_long) ≡ step s line
  by_fit true is = refl
  by_fit false is = sym (step_long s line is)

pub transcript-cap : (s : State) (lines : List (List ℕ)) → transcript s (map cap lines) ≡ transcript s lines
unfolding transcript
transcript-cap s [] = refl
transcript-cap s (line ∷ lines) =
    ap (λ r. answer_text r.1 ++ transcript r.0 (map cap lines)) (step-cap s line)
    ∙ ap (λ (out : List ℕ). answer s line ++ out) (transcript-cap (step s line).0 lines)

pub after-cap : (s : State) (lines : List (List ℕ)) → after s (map cap lines) ≡ after s lines
unfolding after
after-cap s [] = refl
after-cap s (line ∷ lines) = ap (λ r. after r.0 (map cap lines)) (step-cap s line) ∙ after-cap (step s line).0 lines

StopsIn-cap : (s : State) (lines : List (List ℕ)) (part : List ℕ) (end : State) → StopsIn s (map cap lines) part end → StopsIn s lines part end
StopsIn-cap s [] part end stops = stops
StopsIn-cap s (line ∷ lines) part end (inl before) = inl before
StopsIn-cap s (line ∷ lines) part end (inr within) = inr (subst (λ r. IsPart part (answer_text r.1) × (end ≡ r.0)) (step-cap s line) within)

-- where a run over the lines stopped, with one for all that do not fit, it stopped over the lines themselves
pub Stopped-cap : (s : State) (lines : List (List ℕ)) (out : List ℕ) (count : ℕ) (end : State) → Stopped s (map cap lines) out count end → Stopped s lines out count end
Stopped-cap s lines out count end stopped = record {
  within = omega (arith, stopped.within, length-map lines cap);
  part = stopped.part;
  out_is = stopped.out_is ∙ ap (λ (o : List ℕ). o ++ stopped.part) (ap (transcript s) (take-map cap count lines) ∙ transcript-cap s (take count lines));
  next = StopsIn-cap (after s (take count lines)) (drop count lines) stopped.part end
      (subst (λ (ls : List (List ℕ)). StopsIn (after s (take count lines)) ls stopped.part end) (drop-map cap count lines)
      (subst (λ (at : State). StopsIn at (drop count (map cap lines)) stopped.part end) (ap (after s) (take-map cap count lines) ∙ after-cap s (take count lines)) stopped.next));
}

StopsIn-before : (s : State) (lines : List (List ℕ)) → StopsIn s lines [] s
StopsIn-before s [] = (refl, refl)
StopsIn-before s (line ∷ lines) = inl (refl, refl)

-- a run that ran none of the lines
pub stopped_before : (s : State) (lines : List (List ℕ)) → Stopped s lines [] 0 s
unfolding transcript after
stopped_before s lines = record {
  within = omega arith;
  part = [];
  out_is = refl;
  next = StopsIn-before s lines;
}

-- a run that stopped in the first line
pub stopped_within : (s : State) (line : List ℕ) (lines : List (List ℕ)) (part : List ℕ) (end : State) → StopsIn s (line ∷ lines) part end → Stopped s (line ∷ lines) part 0 end
unfolding transcript after
stopped_within s line lines part end stops = record {
  within = omega arith;
  part = part;
  out_is = refl;
  next = stops;
}

-- lines that were answered stand before those in which the run stopped
pub stopped_after : (s : State) (done lines : List (List ℕ)) (out : List ℕ) (count : ℕ) (end : State)
    → Stopped (after s done) lines out count end → Stopped s (done ++ lines) (transcript s done ++ out) (length done + count) end
stopped_after s done lines out count end stopped = record {
  within = omega (arith, stopped.within, length-append done lines);
  part = stopped.part;
  out_is =
      ap (λ (o : List ℕ). transcript s done ++ o) stopped.out_is
      ∙ sym (append_assoc (transcript s done) (transcript (after s done) (take count lines)) stopped.part)
      ∙ ap (λ (o : List ℕ). o ++ stopped.part) (sym (transcript-append s done (take count lines)) ∙ ap (transcript s) (sym (take-append-add done lines count)));
  next = rw (take-append-add done lines count, drop-append-add done lines count, after-append s done (take count lines)) stopped.next;
}

StopsIn_front : (s : State) (lines : List (List ℕ)) (part : List ℕ) (end : State) → StopsIn s lines part end → (rest : List ℕ) × (transcript s lines ≡ part ++ rest)
unfolding transcript
StopsIn_front s [] part end stops = ([], sym (append-nil part ∙ stops.0))
StopsIn_front s (line ∷ lines) part end (inl before) = (transcript s (line ∷ lines), ap (λ (p : List ℕ). p ++ transcript s (line ∷ lines)) (sym before.0))
StopsIn_front s (line ∷ lines) part end (inr within) = (
  within.0.rest ++ transcript (step s line).0 lines,
  ap (λ (a : List ℕ). a ++ transcript (step s line).0 lines) within.0.is ∙ append_assoc part within.0.rest (transcript (step s line).0 lines),
)

-- what a run that stopped said is a front of the transcript
pub stopped_front : (s : State) (lines : List (List ℕ)) (out : List ℕ) (count : ℕ) (end : State) → Stopped s lines out count end → (rest : List ℕ) × (transcript s lines ≡ out ++ rest)
stopped_front s lines out count end stopped = (
  front.0,
  ap (transcript s) (sym (take-append-drop count lines))
      ∙ transcript-append s (take count lines) (drop count lines)
      ∙ ap (λ (o : List ℕ). transcript s (take count lines) ++ o) front.1
      ∙ sym (append_assoc (transcript s (take count lines)) stopped.part front.0)
      ∙ ap (λ (o : List ℕ). o ++ front.0) (sym stopped.out_is),
) where
  front : (rest : List ℕ) × (transcript (after s (take count lines)) (drop count lines) ≡ stopped.part ++ rest)
  front = StopsIn_front (after s (take count lines)) (drop count lines) stopped.part end stopped.next

pub ran_none : (at : Standing) → Ran at [] [] at
unfolding after
ran_none at = record { cut = λ counts rest. refl; state = refl; few = omega arith }

-- a byte that is not LF is held
pub ran_byte : (at : Standing) (b : ℕ) → HasNoLf at.held → (b == 10) ≡ false → Ran at (b ∷ []) [] (record { state = at.state; held = held_more at.held b })
unfolding after
ran_byte at b no_lf other = record {
  cut = λ counts rest. capped-held_more counts at.held b rest no_lf other;
  state = refl;
  few = omega arith;
}

-- at LF what was held is answered
pub ran_line : (at : Standing) → HasNoLf at.held → Ran at (10 ∷ []) (cap (without_cr at.held) ∷ []) (record { state = (step at.state (cap (without_cr at.held))).0; held = [] })
unfolding after
ran_line at no_lf = record {
  cut = λ counts rest. capped_ended counts at.held rest no_lf;
  state = refl;
  few = omega arith;
}

-- one piece after another
pub ran_more : (a b c : Standing) (xs ys : List ℕ) (d e : List (List ℕ)) → Ran a xs d b → Ran b ys e c → Ran a (xs ++ ys) (d ++ e) c
ran_more a b c xs ys d e first second = record {
  cut = λ counts rest.
      ap (λ (bytes : List ℕ). capped counts (a.held ++ bytes)) (append_assoc xs ys rest)
      ∙ first.cut counts (ys ++ rest)
      ∙ ap (λ (ls : List (List ℕ)). d ++ ls) (second.cut counts rest)
      ∙ sym (append_assoc d e (capped counts (c.held ++ rest)));
  state = second.state ∙ ap (λ (s : State). after s e) first.state ∙ sym (after-append a.state d e);
  few = omega (arith, first.few, second.few, length-append d e, length-append xs ys);
}

-- a run that stops behind a piece
pub ran_then_cut : (a b : Standing) (xs ys out : List ℕ) (d : List (List ℕ)) (count : ℕ) (end : State)
    → Ran a xs d b → Cut b ys out count end → Cut a (xs ++ ys) (transcript a.state d ++ out) (length d + count) end
ran_then_cut a b xs ys out d count end first second = record {
  stops = λ rest.
      rw (append_assoc xs ys rest, first.cut true (ys ++ rest))
      (stopped_after a.state d (capped true (b.held ++ (ys ++ rest))) out count end
      (subst (λ (s : State). Stopped s (capped true (b.held ++ (ys ++ rest))) out count end) first.state (second.stops rest)));
}

-- a run that stops in a piece, where more of the input is known
pub cut_longer : (a : Standing) (xs ys out : List ℕ) (count : ℕ) (end : State) → Cut a xs out count end → Cut a (xs ++ ys) out count end
cut_longer a xs ys out count end cut = record { stops = λ rest. rw (append_assoc xs ys rest) (cut.stops (ys ++ rest)) }

-- a run that stops before it runs a line
pub cut_before : (a : Standing) (bytes : List ℕ) → Cut a bytes [] 0 a.state
cut_before a bytes = record { stops = λ rest. stopped_before a.state (capped true (a.held ++ (bytes ++ rest))) }

-- a run that stops in the line that LF ends
pub cut_within : (a : Standing) (part : List ℕ) (end : State) → HasNoLf a.held → StopsIn a.state (cap (without_cr a.held) ∷ []) part end → Cut a (10 ∷ []) part 0 end
cut_within a part end no_lf stops = record {
  stops = λ rest. rw (capped_ended true a.held rest no_lf) (stopped_within a.state (cap (without_cr a.held)) (capped true rest) part end stops);
}

-- the lines of the whole input, once a piece of it was run
pub ran_lines : (a b : Standing) (xs rest : List ℕ) (d : List (List ℕ)) → a.held ≡ [] → Ran a xs d b → capped true (xs ++ rest) ≡ d ++ capped true (b.held ++ rest)
ran_lines a b xs rest d nothing ran = ap (λ (held : List ℕ). capped true (held ++ (xs ++ rest))) (sym nothing) ∙ ran.cut true rest

-- the lines that LF ended in a piece
pub ran_ended_lines : (a b : Standing) (xs : List ℕ) (d : List (List ℕ)) → a.held ≡ [] → HasNoLf b.held → Ran a xs d b → capped false xs ≡ d
ran_ended_lines a b xs d nothing no_lf ran =
    ap (capped false) (sym (append-nil xs))
    ∙ ap (λ (held : List ℕ). capped false (held ++ (xs ++ []))) (sym nothing)
    ∙ ran.cut false []
    ∙ ap (λ (ls : List (List ℕ)). d ++ ls) (ap (capped false) (append-nil b.held) ∙ capped_not_ended b.held no_lf)
    ∙ append-nil d

-- a run that answered all of the lines
pub stopped_all : (s : State) (lines : List (List ℕ)) → Stopped s lines (transcript s lines) (length lines) (after s lines)
stopped_all s lines = record {
  within = omega arith;
  part = [];
  out_is = ap (transcript s) (sym (take_all (length lines) lines (omega arith))) ∙ sym (append-nil (transcript s (take (length lines) lines)));
  next = let all : length lines ≤ length lines = omega arith in rw (take_all, drop_all) (refl, refl);
}
