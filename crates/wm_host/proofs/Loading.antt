-- Laws on lines that are run in silence, and on the counts that are said of their answers.
use Rattle.std.proofs.Common.{ℕ, ◌≡◌, ◌<◌, ◌+◌, ◌^◌, ◌⊎◌, inl, inr, Bool, cond, Option, Some, None, List, [], ◌∷◌, ◌++◌, length, take, count_by, refl, ap, sym, subst, ◌∙◌, append_assoc, append-nil, length-append, arith}
use Rattle.std.proofs.Math.Nat.{zero-add}
use Rattle.std.proofs.Math.Seq.{take-append_seam, take-append-add}
use Rattle.std.proofs.lemmas.List.{take-append-le, take_all}
use Rattle.std.proofs.lemmas.List.Sums.{sum_by-append, count_by-le-length}
use Rattle.wm_engine.specs.Kinds.{kind_of}
use Rattle.wm_engine.specs.Working.{FileStands, IsSound, StandsFor}
use Rattle.wm_engine.specs.declared.reply.Kind.{Kind}
use Rattle.wm_engine.proofs.Committing.{ended_begun}
use Rattle.wm_engine.proofs.Sounding.{sound_begun as ended_soundly}
use Rattle.wm_engine.proofs.Working.{stands_over}
use Rattle.wm_gen.specs.Script.{Gives}
use Rattle.wm_station.specs.History.{History, now}
use Rattle.wm_station.specs.Moments.{Ended, Holds}
use Rattle.wm_station.proofs.Steps.{joined, weaker}
use Rattle.wm_state.specs.State.{State}
use Rattle.wm_model.specs.Step.{step}
use Rattle.wm_model.specs.Running.{after}
use Rattle.wm_model.proofs.Running.{after-append, after-single}
use Rattle.wm_host.specs.Hosting.{WorksSoundly}
use Rattle.wm_host.specs.Loading.{Counts, RunsAll, RunsLine, RunsSome, StandsAmong, StandsNear, is_done, is_fine, is_listing, is_refused, kinds}
use Rattle.wm_host.specs.declared.host.Host.{Host}
use Rattle.wm_host.specs.declared.tally.Tally.{Tally}

-- ---- the counts

kinds-more : (s : State) (done : List (List ℕ)) (line : List ℕ) → kinds s (done ++ line ∷ []) ≡ kinds s done ++ kind_of (step (after s done) line).1 ∷ []
unfolding kinds after
kinds-more s [] line = refl
kinds-more s (x ∷ done) line = ap (λ (ks : List Kind). kind_of (step s x).1 ∷ ks) (kinds-more (step s x).0 done line)

count_by-more : (p : Kind → Bool) (ks : List Kind) (kind : Kind) → count_by p (ks ++ kind ∷ []) ≡ count_by p ks + cond (p kind) 1 0
count_by-more p ks kind = sum_by-append (λ (k : Kind). cond (p k) 1 0) ks (kind ∷ []) ∙ ap (λ (n : ℕ). count_by p ks + n) (zero-add (cond (p kind) 1 0))

-- one answer more
pub counts_more : (old new : Tally) (ks : List Kind) (kind : Kind) → Counts old ks
    → new.fine ≡ old.fine + cond (is_fine kind) 1 0 → new.done ≡ old.done + cond (is_done kind) 1 0
    → new.listings ≡ old.listings + cond (is_listing kind) 1 0 → new.refused ≡ old.refused + cond (is_refused kind) 1 0
    → Counts new (ks ++ kind ∷ [])
counts_more old new ks kind counts fine done listings refused = record {
  fine = fine ∙ ap (λ (n : ℕ). n + cond (is_fine kind) 1 0) counts.fine ∙ sym (count_by-more is_fine ks kind);
  done = done ∙ ap (λ (n : ℕ). n + cond (is_done kind) 1 0) counts.done ∙ sym (count_by-more is_done ks kind);
  listings = listings ∙ ap (λ (n : ℕ). n + cond (is_listing kind) 1 0) counts.listings ∙ sym (count_by-more is_listing ks kind);
  refused = refused ∙ ap (λ (n : ℕ). n + cond (is_refused kind) 1 0) counts.refused ∙ sym (count_by-more is_refused ks kind);
}

-- ---- the state after some of the lines

-- a state after some of them is one after some of more
among_longer : (s : State) (xs ys : List (List ℕ)) (file : List ℕ) → StandsAmong s xs file → StandsAmong s (xs ++ ys) file
among_longer s xs ys file among = record {
  count = among.count;
  within = omega (arith, among.within, length-append xs ys);
  stands = subst (λ (ls : List (List ℕ)). FileStands file (after s ls)) (sym (take-append-le among.count xs ys among.within)) among.stands;
}

-- after all of them
among_all : (s : State) (xs : List (List ℕ)) (file : List ℕ) → FileStands file (after s xs) → StandsAmong s xs file
among_all s xs file stands = record {
  count = length xs;
  within = omega arith;
  stands = subst (λ (ls : List (List ℕ)). FileStands file (after s ls)) (sym (take_all (length xs) xs (omega arith))) stands;
}

-- after none of them
among_none : (s : State) (file : List ℕ) → FileStands file s → StandsAmong s [] file
unfolding after
among_none s file stands = among_all s [] file stands

after-more : (s : State) (done : List (List ℕ)) (line : List ℕ) → after s (done ++ line ∷ []) ≡ (step (after s done) line).0
after-more s done line = after-append s done (line ∷ []) ∙ after-single (after s done) line

-- while a line is run it is kept or not
among_line : (s : State) (done : List (List ℕ)) (line file : List ℕ) → FileStands file (after s done) ⊎ FileStands file (step (after s done) line).0 → StandsAmong s (done ++ line ∷ []) file
among_line s done line file (inl before) = among_longer s done (line ∷ []) file (among_all s done file before)
among_line s done line file (inr kept) = among_all s (done ++ line ∷ []) file (subst (λ (end : State). FileStands file end) (sym (after-more s done line)) kept)

-- so many lines were run
near_done : (s : State) (done left : List (List ℕ)) (count : ℕ) (file : List ℕ) → count ≡ length done → FileStands file (after s done) → StandsNear s (done ++ left) count file
near_done s done left count file is stands =
    inl (subst (λ (ls : List (List ℕ)). FileStands file (after s ls)) (sym (ap (λ (n : ℕ). take n (done ++ left)) is ∙ take-append_seam done left)) stands)

-- or one more
near_line : (s : State) (done left : List (List ℕ)) (line : List ℕ) (count : ℕ) (file : List ℕ) → count ≡ length done
    → FileStands file (after s done) ⊎ FileStands file (step (after s done) line).0 → StandsNear s (done ++ (line ∷ left)) count file
near_line s done left line count file is (inl before) = near_done s done (line ∷ left) count file is before
near_line s done left line count file is (inr kept) =
    inr (subst (λ (ls : List (List ℕ)). FileStands file (after s ls)) (sym (ap (λ (n : ℕ). take (n + 1) (done ++ (line ∷ left))) is ∙ take-append-add done (line ∷ left) 1))
    (subst (λ (end : State). FileStands file end) (sym (after-more s done line)) kept))

-- ---- the loop over the lines

-- the next of the lines that are to come, or none
pub given_line : (coming left : List (List ℕ)) (next : Option (List ℕ)) (line piece : List ℕ) → next ≡ Some line → piece ≡ line → Gives coming next left → coming ≡ piece ∷ left
given_line coming left next line piece is spoken gives = subst (λ (o : Option (List ℕ)). Gives coming o left) is gives ∙ ap (λ (l : List ℕ). l ∷ left) (sym spoken)

pub given_none : (coming left : List (List ℕ)) (next : Option (List ℕ)) → next ≡ None → Gives coming next left → coming ≡ []
given_none coming left next is gives = (subst (λ (o : Option (List ℕ)). Gives coming o left) is gives).0

-- the lines that were run so far, and what is counted of their answers
pub record Progress (tells : Type 0) (old new : History) (from to : Host) (all left : List (List ℕ)) (tally : Tally) : Type 0 where
  pub few : length all < 2 ^ 63
  pub done : List (List ℕ)
  pub all_is : all ≡ done ++ left
  pub lines : to.lines ≡ length done
  pub answered : List Kind
  pub size : length answered ≡ length done
  pub counts : Counts tally answered
  pub kinds_are : (s : State) → StandsFor from.engine s → answered ≡ kinds s done
  pub stands : (s : State) → StandsFor from.engine s → StandsFor to.engine (after s done)
  pub works : tells → WorksSoundly to.engine new
  pub run : tells → (s : State) → StandsFor from.engine s → Ended old new (StandsAmong s done)
  pub sound : tells → Ended old new IsSound

pub progress_begun : (tells : Type 0) (history : History) (host : Host) (all left : List (List ℕ)) (tally : Tally) → host.lines ≡ 0 → (tells → WorksSoundly host.engine history)
    → length all < 2 ^ 63 → all ≡ left → Counts tally [] → Progress tells history history host host all left tally
unfolding kinds after
progress_begun tells history host all left tally none works few is counts = record {
  few = few;
  done = [];
  all_is = is;
  lines = none;
  answered = [];
  size = refl;
  counts = counts;
  kinds_are = λ s for. refl;
  stands = λ s for. for;
  works = works;
  run = λ t s for. ended_among s (stands_over host.engine history s (works t).works for);
  sound = λ t. ended_soundly host.engine.store host.engine.records history (works t).works (works t).rules;
} where
  ended_among : (s : State) → Holds history (λ file. FileStands file s) → Ended history history (StandsAmong s [])
  ended_among s holds = ended_begun history (StandsAmong s []) (record { here = among_none s (now history) holds.here; left = λ file leaves. among_none s file (holds.left file leaves) })

-- a line more
pub progress_more : (tells : Type 0) (first middle last : History) (a b c : Host) (all left rest : List (List ℕ)) (line : List ℕ) (kind : Kind) (old new : Tally)
    → (so_far : Progress tells first middle a b all left old) → left ≡ line ∷ rest → RunsLine tells last b c line kind
    → (tells → (s : State) → StandsFor b.engine s → Ended middle last (λ file. FileStands file s ⊎ FileStands file (step s line).0)) → (tells → Ended middle last IsSound)
    → Counts new (so_far.answered ++ kind ∷ []) → Progress tells first last a c all rest new
progress_more tells first middle last a b c all left rest line kind old new so_far given ran kept sound counts = record {
  few = so_far.few;
  done = so_far.done ++ line ∷ [];
  all_is = so_far.all_is ∙ ap (λ (ls : List (List ℕ)). so_far.done ++ ls) given ∙ sym (append_assoc so_far.done (line ∷ []) rest);
  lines = omega (arith, ran.lines, so_far.lines, length-append so_far.done (line ∷ []));
  answered = so_far.answered ++ kind ∷ [];
  size = omega (arith, so_far.size, length-append so_far.answered (kind ∷ []), length-append so_far.done (line ∷ []));
  counts = counts;
  kinds_are = λ s for. kinds_here s for;
  stands = λ s for. subst (StandsFor c.engine) (sym (after-more s so_far.done line)) (ran.stands (after s so_far.done) (so_far.stands s for));
  works = ran.works;
  run = λ t s for.
      joined first middle last (StandsAmong s (so_far.done ++ line ∷ []))
      (weaker first middle (StandsAmong s so_far.done) (StandsAmong s (so_far.done ++ line ∷ [])) (among_longer s so_far.done (line ∷ [])) (so_far.run t s for))
      (weaker middle last (λ file. FileStands file (after s so_far.done) ⊎ FileStands file (step (after s so_far.done) line).0) (StandsAmong s (so_far.done ++ line ∷ [])) (among_line s so_far.done line)
      (kept t (after s so_far.done) (so_far.stands s for)));
  sound = λ t. joined first middle last IsSound (so_far.sound t) (sound t);
} where
  kinds_here : (s : State) → StandsFor a.engine s → so_far.answered ++ kind ∷ [] ≡ kinds s (so_far.done ++ line ∷ [])
  kinds_here s for =
      ap (λ (ks : List Kind). ks ++ kind ∷ []) (so_far.kinds_are s for)
      ∙ ap (λ (k : Kind). kinds s so_far.done ++ k ∷ []) (ran.kind_is (after s so_far.done) (so_far.stands s for))
      ∙ sym (kinds-more s so_far.done line)

-- there is room for one line more
pub room_in : (tells : Type 0) (old new : History) (from to : Host) (all left : List (List ℕ)) (tally : Tally) → Progress tells old new from to all left tally → to.lines + 1 < 2 ^ 64
room_in tells old new from to all left tally so_far = omega (arith, so_far.few, ap length so_far.all_is, length-append so_far.done left, so_far.lines)

-- and for one answer more of each kind
pub room_for : (tells : Type 0) (old new : History) (from to : Host) (all left : List (List ℕ)) (tally : Tally) (p : Kind → Bool) (count : ℕ) → (so_far : Progress tells old new from to all left tally)
    → count ≡ count_by p so_far.answered → count + 1 < 2 ^ 64
room_for tells old new from to all left tally p count so_far is =
    omega (arith, so_far.few, ap length so_far.all_is, length-append so_far.done left, so_far.size, is, count_by-le-length p so_far.answered)

-- all lines were run
progress_all : (tells : Type 0) (old new : History) (from to : Host) (all left : List (List ℕ)) (tally : Tally) → (so_far : Progress tells old new from to all left tally) → left ≡ [] → all ≡ so_far.done
progress_all tells old new from to all left tally so_far none = so_far.all_is ∙ ap (λ (ls : List (List ℕ)). so_far.done ++ ls) none ∙ append-nil so_far.done

pub progress_whole : (tells : Type 0) (old new : History) (from to : Host) (all left : List (List ℕ)) (tally : Tally) → Progress tells old new from to all left tally → left ≡ []
    → RunsAll tells new from to all tally
progress_whole tells old new from to all left tally so_far none = subst (λ (ls : List (List ℕ)). RunsAll tells new from to ls tally) (sym (progress_all tells old new from to all left tally so_far none)) (record {
  all = so_far.lines;
  stands = so_far.stands;
  counts = λ s for. subst (Counts tally) (so_far.kinds_are s for) so_far.counts;
  works = so_far.works;
})

-- the lines were run in part, and what a crash then leaves
pub progress_some : (tells : Type 0) (old new : History) (from to : Host) (all left : List (List ℕ)) (tally : Tally) → Progress tells old new from to all left tally → RunsSome tells new from to all
progress_some tells old new from to all left tally so_far = subst (λ (ls : List (List ℕ)). RunsSome tells new from to ls) (sym so_far.all_is) (record {
  within = omega (arith, so_far.lines, length-append so_far.done left);
  each = λ t s for. near_done s so_far.done left to.lines (now new) so_far.lines (stands_over to.engine new (after s so_far.done) (so_far.works t).works (so_far.stands s for)).here;
})

pub progress_crash : (tells : Type 0) (old new : History) (from to : Host) (all left : List (List ℕ)) (tally : Tally) → Progress tells old new from to all left tally
    → tells → (s : State) → StandsFor from.engine s → Ended old new (StandsAmong s all)
progress_crash tells old new from to all left tally so_far t s for =
    subst (λ (ls : List (List ℕ)). Ended old new (StandsAmong s ls)) (sym so_far.all_is)
    (weaker old new (StandsAmong s so_far.done) (StandsAmong s (so_far.done ++ left)) (among_longer s so_far.done left) (so_far.run t s for))

-- a line was not answered
pub stopped_some : (tells : Type 0) (first middle last : History) (a b c : Host) (all left rest : List (List ℕ)) (line : List ℕ) (tally : Tally)
    → Progress tells first middle a b all left tally → left ≡ line ∷ rest → c.lines ≡ b.lines
    → (tells → (s : State) → StandsFor b.engine s → Ended middle last (λ file. FileStands file s ⊎ FileStands file (step s line).0))
    → RunsSome tells last a c all
stopped_some tells first middle last a b c all left rest line tally so_far given same kept = subst (λ (ls : List (List ℕ)). RunsSome tells last a c ls) (sym (so_far.all_is ∙ ap (λ (ls : List (List ℕ)). so_far.done ++ ls) given)) (record {
  within = omega (arith, same, so_far.lines, length-append so_far.done (line ∷ rest));
  each = λ t s for. near_line s so_far.done rest line c.lines (now last) (same ∙ so_far.lines) (kept t (after s so_far.done) (so_far.stands s for)).here;
})

pub stopped_crash : (tells : Type 0) (first middle last : History) (a b : Host) (all left rest : List (List ℕ)) (line : List ℕ) (tally : Tally)
    → Progress tells first middle a b all left tally → left ≡ line ∷ rest
    → (tells → (s : State) → StandsFor b.engine s → Ended middle last (λ file. FileStands file s ⊎ FileStands file (step s line).0))
    → tells → (s : State) → StandsFor a.engine s → Ended first last (StandsAmong s all)
stopped_crash tells first middle last a b all left rest line tally so_far given kept t s for =
    subst (λ (ls : List (List ℕ)). Ended first last (StandsAmong s ls)) (append_assoc so_far.done (line ∷ []) rest ∙ sym (so_far.all_is ∙ ap (λ (ls : List (List ℕ)). so_far.done ++ ls) given))
    (joined first middle last (StandsAmong s ((so_far.done ++ line ∷ []) ++ rest))
    (weaker first middle (StandsAmong s so_far.done) (StandsAmong s ((so_far.done ++ line ∷ []) ++ rest))
    (λ file among. among_longer s (so_far.done ++ line ∷ []) rest file (among_longer s so_far.done (line ∷ []) file among)) (so_far.run t s for))
    (weaker middle last (λ file. FileStands file (after s so_far.done) ⊎ FileStands file (step (after s so_far.done) line).0) (StandsAmong s ((so_far.done ++ line ∷ []) ++ rest))
    (λ file either. among_longer s (so_far.done ++ line ∷ []) rest file (among_line s so_far.done line file either))
    (kept t (after s so_far.done) (so_far.stands s for))))
