-- Laws on a script that was run in silence, and of whose answers the counts are said then.
use Rattle.std.proofs.Common.{ℕ, suc, ◌≡◌, ◌≤◌, ◌⊎◌, ⊎_elim, inl, inr, List, [], ◌∷◌, ◌++◌, length, take, Result, Ok, Err, refl, ap, sym, subst, ◌∙◌, append-nil, arith}
use Rattle.std.specs.Prelude.{OnOk, OnErr}
use Rattle.std.proofs.lemmas.List.{take_all}
use Rattle.wm_engine.specs.Working.{Engaged, FileStands, IsSound, StandsFor}
use Rattle.wm_engine.specs.declared.reply.Kind.{Kind}
use Rattle.wm_engine.proofs.Working.{stands_over}
use Rattle.wm_station.specs.History.{History, now, said, Leaves}
use Rattle.wm_station.specs.Moments.{During, Ended, Holds, Silent}
use Rattle.wm_station.proofs.Steps.{during_begun, followed, weaken}
use Rattle.wm_state.specs.State.{State, begin}
use Rattle.wm_model.specs.Step.{step}
use Rattle.wm_model.specs.Running.{after}
use Rattle.wm_host.specs.Crash.{Throughout, CrashOpens, CrashSays, CrashSound}
use Rattle.wm_host.specs.Hosting.{Begins, WorksSoundly}
use Rattle.wm_host.specs.Loading.{Counts, CrashLoads, CrashOfLoad, Loaded, LoadsSome, RunsAll, StandsAmong, StandsNear, counts_text, five_lines, kinds}
use Rattle.wm_host.specs.Saying.{OnlySaid, SaidPart}
use Rattle.wm_host.specs.declared.host.Host.{Host}
use Rattle.wm_host.specs.declared.stop.Stop.{Stop}
use Rattle.wm_host.specs.declared.tally.Tally.{Tally}
use Rattle.wm_host.proofs.Ending.{file_begins}
use Rattle.wm_host.proofs.Making.{has_said_front, has_said_whole, holds_said}
use Rattle.wm_host.proofs.Sounding.{sound_answer}

-- ---- the text of the counts

length-kinds : (s : State) (ls : List (List ℕ)) → length (kinds s ls) ≡ length ls
unfolding kinds
length-kinds s [] = refl
length-kinds s (line ∷ ls) = ap suc (length-kinds (step s line).0 ls)

counts_are : (tally : Tally) (ks : List Kind) (all : ℕ) → Counts tally ks → all ≡ length ks → five_lines all tally.fine tally.done tally.listings tally.refused ≡ counts_text ks
counts_are tally ks all counts is = rw is (rw counts.fine (rw counts.done (rw counts.listings (rw counts.refused refl))))

-- what is said is the text of the counts of the answers
said_counts : (tells : Type 0) (middle : History) (from to : Host) (ls : List (List ℕ)) (tally : Tally) (text piece : List ℕ) → RunsAll tells middle from to ls tally
    → text ≡ five_lines to.lines tally.fine tally.done tally.listings tally.refused → piece ≡ text → (s : State) → StandsFor from.engine s → piece ≡ counts_text (kinds s ls)
said_counts tells middle from to ls tally text piece runs is spoken s for =
    spoken ∙ is ∙ counts_are tally (kinds s ls) to.lines (runs.counts s for) (runs.all ∙ sym (length-kinds s ls))

-- ---- nothing is said yet

pub loads_unsaid : (old new : History) (s : State) (ls : List (List ℕ)) (count : ℕ) → count ≤ length ls → said new ≡ said old → StandsNear s ls count (now new) → LoadsSome old new s ls count
loads_unsaid old new s ls count within quiet stands = record {
  within = within;
  front = record { front = []; says = quiet ∙ sym (append-nil (said old)); rest = counts_text (kinds s ls); is = refl };
  stands = stands;
}

silent_loads : (old : History) (s : State) (ls : List (List ℕ)) (file after_it : List ℕ) → StandsAmong s ls file → after_it ≡ said old → CrashLoads old s ls file after_it
silent_loads old s ls file after_it among quiet = record {
  among = among;
  front = [];
  said_is = quiet ∙ sym (append-nil (said old));
  rest = counts_text (kinds s ls);
  is = refl;
  whole = inl refl;
}

pub crash_unsaid : (old new : History) (s : State) (ls : List (List ℕ)) → Ended old new (StandsAmong s ls) → During old new (CrashLoads old s ls)
crash_unsaid old new s ls ended =
    weaken old new (Silent old (StandsAmong s ls)) (CrashLoads old s ls) (λ file after_it silent. silent_loads old s ls file after_it silent.0 silent.1) ended.during

-- all lines were run
near_all : (s : State) (ls : List (List ℕ)) (count : ℕ) (file : List ℕ) → count ≡ length ls → FileStands file (after s ls) → StandsNear s ls count file
near_all s ls count file is stands = inl (subst (λ (some : List (List ℕ)). FileStands file (after s some)) (sym (take_all count ls (omega (arith, is)))) stands)

-- the engine stands for the state after all of them, and so does its file
pub stands_all : (tells : Type 0) (middle : History) (from to : Host) (ls : List (List ℕ)) (tally : Tally) → RunsAll tells middle from to ls tally
    → tells → (s : State) → StandsFor from.engine s → Holds middle (λ file. FileStands file (after s ls))
stands_all tells middle from to ls tally runs t s for = stands_over to.engine middle (after s ls) (runs.works t).works (runs.stands s for)

pub loads_all : (tells : Type 0) (old new : History) (from to : Host) (ls : List (List ℕ)) (tally : Tally) → RunsAll tells new from to ls tally → said new ≡ said old
    → tells → (s : State) → StandsFor from.engine s → LoadsSome old new s ls to.lines
loads_all tells old new from to ls tally runs quiet t s for =
    loads_unsaid old new s ls to.lines (omega (arith, runs.all)) quiet (near_all s ls to.lines (now new) runs.all (stands_all tells new from to ls tally runs t s for).here)

-- ---- the counts are said

pub loaded : (tells : Type 0) (old middle new : History) (from to : Host) (ls : List (List ℕ)) (tally : Tally) (text piece : List ℕ) (result : Result (Unit {0}) Stop) → RunsAll tells middle from to ls tally → said middle ≡ said old
    → text ≡ five_lines to.lines tally.fine tally.done tally.listings tally.refused → piece ≡ text → OnOk result (OnlySaid middle new piece)
    → tells → OnOk result ((s : State) → StandsFor from.engine s → Loaded old new s ls)
loaded tells old middle new from to ls tally text piece (Err stop) runs quiet is spoken only t = tt
loaded tells old middle new from to ls tally text piece (Ok done) runs quiet is spoken only t = λ s for. record {
  says = has_said_whole old middle new piece (counts_text (kinds s ls)) quiet (said_counts tells middle from to ls tally text piece runs is spoken s for) only;
  stands = holds_said tells middle new piece (λ file. FileStands file (after s ls)) (Ok done) only tt t (stands_all tells middle from to ls tally runs t s for);
}

pub loads_said : (tells : Type 0) (old middle new : History) (from to : Host) (ls : List (List ℕ)) (tally : Tally) (text piece : List ℕ) (result : Result (Unit {0}) Stop) → RunsAll tells middle from to ls tally → said middle ≡ said old
    → text ≡ five_lines to.lines tally.fine tally.done tally.listings tally.refused → piece ≡ text → OnErr result (SaidPart tells middle new piece)
    → tells → OnOk result (OnlySaid middle new piece) → (s : State) → StandsFor from.engine s → LoadsSome old new s ls to.lines
loads_said tells old middle new from to ls tally text piece result runs quiet is spoken part t only s for = record {
  within = omega (arith, runs.all);
  front = has_said_front tells old middle new piece (counts_text (kinds s ls)) result quiet (said_counts tells middle from to ls tally text piece runs is spoken s for) only part t;
  stands = near_all s ls to.lines (now new) runs.all
      (holds_said tells middle new piece (λ file. FileStands file (after s ls)) result only part t (stands_all tells middle from to ls tally runs t s for)).here;
}

pub crash_counts : (tells : Type 0) (old middle new : History) (from to : Host) (ls : List (List ℕ)) (tally : Tally) (text piece : List ℕ) → RunsAll tells middle from to ls tally
    → text ≡ five_lines to.lines tally.fine tally.done tally.listings tally.refused → piece ≡ text → tells → During middle new (CrashSays middle piece)
    → (s : State) → StandsFor from.engine s → Ended old middle (StandsAmong s ls) → During old new (CrashLoads old s ls)
crash_counts tells old middle new from to ls tally text piece runs is spoken t crash s for ended =
    weaken old new (λ file after_it. Silent old (StandsAmong s ls) file after_it ⊎ CrashSays middle piece file after_it) (CrashLoads old s ls)
    (λ file after_it. ⊎_elim (λ silent. silent_loads old s ls file after_it silent.0 silent.1) (by_saying file after_it))
    (followed old middle new (Silent old (StandsAmong s ls)) (CrashSays middle piece) ended.during crash) where
      by_saying : (file after_it : List ℕ) → CrashSays middle piece file after_it → CrashLoads old s ls file after_it
      by_saying file after_it says = record {
        among = record {
          count = length ls;
          within = omega arith;
          stands = subst (λ (some : List (List ℕ)). FileStands file (after s some)) (sym (take_all (length ls) ls (omega arith)))
              ((stands_all tells middle from to ls tally runs t s for).left file says.leaves);
        };
        front = says.front;
        said_is = says.said_is ∙ ap (λ (b : List ℕ). b ++ says.front) ended.quiet;
        rest = says.rest;
        is = sym (said_counts tells middle from to ls tally text piece runs is spoken s for) ∙ says.is;
        whole = inr refl;
      }

-- whatever the records stand for
pub sound_counts : (tells : Type 0) (e : Engaged) (old middle new : History) (piece : List ℕ) (result : Result (Unit {0}) Stop) → tells → Ended old middle IsSound → WorksSoundly e middle
    → During middle new (CrashSays middle piece) → OnOk result (OnlySaid middle new piece) → OnErr result (SaidPart tells middle new piece) → Throughout old new CrashSound
sound_counts tells e old middle new piece (Ok done) t ended soundly crash only part = sound_answer e old middle new piece piece ended soundly crash only
sound_counts tells e old middle new piece (Err stop) t ended soundly crash only part = sound_answer e old middle new piece part.part ended soundly crash (part.only t)

-- ---- behind the opening of a store, within which nothing is said

pub loaded_from : (old begun new : History) (s : State) (ls : List (List ℕ)) → said begun ≡ said old → Loaded begun new s ls → Loaded old new s ls
loaded_from old begun new s ls quiet load = record { says = load.says ∙ ap (λ (b : List ℕ). b ++ counts_text (kinds s ls)) quiet; stands = load.stands }

pub loads_from : (old begun new : History) (s : State) (ls : List (List ℕ)) (count : ℕ) → said begun ≡ said old → LoadsSome begun new s ls count → LoadsSome old new s ls count
loads_from old begun new s ls count quiet some = record {
  within = some.within;
  front = record { front = some.front.front; says = some.front.says ∙ ap (λ (b : List ℕ). b ++ some.front.front) quiet; rest = some.front.rest; is = some.front.is };
  stands = some.stands;
}

-- the engine stands for the state at which the lines begin
pub begun_at : (tells : Type 0) (old new : History) (host : Host) (moment : ℕ) → moment ≡ 0 → Begins tells old new host moment → tells → (s : State) → FileStands (now old) s → StandsFor host.engine (begin s 0)
begun_at tells old new host moment zero begins t s stands = subst (λ (m : ℕ). StandsFor host.engine (begin s m)) zero (begins.each t s stands)

-- none of the lines was run
none_run : (s : State) (ls : List (List ℕ)) (file : List ℕ) → FileStands file s → FileStands file (after (begin s 0) (take 0 ls))
unfolding after
none_run s ls file stands = file_begins file s 0 stands

pub loads_unopened : (old new : History) (s : State) (ls : List (List ℕ)) → FileStands (now new) s → said new ≡ said old → LoadsSome old new (begin s 0) ls 0
loads_unopened old new s ls stands quiet = loads_unsaid old new (begin s 0) ls 0 (omega arith) quiet (inl (none_run s ls (now new) stands))

crash_none : (old : History) (s : State) (ls : List (List ℕ)) (file after_it : List ℕ) → CrashOpens old s file after_it → CrashOfLoad old (begin s 0) ls file after_it
crash_none old s ls file after_it opens = by_kind opens.0 where
  by_kind : Leaves old file ⊎ FileStands file s → CrashOfLoad old (begin s 0) ls file after_it
  by_kind (inl leaves) = inl (leaves, opens.1)
  by_kind (inr stands) = inr (silent_loads old (begin s 0) ls file after_it (record { count = 0; within = omega arith; stands = none_run s ls file stands }) opens.1)

pub crash_unloaded : (old new : History) (s : State) (ls : List (List ℕ)) → During old new (CrashOpens old s) → During old new (CrashOfLoad old (begin s 0) ls)
crash_unloaded old new s ls crash = weaken old new (CrashOpens old s) (CrashOfLoad old (begin s 0) ls) (crash_none old s ls) crash

pub crash_loaded : (old begun new : History) (s : State) (ls : List (List ℕ)) → said begun ≡ said old → During old begun (CrashOpens old s) → During begun new (CrashLoads begun (begin s 0) ls)
    → During old new (CrashOfLoad old (begin s 0) ls)
crash_loaded old begun new s ls quiet opening crash =
    weaken old new (λ file after_it. CrashOpens old s file after_it ⊎ CrashLoads begun (begin s 0) ls file after_it) (CrashOfLoad old (begin s 0) ls)
    (λ file after_it. ⊎_elim (crash_none old s ls file after_it) (λ loads. inr (from_begun file after_it loads)))
    (followed old begun new (CrashOpens old s) (CrashLoads begun (begin s 0) ls) opening crash) where
      from_begun : (file after_it : List ℕ) → CrashLoads begun (begin s 0) ls file after_it → CrashLoads old (begin s 0) ls file after_it
      from_begun file after_it loads = record {
        among = loads.among;
        front = loads.front;
        said_is = loads.said_is ∙ ap (λ (b : List ℕ). b ++ loads.front) quiet;
        rest = loads.rest;
        is = loads.is;
        whole = loads.whole;
      }

pub silent_from : (old begun new : History) (done : Type 0) → said begun ≡ said old → (said new ≡ said begun) ⊎ done → (said new ≡ said old) ⊎ done
silent_from old begun new done quiet = ⊎_elim (λ same. inl (same ∙ quiet)) (λ all. inr all)

-- ---- nothing was done

pub crash_unread_load : (h : History) (s : State) (ls : List (List ℕ)) → During h h (CrashOfLoad h (begin s 0) ls)
crash_unread_load h s ls = crash_unloaded h h s ls (during_begun h (CrashOpens h s) (λ file leaves. (inl leaves, refl)))
