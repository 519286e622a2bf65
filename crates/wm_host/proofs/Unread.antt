-- Words that could not be read for want of memory: whatever command they give, nothing was done.
use Rattle.std.proofs.Common.{ℕ, ◌≡◌, ◌⊎◌, ◌+◌, ◌^◌, List, Option, Some, None, refl, subst, inl, inr, rules}
use Rattle.wm_engine.specs.Working.{IsSound}
use Rattle.wm_model.specs.Lines.{lines}
use Rattle.wm_state.specs.State.{State, begin}
use Rattle.wm_station.specs.History.{History, now}
use Rattle.wm_station.specs.Moments.{During}
use Rattle.wm_station.specs.declared.source.Source.{Ghosts as Source}
use Rattle.wm_station.specs.declared.station.Station.{Ghosts as Station}
use Rattle.wm_station.proofs.Steps.{during_begun}
use Rattle.wm_store.specs.Opened.{HoldsAs}
use Rattle.wm_host.specs.Crash.{CrashOfRun, CrashOpens}
use Rattle.wm_host.specs.Ends.{CheckEnds, Ends, EndsAs, FaultsTell, InitEnds, KeepsSound, LoadEnds, RunEnds, SourceTells, StoreTells}
use Rattle.wm_host.specs.Outcome.{AnswersSome, IsPage, IsUnwritten, StaysSound, load_lines}
use Rattle.wm_host.specs.declared.ended.Ended.{Ended}
use Rattle.wm_host.specs.declared.ended.Place.TheVariants.{Nowhere}
use Rattle.wm_host.proofs.Checking.{crash_unread, front_none, settled_unread}
use Rattle.wm_host.proofs.Ending.{counted_unopened, crash_opened, front_of_answers, stands_unopened, takes_none}
use Rattle.wm_host.proofs.Loads.{crash_unread_load, loads_unopened}
use Rattle.wm_words.specs.declared.command.Command.{Command}
use Rattle.wm_words.specs.declared.command.Command.TheVariants.{Init, Run, Check, Load}

sound_unread : (h : History) → IsSound (now h) → StaysSound h h
sound_unread h sound = record { here = sound; crash = during_begun h _ (λ file leaves. inl leaves) }

crash_unread_run : (h : History) (s : State) (moment : ℕ) (ls : List (List ℕ)) → During h h (CrashOfRun h (begin s moment) ls)
crash_unread_run h s moment ls = crash_opened h h s moment ls (during_begun h (CrashOpens h s) (λ file leaves. (inl leaves, refl)))

-- a file holds what it holds
holds_itself : (file : List ℕ) → HoldsAs file file
holds_itself file = record { pages = record { made = refl; damage = refl; size = refl; pages = λ p first within. refl }; says = record { made = refl; opens = refl } }

-- ---- each command

init_unread : (tells : Type 0) (limit : ℕ) (h : History) (it : Ended) → it.status ≡ 10 → it.lines ≡ 0 → it.place ≡ Nowhere → InitEnds tells limit h h it
init_unread tells limit h it ten lines place = record {
  done = search rules;
  front = λ t. front_none h h refl;
  unsaid = λ five t. refl;
  made = search rules;
  absent = search rules;
  kept = λ t made. refl;
  statuses = rw ten refl;
  lines = lines;
  place = place;
}

keeps_unread : (tells : Type 0) (h : History) (it : Ended) → it.status ≡ 10 → KeepsSound tells h h it
keeps_unread tells h it ten = record { opened = search rules; still = search rules; kept_sound = λ t sound. sound_unread h sound }

run_unread : (reads tells : Type 0) (moment : ℕ) (script : List ℕ) (h : History) (it : Ended) → it.status ≡ 10 → it.lines ≡ 0 → RunEnds reads tells moment script script h h it
run_unread reads tells moment script h it ten none = record {
  done = search rules;
  all = search rules;
  end = search rules;
  within = search rules;
  ended = search rules;
  to_limit = search rules;
  front = λ r t s stands. front_of_answers h h (begin s moment) (lines script) 0 (counted s);
  counted = λ r t s stands. rw none (counted s);
  stands = λ r t s stands. stands_unopened h h s moment (lines script) stands refl;
  crash = λ r t s stands. crash_unread_run h s moment (lines script);
  keeps = keeps_unread tells h it ten;
  statuses = rw ten refl;
} where
  counted : (s : State) → AnswersSome h h (begin s moment) (lines script) 0
  counted s = counted_unopened h h (begin s moment) (lines script) refl

check_unread : (tells : Type 0) (h : History) (it : Ended) → it.status ≡ 10 → it.lines ≡ 0 → CheckEnds tells h h it
check_unread tells h it ten lines = record {
  done = search rules;
  front = λ t. front_none h h refl;
  unsaid = λ five t. refl;
  opened = search rules;
  same = search rules;
  pages = λ t. holds_itself (now h);
  crash = λ t. crash_unread h;
  behind_sync = λ t. settled_unread h;
  statuses = rw ten refl;
  lines = lines;
}

load_unread : (tells : Type 0) (seed count : ℕ) (h : History) (it : Ended) → it.status ≡ 10 → it.lines ≡ 0 → LoadEnds tells seed count h h it
load_unread tells seed count h it ten none = record {
  done = search rules;
  all = search rules;
  some = λ t s stands. rw none (loads_unopened h h s (load_lines seed count) stands refl);
  silent = λ t. inl refl;
  unsaid = λ five t. refl;
  crash = λ t s stands. crash_unread_load h s (load_lines seed count);
  keeps = keeps_unread tells h it ten;
  statuses = rw ten refl;
}

as_unread : {S P : Type 0} (source : Source S) (station : Station P) (command : Option Command) (from : S) (at : P) (it : Ended) → it.status ≡ 10 → it.lines ≡ 0 → it.place ≡ Nowhere
    → EndsAs source station command from from at at it
as_unread source station None from at it ten none nowhere = record { status = inr ten; source = refl; station = refl; lines = none }
as_unread source station (Some (Init limit)) from at it ten none nowhere = (init_unread station.tells limit (station.history at) it ten none nowhere, refl)
as_unread source station (Some (Run moment)) from at it ten none nowhere = run_unread source.tells station.tells moment (source.left from) (station.history at) it ten none
as_unread source station (Some Check) from at it ten none nowhere = (check_unread station.tells (station.history at) it ten none, refl)
as_unread source station (Some (Load seed count)) from at it ten none nowhere = (load_unread station.tells seed count (station.history at) it ten none, refl)

-- ---- nothing was done

-- a source that is not touched
pub source_untouched : {S : Type 0} (source : Source S) (at : S) (it : Ended) → (it.status ≡ 3 → ⊥) → (it.status ≡ 9 → ⊥) → SourceTells source at at it
source_untouched source at it three nine = record {
  few = λ r. takes_none (2 ^ 30 + 1) (source.left at) (source.left at) refl;
  limit = λ is. absurd (nine is);
  counted_to_limit = λ is. absurd (nine is);
  unopened = λ either. refl;
  failed = λ is. absurd (three is);
  kept = λ zero. refl;
  later = search rules;
}

store_untouched : (tells : Type 0) (h : History) (it : Ended) → (it.status ≡ 2) ⊎ (it.status ≡ 10) → it.place ≡ Nowhere → StoreTells tells h h it
store_untouched tells h it status nowhere = record {
  not_store = search rules;
  synced = search rules;
  damaged = search rules;
  place = (search rules, λ page. absurd (subst IsPage nowhere page));
  unwritten = λ unwritten. absurd (subst IsUnwritten nowhere unwritten);
  sound = search rules;
  unsaid = λ either t. refl;
  unopened = search rules;
  pages = search rules;
  pages_any_moment = search rules;
  exists = search rules;
  unchanged = search rules;
}

faults_untouched : {P : Type 0} (station : Station P) (at : P) (it : Ended) → (it.status ≡ 2) ⊎ (it.status ≡ 10) → FaultsTell station at at it
faults_untouched station at it status = record {
  say = search rules;
  disk = search rules;
  say_kept = λ zero. refl;
  disk_kept = λ either. refl;
  say_later = search rules;
  disk_later = search rules;
}

ends_untouched : {S P : Type 0} (source : Source S) (station : Station P) (command : Option Command) (from : S) (at : P) (it : Ended) → (it.status ≡ 2) ⊎ (it.status ≡ 10) → it.place ≡ Nowhere
    → (it.status ≡ 2 → command ≡ None) → EndsAs source station command from from at at it → Ends source station command from from at at it
ends_untouched source station command from at it status nowhere usage ends = record {
  usage = usage;
  command_ends = ends;
  store = store_untouched station.tells (station.history at) it status nowhere;
  source_is = source_untouched source from it (search rules) (search rules);
  faults = faults_untouched station at it status;
}

-- the words were read, and are none
pub ends_usage : {S P : Type 0} (source : Source S) (station : Station P) (command : Option Command) (from : S) (at : P) (it : Ended) → it.status ≡ 2 → it.lines ≡ 0 → it.place ≡ Nowhere → None ≡ command
    → Ends source station command from from at at it
ends_usage source station command from at it two none nowhere is =
    subst (λ (some : Option Command). Ends source station some from from at at it) is
    (ends_untouched source station None from at it (inl two) nowhere (λ _. refl) (record { status = inl two; source = refl; station = refl; lines = none }))

-- they could not be read
pub ends_unread : {S P : Type 0} (source : Source S) (station : Station P) (command : Option Command) (from : S) (at : P) (it : Ended) → it.status ≡ 10 → it.lines ≡ 0 → it.place ≡ Nowhere
    → Ends source station command from from at at it
ends_unread source station command from at it ten none nowhere =
    ends_untouched source station command from at it (inr ten) nowhere (search rules) (as_unread source station command from at it ten none nowhere)
