-- Laws on the making of a store, which says one short text.
use Rattle.std.proofs.Common.{ℕ, ◌≡◌, ◌==◌, true, List, [], ◌∷◌, ◌++◌, refl, ap, sym, subst, ◌∙◌, append-nil}
use Rattle.std.specs.Prelude.{Result, Ok, Err, OnOk, OnErr, IfErr}
use Rattle.std.specs.List.{list_any}
use Rattle.wm_station.specs.History.{History, said}
use Rattle.wm_station.specs.Moments.{Holds}
use Rattle.wm_host.specs.Cause.{IsOfMaking}
use Rattle.wm_host.specs.Outcome.{HasSaid, HasSaidFront}
use Rattle.wm_host.specs.Saying.{OnlySaid, SaidPart}
use Rattle.wm_host.specs.Status.{status_of, place_of}
use Rattle.wm_host.specs.declared.ended.Place.TheVariants.{Nowhere}
use Rattle.wm_host.specs.declared.stop.Stop.{Stop}
use Rattle.wm_host.specs.declared.stop.Stop.TheVariants.{SourceFault, SayFault, DiskFault, NotStore, Damaged, Exists, InputLimit, Memory, Changed}
use Rattle.wm_host.proofs.Saying.{said-only, now-only, Leaves-only}

holds_only : (old new : History) (out : List ℕ) (P : List ℕ → Type 0) → OnlySaid old new out → Holds old P → Holds new P
holds_only old new out P only holds = record {
  here = subst P (sym (now-only old new out only)) holds.here;
  left = λ c leaves. holds.left c (Leaves-only old new out c only leaves);
}

-- however the saying ended, it changed nothing of the file
pub holds_said : (tells : Type 0) (old new : History) (piece : List ℕ) (P : List ℕ → Type 0) (result : Result (Unit {0}) Stop)
    → OnOk result (OnlySaid old new piece) → OnErr result (SaidPart tells old new piece) → tells → Holds old P → Holds new P
holds_said tells old new piece P (Ok done) only part t holds = holds_only old new piece P only holds
holds_said tells old new piece P (Err stop) only part t holds = holds_only old new part.part P (part.only t) holds

pub has_said_whole : (old begun new : History) (piece text : List ℕ) → said begun ≡ said old → piece ≡ text → OnlySaid begun new piece → HasSaid old new text
has_said_whole old begun new piece text quiet is only = said-only begun new piece only ∙ ap (λ (b : List ℕ). b ++ piece) quiet ∙ ap (λ (out : List ℕ). said old ++ out) is

pub has_said_front : (tells : Type 0) (old begun new : History) (piece text : List ℕ) (result : Result (Unit {0}) Stop) → said begun ≡ said old → piece ≡ text
    → OnOk result (OnlySaid begun new piece) → OnErr result (SaidPart tells begun new piece) → tells → HasSaidFront old new text
has_said_front tells old begun new piece text (Ok done) quiet is only part t = record {
  front = text;
  says = has_said_whole old begun new piece text quiet is only;
  rest = [];
  is = sym (append-nil text);
}
has_said_front tells old begun new piece text (Err stop) quiet is only part t = record {
  front = part.part;
  says = said-only begun new part.part (part.only t) ∙ ap (λ (b : List ℕ). b ++ part.part) quiet;
  rest = part.is_part.rest;
  is = sym is ∙ part.is_part.is;
}

pub statuses_of_making : (run : Result (Unit {0}) Stop) (number : ℕ) → number ≡ status_of run → IfErr run IsOfMaking → list_any (λ (status : ℕ). status == number) (0 ∷ 4 ∷ 5 ∷ 8 ∷ 10 ∷ []) ≡ true
statuses_of_making (Ok done) number is of = rw is refl
statuses_of_making (Err SourceFault) number is of = absurd of
statuses_of_making (Err SayFault) number is of = rw is refl
statuses_of_making (Err DiskFault) number is of = rw is refl
statuses_of_making (Err NotStore) number is of = absurd of
statuses_of_making (Err (Damaged page kind)) number is of = absurd of
statuses_of_making (Err Exists) number is of = rw is refl
statuses_of_making (Err InputLimit) number is of = absurd of
statuses_of_making (Err Memory) number is of = rw is refl
statuses_of_making (Err Changed) number is of = absurd of

pub place_of_making : (run : Result (Unit {0}) Stop) → IfErr run IsOfMaking → place_of run ≡ Nowhere
place_of_making (Ok done) of = refl
place_of_making (Err SourceFault) of = refl
place_of_making (Err SayFault) of = refl
place_of_making (Err DiskFault) of = refl
place_of_making (Err NotStore) of = refl
place_of_making (Err (Damaged page kind)) of = absurd of
place_of_making (Err Exists) of = refl
place_of_making (Err InputLimit) of = refl
place_of_making (Err Memory) of = refl
place_of_making (Err Changed) of = refl
