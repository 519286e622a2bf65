-- Lines that were run over a store that is open never end as opening does.
use Rattle.std.proofs.Common.{◌≡◌, ◌⊎◌, ℕ, ◌==◌, false, true, Result, Ok, Err, inl, inr, refl, sym, ◌∙◌}
use Rattle.std.specs.Prelude.{IfErr}
use Rattle.std.proofs.lemmas.Bool.{eq-eqb}
use Rattle.wm_host.specs.Cause.{IsOfAnswers}
use Rattle.wm_host.specs.Status.{status_of}
use Rattle.wm_host.specs.declared.stop.Stop.{Stop}
use Rattle.wm_host.specs.declared.stop.Stop.TheVariants.{SourceFault, SayFault, DiskFault, NotStore, Damaged, Exists, InputLimit, Memory, Changed}

apart : (a b : ℕ) → a ≡ b → (a == b) ≡ false → ⊥
apart a b same other = let is : (a == b) ≡ true = eq-eqb a b same in cc

-- the store was one
pub never_6 : (run : Result (Unit {0}) Stop) (number : ℕ) → number ≡ status_of run → IfErr run IsOfAnswers → number ≡ 6 → ⊥
never_6 (Ok done) number is answering same = apart 6 0 (sym same ∙ is) refl
never_6 (Err SayFault) number is answering same = apart 6 4 (sym same ∙ is) refl
never_6 (Err DiskFault) number is answering same = apart 6 5 (sym same ∙ is) refl
never_6 (Err Memory) number is answering same = apart 6 10 (sym same ∙ is) refl
never_6 (Err Changed) number is answering same = apart 6 11 (sym same ∙ is) refl
never_6 (Err SourceFault) number is answering same = absurd answering
never_6 (Err NotStore) number is answering same = absurd answering
never_6 (Err (Damaged page kind)) number is answering same = absurd answering
never_6 (Err Exists) number is answering same = absurd answering
never_6 (Err InputLimit) number is answering same = absurd answering

-- and not damaged
pub never_7 : (run : Result (Unit {0}) Stop) (number : ℕ) → number ≡ status_of run → IfErr run IsOfAnswers → number ≡ 7 → ⊥
never_7 (Ok done) number is answering same = apart 7 0 (sym same ∙ is) refl
never_7 (Err SayFault) number is answering same = apart 7 4 (sym same ∙ is) refl
never_7 (Err DiskFault) number is answering same = apart 7 5 (sym same ∙ is) refl
never_7 (Err Memory) number is answering same = apart 7 10 (sym same ∙ is) refl
never_7 (Err Changed) number is answering same = apart 7 11 (sym same ∙ is) refl
never_7 (Err SourceFault) number is answering same = absurd answering
never_7 (Err NotStore) number is answering same = absurd answering
never_7 (Err (Damaged page kind)) number is answering same = absurd answering
never_7 (Err Exists) number is answering same = absurd answering
never_7 (Err InputLimit) number is answering same = absurd answering

pub never_either : (run : Result (Unit {0}) Stop) (number : ℕ) → number ≡ status_of run → IfErr run IsOfAnswers → (number ≡ 6) ⊎ (number ≡ 7) → ⊥
never_either run number is answering (inl six) = never_6 run number is answering six
never_either run number is answering (inr seven) = never_7 run number is answering seven
