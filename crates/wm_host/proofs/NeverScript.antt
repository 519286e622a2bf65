-- Nor does a run over the lines of a script.
use Rattle.std.proofs.Common.{◌≡◌, ◌⊎◌, ℕ, ◌==◌, false, true, Result, Ok, Err, inl, inr, refl, sym, ◌∙◌}
use Rattle.std.specs.Prelude.{IfErr}
use Rattle.std.proofs.lemmas.Bool.{eq-eqb}
use Rattle.wm_host.specs.Cause.{IsOfScript}
use Rattle.wm_host.specs.Status.{status_of}
use Rattle.wm_host.specs.declared.stop.Stop.{Stop}
use Rattle.wm_host.specs.declared.stop.Stop.TheVariants.{SourceFault, SayFault, DiskFault, NotStore, Damaged, Exists, InputLimit, Memory, Changed}

apart : (a b : ℕ) → a ≡ b → (a == b) ≡ false → ⊥
apart a b same other = let is : (a == b) ≡ true = eq-eqb a b same in cc

-- the store was one
pub script_never_6 : (run : Result (Unit {0}) Stop) (number : ℕ) → number ≡ status_of run → IfErr run IsOfScript → number ≡ 6 → ⊥
script_never_6 (Ok done) number is script same = apart 6 0 (sym same ∙ is) refl
script_never_6 (Err SourceFault) number is script same = apart 6 3 (sym same ∙ is) refl
script_never_6 (Err SayFault) number is script same = apart 6 4 (sym same ∙ is) refl
script_never_6 (Err DiskFault) number is script same = apart 6 5 (sym same ∙ is) refl
script_never_6 (Err InputLimit) number is script same = apart 6 9 (sym same ∙ is) refl
script_never_6 (Err Memory) number is script same = apart 6 10 (sym same ∙ is) refl
script_never_6 (Err Changed) number is script same = apart 6 11 (sym same ∙ is) refl
script_never_6 (Err NotStore) number is script same = absurd script
script_never_6 (Err (Damaged page kind)) number is script same = absurd script
script_never_6 (Err Exists) number is script same = absurd script

-- and not damaged
pub script_never_7 : (run : Result (Unit {0}) Stop) (number : ℕ) → number ≡ status_of run → IfErr run IsOfScript → number ≡ 7 → ⊥
script_never_7 (Ok done) number is script same = apart 7 0 (sym same ∙ is) refl
script_never_7 (Err SourceFault) number is script same = apart 7 3 (sym same ∙ is) refl
script_never_7 (Err SayFault) number is script same = apart 7 4 (sym same ∙ is) refl
script_never_7 (Err DiskFault) number is script same = apart 7 5 (sym same ∙ is) refl
script_never_7 (Err InputLimit) number is script same = apart 7 9 (sym same ∙ is) refl
script_never_7 (Err Memory) number is script same = apart 7 10 (sym same ∙ is) refl
script_never_7 (Err Changed) number is script same = apart 7 11 (sym same ∙ is) refl
script_never_7 (Err NotStore) number is script same = absurd script
script_never_7 (Err (Damaged page kind)) number is script same = absurd script
script_never_7 (Err Exists) number is script same = absurd script

pub script_never : (run : Result (Unit {0}) Stop) (number : ℕ) → number ≡ status_of run → IfErr run IsOfScript → (number ≡ 6) ⊎ (number ≡ 7) → ⊥
script_never run number is script (inl six) = script_never_6 run number is script six
script_never run number is script (inr seven) = script_never_7 run number is script seven
