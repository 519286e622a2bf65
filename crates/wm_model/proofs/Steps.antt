-- What every line that does not fit has in common.
use Rattle.std.proofs.Common.{ℕ, ◌≡◌, List, false, refl}
use Rattle.wm_model.specs.Lines.{fits_line, too_long}
use Rattle.wm_model.specs.Step.{State, step}

pub step_long : (s : State) (line : List ℕ) → fits_line line ≡ false → step s line ≡ step s too_long
unfolding step too_long
step_long s line long = rw long refl
