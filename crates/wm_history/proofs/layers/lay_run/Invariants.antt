use Rattle.std.proofs.Common.{◌≡◌, ℕ, [], take}
use Rattle.wm_history.specs.Laid.{last_held}
use Rattle.wm_period.specs.Pieces.{held_at}
use Rattle.wm_history.proofs.layers.lay_run.Given as goal

abbrev pub invariant-loop-place : goal.invariant-loop-place
invariant-loop-place l = record {
  held : (t : ℕ) → held_at l.run t ≡ last_held (take l.place l.written) t;
  first : l.place ≡ 0 → l.run ≡ [];
}
