-- What a version shows of a key, as the code has it.
use Rattle.std.specs.Prelude.{ℕ, ◌≡◌, ◌<◌}
use Rattle.wm_base.specs.declared.instant.TheConstants.{END}
use Rattle.wm_graph.specs.Parts.{Parts}
use Rattle.wm_period.specs.Pieces.{held_at}
use Rattle.wm_resolve.specs.declared.deciding.Shown.{Shown}
use Rattle.wm_state.specs.Standing.{seen}

abbrev pub Shows : Parts → ℕ → ℕ → Shown → Type 0
Shows p version table x = (t : ℕ) → t < END → held_at x.pieces t ≡ seen p version (record { table = table; key = x.key; time = t })
