-- Layers dropped one after another.
use Rattle.std.proofs.Common.{◌≡◌, ℕ, cond, nat_eq, List, [], take}
use Rattle.std.specs.List.{list_any}
use Rattle.wm_rows.specs.Counts.{Counts, Counted}
use Rattle.wm_rows.specs.Rows.{Layers, groups_in}

-- where the loop stands: the first `i` versions are dropped
pub record Dropping (start : Layers) (versions : List ℕ) (i : ℕ) (layers : Layers) (counts : Counts) : Type 0 where
  pub counted : Counted layers counts
  pub groups : (v : ℕ) → groups_in layers v ≡ cond (list_any (nat_eq v) (take i versions)) [] (groups_in start v)
