-- The first stretch of a function of the moment, and the first of a function of the cell.
use Rattle.std.specs.Prelude.{ℕ, ◌≡◌, ◌<◌, ◌≤◌, Option, None, Some}
use Rattle.std.specs.declared.cmp.Ordering.TheVariants.{Less}
use Rattle.wm_spec.specs.Lists.{Cell}
use Rattle.wm_net.specs.Groups.{Group, cell, group_order}
use Rattle.wm_net.specs.Listed.{Stretch}

-- from an instant on: nothing is given before the stretch, its value over it, and something else or nothing at its end
pub record IsFirst {A : Type 0} (f : ℕ → Option A) (low : ℕ) (s : Stretch A) : Type 0 where
  pub begins : low ≤ s.from
  pub before : (t : ℕ) → low ≤ t → t < s.from → f t ≡ None
  pub real : s.from < s.till
  pub over : (t : ℕ) → s.from ≤ t → t < s.till → f t ≡ Some s.value
  pub ends : f s.till ≡ Some s.value → ⊥

-- the first stretch of its group, and nothing is given in a group that comes before it
pub record IsFirstOf {A : Type 0} (f : Cell → Option A) (g : Group) (s : Stretch A) : Type 0 where
  pub before : (h : Group) → group_order h g ≡ Less → (t : ℕ) → f (cell h t) ≡ None
  pub first : IsFirst (λ t. f (cell g t)) 0 s
