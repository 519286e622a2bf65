-- A walk over all sides of a key.
use Rattle.std.specs.Prelude.{ℕ, ◌≡◌, ◌<◌, ◌≤◌, true, None, is_some}
use Rattle.wm_base.specs.declared.instant.TheConstants.{END}
use Rattle.wm_net.specs.Conflicts.{Stamps}
use Rattle.wm_net.specs.Firsts.{IsFirst}
use Rattle.wm_net.specs.Listed.{Stretch}
use Rattle.wm_period.specs.Pieces.{held_at}
use Rattle.wm_pending.specs.Fronts.{IsAhead}
use Rattle.wm_pending.specs.Sides.{contest_at}
use Rattle.wm_pending.specs.declared.sides.Sides.{Sides}
use Rattle.wm_pending.specs.declared.walk.Contest.{Contest}
use Rattle.wm_pending.specs.declared.walk.Walk.{Walk}
use Rattle.wm_pending.specs.Sides.{stamps_in}

-- a contest as a stretch
abbrev pub stretch_in : Contest → Stretch Stamps
stretch_in x = record { from = x.period.from; till = x.period.till; value = stamps_in x.stamps }

-- what is left on each side
abbrev pub left_in : Walk → Sides
left_in w = record { contested = w.contested.now; base = w.base.now; parent = w.parent.now; child = w.child.now }

-- none of it is over
pub record IsReady (w : Walk) : Type 0 where
  pub contested : IsAhead w.at w.contested.now
  pub base : IsAhead w.at w.base.now
  pub parent : IsAhead w.at w.parent.now
  pub child : IsAhead w.at w.child.now

-- a walk at an instant, that says from then on what another one does
pub record GoesTo (v : Walk) (at : ℕ) (w : Walk) : Type 0 where
  pub ready : IsReady w
  pub is : w.at ≡ at
  pub contests : (t : ℕ) → at ≤ t → contest_at (left_in w) t ≡ contest_at (left_in v) t

-- such a one at the first instant that is contested
pub record BeginsAt (v w : Walk) : Type 0 where
  pub goes : GoesTo v w.at w
  pub later : v.at ≤ w.at
  pub contested : is_some (held_at w.contested.now w.at) ≡ true
  pub before : (t : ℕ) → v.at ≤ t → t < w.at → contest_at (left_in v) t ≡ None

-- the first stretch of conflict, and such a walk at its end
pub record IsNext (v : Walk) (s : Stretch Stamps) (w : Walk) : Type 0 where
  pub goes : GoesTo v s.till w
  pub first : IsFirst (contest_at (left_in v)) v.at s
  pub bound : s.till ≤ END
