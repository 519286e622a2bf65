-- What UnlockRows drops.
use Rattle.std.specs.Prelude.{ℕ, ◌==◌, ◌&&◌, Bool, List, [], ◌∷◌, length, Option, None}
use Rattle.std.specs.Str.{bytes_eq}
use Rattle.wm_base.specs.declared.refusal.Refusal.{Refusal}
use Rattle.wm_model.specs.Seating.{Stay}
use Rattle.wm_model.specs.Step.{Plan, spent, unlock_edits}
use Rattle.wm_outline.specs.Outline.{Outline}
use Rattle.wm_print.specs.Texts.{Done}
use Rattle.wm_spec.specs.declared.record.lock.Lock.{Lock}
use Rattle.wm_state.specs.State.{Session}

-- the session's user holds a lock in the workspace of a number
abbrev pub is_users : Session → ℕ → Lock → Bool
is_users session n x = (x.space == n) && bytes_eq session.user x.user

-- the work is at its end, where something is to be dropped
abbrev pub makings_spent : List ℕ → Outline → Option Refusal
makings_spent [] o = None
makings_spent (x ∷ xs) o = spent o

-- the locks of these makings go
abbrev pub unlocking_of : List ℕ → Outline → Plan
unlocking_of makings o = record { faults = makings_spent makings o ∷ []; edits = unlock_edits makings; seating = Stay; answer = Done (length makings) }
