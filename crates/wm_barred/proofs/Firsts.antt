-- The first lock that bars cells is that of the first stretch on which there is one.
use Rattle.std.proofs.Common.{◌≡◌, ◌&&◌, List, ◌∷◌, Option, Some, None, refl, ap, ◌∙◌}
use Rattle.std.specs.List.{find}
use Rattle.wm_base.specs.declared.refusal.Refusal.{Refusal}
use Rattle.wm_guard.specs.Barring.{locks_at, meets}
use Rattle.wm_model.specs.Step.{Claim, barring_at, bars_claim, lock_fault, locked_told, refusal_of, refused_for}
use Rattle.wm_outline.specs.Outline.{Outline}
use Rattle.wm_spec.specs.declared.record.cell_range.CellRange.{CellRange}
use Rattle.wm_spec.specs.declared.record.lock.Lock.{Lock}

-- the first of the locks on a key that does is told
pub told_first : (o : Outline) (c : Claim) (x : CellRange) (y : Lock) (locks : List Lock) (r : Option Refusal) → locks ≡ locks_at x.table x.key o.locks → Some y ≡ find (λ (z : Lock). meets x z.cells && bars_claim o c z) locks
    → r ≡ refusal_of (locked_told o y) → r ≡ refused_for (locked_told o) (barring_at o c x)
told_first o c x y locks r same first told = told ∙ ap (refused_for (locked_told o)) (first ∙ ap (find (λ (z : Lock). meets x z.cells && bars_claim o c z)) same)

module _ (o : Outline) (c : Claim) (x : CellRange) (xs : List CellRange) where
  abbrev pub fault_of : Option Refusal
  fault_of = refused_for (locked_told o) (barring_at o c x)

  pub fault_here : (r : Refusal) → fault_of ≡ Some r → lock_fault o c (x ∷ xs) ≡ Some r
  fault_here r is = by_lock (barring_at o c x) refl is
    where
      by_lock : (l : Option Lock) → barring_at o c x ≡ l → refused_for (locked_told o) l ≡ Some r → lock_fault o c (x ∷ xs) ≡ Some r
      by_lock None none told = absurd (cc)
      by_lock (Some y) found told = rw found told

  pub fault_behind : fault_of ≡ None → lock_fault o c (x ∷ xs) ≡ lock_fault o c xs
  fault_behind is = by_lock (barring_at o c x) refl is
    where
      by_lock : (l : Option Lock) → barring_at o c x ≡ l → refused_for (locked_told o) l ≡ None → lock_fault o c (x ∷ xs) ≡ lock_fault o c xs
      by_lock None none told = rw none refl
      by_lock (Some y) found told = absurd (cc)
