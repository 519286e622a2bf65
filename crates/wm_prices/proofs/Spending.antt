-- One edit more is made, at its price.
use Rattle.std.proofs.Common.{ℕ, List, [], ◌∷◌, ◌++◌, refl, subst}
use Rattle.wm_spec.specs.declared.record.stored.Stored.{Stored}
use Rattle.wm_state.specs.declared.edit.Edit.{Edit}
use Rattle.wm_prices.specs.Prices.{Spends, Spent}

pub spends_more : (m : ℕ) (old mid new : List Stored) (es : List Edit) (e : Edit) → Spends m old es mid → Spent m mid e new → Spends m old (es ++ e ∷ []) new
spends_more m old mid new [] e spends spent = record { next = new; spent = subst (λ (ss : List Stored). Spent m ss e new) spends spent; rest = refl }
spends_more m old mid new (x ∷ xs) e spends spent = record { next = spends.next; spent = spends.spent; rest = spends_more m spends.next mid new xs e spends.rest spent }
