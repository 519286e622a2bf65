-- A fact that is truncated gives the fact itself as an assertion, which is truncated in any case.
use mathlib.Core.Logic.{∥∥₁_map}
use seplogic.Ra.Ura.{Ura}
use base.Logic.{ent, emp, guard_e}
use contract.Monad.{fact}

pub whole : {M : Type 1} (𝓤 : Ura M) (P : Type 0) → ent 𝓤 (fact 𝓤 ∥ P ∥₁) (fact 𝓤 P)
whole 𝓤 P = guard_e 𝓤 (∥ P ∥₁) (emp 𝓤) (λ t. record { apply = λ a h. ∥∥₁_map t (λ x. (x, h)) })
