-- Records put under their ids, from the first to the last.
use Rattle.std.proofs.Common.{◌≡◌, ◌<◌, List, [], ◌∷◌, ◌++◌, Some, refl, ap, arith}
use Rattle.std.proofs.lemmas.Bool.{le-ltb, ne_eqb}
use Rattle.wm_records.proofs.Lists.{above_between}
use Rattle.wm_spec.specs.declared.record.stored.Stored.{Stored}
use Rattle.wm_state.specs.ById.{Ascend, set_at}

-- a record whose id is above all comes last
pub set_at-last : (ss : List Stored) (t : Stored) (ts : List Stored) → Ascend (ss ++ t ∷ ts) → set_at t.id (Some t.record) ss ≡ ss ++ t ∷ []
set_at-last [] t ts sorted = refl
set_at-last (s ∷ ss) t ts sorted =
    let less : s.id < t.id = above_between s.id ss t ts sorted.0 in
    rw (ne_eqb s.id t.id (λ e. absurd (omega (arith, less, e))), le-ltb t.id s.id (omega (arith, less))) (ap (λ l. s ∷ l) (set_at-last ss t ts sorted.1))
