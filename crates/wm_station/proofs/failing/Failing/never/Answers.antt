use Rattle.std.proofs.Common.{ℕ, List, [], Contains, subst, arith}
use Rattle.wm_station.proofs.failing.Failing.never.Goals as goal

pub returns : goal.returns
returns c = λ n fails.
    let found : Contains {X = ℕ} [] n = subst (λ (ns : List ℕ). Contains ns n) c.new.ensures.items ((c.at.ensures n).0 fails) in
    absurd (omega (arith, found.1))
