-- The trait asks that the closure may be called, as a truncated fact, and the method asks it as it is: as assertions the two are one.
use Rattle.std.proofs.Common.{[], ◌∷◌}
use Rattle.std.specs.Fn.{FnReturnsAt}
use base.Logic.{via}
use borrow.Fn.Refines.{by_facts}
use contract.Monad.{fact}
use Rattle.wm_rowtest.specs.Calls.{MayTakeAt}
use Rattle.wm_rowtest.proofs.Whole.{whole}
use Rattle.wm_rowtest.proofs.judge.AnyJudge.TheImpl.Goals as goal

pub judge-meets : goal.judge-meets
judge-meets g c =
    let may : Type 0 = MayTakeAt g.F.Fn c.args.self.now c.args.row.now in
    via g.world.𝓤 (fact g.world.𝓤 may) (whole g.world.𝓤 may)
    (by_facts g.world.𝓤 (may ∷ []) (may ∷ []) _ _ (λ r e. FnReturnsAt g.F.Fn c.args.self.now c.args.row.now r ∷ []) (λ r e. FnReturnsAt g.F.Fn c.args.self.now c.args.row.now r ∷ []) (λ p. p) (λ p r e q. q))
