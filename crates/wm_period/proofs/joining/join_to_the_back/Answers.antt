use Rattle.std.proofs.Common.{◌+◌, ◌-◌, ℕ, refl, subst, arith}
use Rattle.wm_period.proofs.JoinLaws.{Joining, joining_apart, joining_longer}
use Rattle.wm_period.proofs.joining.join_to_the_back.Goals as goal

pub loop-left-preserved-in-Some : goal.loop-left-preserved-in-Some
loop-left-preserved-in-Some c =
    let P : ℕ → Type 0 = λ n. Joining c.args.list.now c.loop-left.list n c.loop-left.kept in
    let so : P (c.loop-left.left - 1 + 1) = subst P (omega arith) c.loop-left.invariant in
    joining_longer c.args.list.now c.loop-left.list (c.loop-left.left - 1) c.loop-left.kept c.index-list-left.result c.in-Some.whole so
    c.index-list-left.is c.in-Some.ensures.one

pub loop-left-preserved : goal.loop-left-preserved
loop-left-preserved c =
    let P : ℕ → Type 0 = λ n. Joining c.args.list.now c.loop-left.list n c.loop-left.kept in
    let so : P (c.loop-left.left - 1 + 1) = subst P (omega arith) c.loop-left.invariant in
    joining_apart c.args.list.now c.loop-left.list (c.loop-left.left - 1) c.loop-left.kept (c.loop-left.kept - 1) c.index-list-left.result so
    c.index-list-left.is (omega arith) (c.in-None.ensures.apart refl)
