use Rattle.std.proofs.Common.{rules, ◌≡◌, ◌<◌, ◌≤◌, true, sym, arith}
use Rattle.wm_base.specs.Period.{covers}
use Rattle.wm_period.proofs.Search.{looking_left, looking_right, looking_all, found_there}
use Rattle.wm_period.proofs.pieces.find.Goals as goal

pub loop-low-preserved-then-lt : goal.loop-low-preserved-then-lt
loop-low-preserved-then-lt c =
    let early : c.args.at < c.index-list-middle.result.period.from = search rules in
    looking_left _ _ _ _ _ _ c.requires c.loop-low.invariant (omega arith) (omega (arith, c.loop-low-test.true)) c.index-list-middle.is early

pub loop-low-preserved : goal.loop-low-preserved
loop-low-preserved c =
    let late : c.index-list-middle.result.period.till ≤ c.args.at = search rules in
    looking_right _ _ _ _ _ _ c.requires c.loop-low.invariant (omega arith) (omega (arith, c.loop-low-test.true)) c.index-list-middle.is late

pub returns-else-le-clause-held : goal.returns-else-le-clause-held
returns-else-le-clause-held c =
    let covered : covers c.index-list-middle.result.period c.args.at ≡ true = search rules in
    sym (found_there _ _ _ _ c.requires (omega (arith, c.loop-low.invariant.within, c.loop-low-test.true)) c.index-list-middle.is covered)

pub returns-clause-held : goal.returns-clause-held
returns-clause-held c = sym (looking_all _ _ _ _ c.loop-low.invariant c.loop-low-test.false)
