use Rattle.std.proofs.Common.{rules, ◌↔◌, ◌≤◌, IsTrue}
use Rattle.wm_period.proofs.Order.{ended_as_last}
use Rattle.wm_period.proofs.pieces.have_ended.Goals as goal

pub returns-in-Some : goal.returns-in-Some
returns-in-Some c =
    let test : IsTrue c.le.result ↔ (c.in-Some.last.now.period.till ≤ c.args.by) = search rules in
    ended_as_last c.args.by c.args.list.now c.in-Some.field-0-1.now c.in-Some.last.now c.requires c.in-Some.ensures.cases.0 c.le.result test
