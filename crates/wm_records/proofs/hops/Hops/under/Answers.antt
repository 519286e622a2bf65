use Rattle.std.proofs.Common.{sym, arith}
use Rattle.wm_records.proofs.Hopping.{leads_over}
use Rattle.wm_records.proofs.hops.Hops.under.Goals as goal

pub returns-then-first-second-clause-leads : goal.returns-then-first-second-clause-leads
returns-then-first-second-clause-leads c = λ vs are.
    let one = are.known c.args.parent c.in-Some.first (sym c.in-Some.ensures) in
    let two = are.known c.in-Some.first.far c.in-Some-hop.second (sym c.in-Some-hop.ensures) in (
      omega (arith, one.down, two.down),
      leads_over vs c.in-Some-hop.second.far c.in-Some.first.far c.args.parent (omega (arith, two.down)) (omega (arith, one.down)) two.leads one.leads,
    )
