use Rattle.std.proofs.Common.{arith, rules}
use Rattle.jiff_core.proofs.SignedLemmas.{signed_casts}
use Rattle.wm_instants.proofs.CivilLemmas.{seconds_between}
use Rattle.wm_instants.proofs.civil.seconds_of.Goals as goal

pub overflow_cast-result : goal.overflow_cast-result
overflow_cast-result c =
    let e = seconds_between c.args.shown c.beginning.result _ _ c.requires c.beginning.ensures c.duration_since.ensures c.as_secs.ensures in
    rw e.0 (search (rules, signed_casts))

pub returns-clause-value : goal.returns-clause-value
returns-clause-value c =
    let e = seconds_between c.args.shown c.beginning.result _ _ c.requires c.beginning.ensures c.duration_since.ensures c.as_secs.ensures in
    rw e.0 (omega (arith, signed_casts))

pub returns-clause-bound : goal.returns-clause-bound
returns-clause-bound c =
    let e = seconds_between c.args.shown c.beginning.result _ _ c.requires c.beginning.ensures c.duration_since.ensures c.as_secs.ensures in
    rw e.0 (omega (arith, signed_casts))
