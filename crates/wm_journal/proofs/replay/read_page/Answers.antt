use Rattle.std.proofs.Common.{◌≡◌, arith}
use Rattle.std.proofs.lemmas.Result.{err_from_is_err_and}
use Rattle.wm_journal.proofs.replay.read_page.Goals as goal

pub returns-in_err-read-clause-cause : goal.returns-in_err-read-clause-cause
returns-in_err-read-clause-cause g c =
    let p = err_from_is_err_and c.from_residual-in_err-read.result c.from_residual-in_err-read.ensures.1 in
    let cause = c.in_err-read.ensures.cause in
    rw (p.1, p.2) (record { later = cause.later; failed = λ h. cause.failed cc; memory = λ h. cause.memory cc; done = tt })

pub returns-clause-cause : goal.returns-clause-cause
returns-clause-cause g c =
    let done : g.P.Station.disk_faults c.read.new.self ≡ g.P.Station.disk_faults c.args.station.now = c.in_ok-read.ensures.cause.done in
    record { later = omega (arith, done); failed = λ h. absurd cc; memory = λ h. done; done = done }
