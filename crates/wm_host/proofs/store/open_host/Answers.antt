use Rattle.std.proofs.Common.{subst}
use Rattle.std.proofs.lemmas.Result.{err_from_is_err_and}
use Rattle.wm_host.specs.Cause.{StopsAlone}
use Rattle.wm_station.specs.History.{now}
use Rattle.wm_host.proofs.Checking.{holds_same}
use Rattle.wm_host.proofs.Ending.{alone_of_open}
use Rattle.wm_host.proofs.store.open_host.Goals as goal

pub returns-clause-sound : goal.returns-clause-sound
returns-clause-sound g c = λ t. record { records = c.in_ok-engine.engine.records; holds = c.in_ok-engine.ensures.opened t; rules = c.in_ok-engine.ensures.rules }

pub returns-clause-same : goal.returns-clause-same
returns-clause-same g c = λ t. holds_same (now (g.P.Station.history c.args.station.now)) c.in_ok-engine.engine.records (g.P.Station.history c.open.new.station) (c.in_ok-engine.ensures.opened t) (c.in_ok-engine.ensures.works t).holds

pub returns-in_err-engine-clause-synced : goal.returns-in_err-engine-clause-synced
returns-in_err-engine-clause-synced g c = λ t.
    let p = err_from_is_err_and c.from_residual.result c.from_residual.ensures.1 in
    rw p.1 (λ alone. c.in_err-engine.ensures.synced t (alone_of_open c.in_err-engine.field-0.0 (subst StopsAlone p.2 alone)))
