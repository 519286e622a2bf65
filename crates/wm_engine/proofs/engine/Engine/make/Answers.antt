use Rattle.wm_model.proofs.Lawful.Runs.{lawful_durable, lawful_fresh}
use Rattle.wm_state.specs.State.{fresh}
use Rattle.wm_store.specs.Fresh.{fresh_records}
use Rattle.wm_store.specs.Opened.{Held}
use Rattle.wm_engine.proofs.Committing.{holds_weaken}
use Rattle.wm_engine.proofs.Fresh.{fresh_stands}
use Rattle.wm_engine.specs.Working.{FileStands}
use Rattle.wm_engine.proofs.engine.Engine.make.Goals as goal

pub returns-clause-fresh : goal.returns-clause-fresh
returns-clause-fresh g c = λ told.
    holds_weaken (g.P.Station.history c.make.new.station) (Held (fresh_records c.args.limit)) (λ file. FileStands file (fresh c.args.limit))
    (λ file held. record { records = fresh_records c.args.limit; held = held; stands = fresh_stands c.args.limit c.requires.0 c.requires.1; lawful = lawful_durable (fresh c.args.limit) (lawful_fresh c.args.limit) }) (c.in_ok-make.ensures.held told)
