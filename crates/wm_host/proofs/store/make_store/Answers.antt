use Rattle.std.proofs.Common.{◌∙◌}
use Rattle.std.proofs.lemmas.Result.{on_ok_weaker}
use Rattle.wm_engine.specs.Working.{FileStands}
use Rattle.wm_state.specs.State.{fresh}
use Rattle.wm_host.specs.Outcome.{ok_text}
use Rattle.wm_host.proofs.Making.{holds_said, has_said_whole, has_said_front}
use Rattle.wm_host.proofs.store.make_store.Goals as goal

pub returns-clause-done : goal.returns-clause-done
returns-clause-done g c = λ t.
    on_ok_weaker c.say_all.result
    (has_said_whole (g.P.Station.history c.args.station.now) (g.P.Station.history c.make.new.station) (g.P.Station.history c.say_all.new.station) c.as_slice.result.now ok_text
    (c.in_ok-make.ensures.quiet t) c.as_slice.ensures)
    (c.say_all.ensures.said t)

pub returns-clause-front : goal.returns-clause-front
returns-clause-front g c = λ t.
    has_said_front g.P.Station.tells (g.P.Station.history c.args.station.now) (g.P.Station.history c.make.new.station) (g.P.Station.history c.say_all.new.station) c.as_slice.result.now ok_text c.say_all.result
    (c.in_ok-make.ensures.quiet t) c.as_slice.ensures (c.say_all.ensures.said t) c.say_all.ensures.part t

pub returns-clause-made : goal.returns-clause-made
returns-clause-made g c = λ t.
    on_ok_weaker c.say_all.result
    (λ only. holds_said g.P.Station.tells (g.P.Station.history c.make.new.station) (g.P.Station.history c.say_all.new.station) c.as_slice.result.now (λ file. FileStands file (fresh c.args.limit)) c.say_all.result
    (c.say_all.ensures.said t) c.say_all.ensures.part t (c.in_ok-make.ensures.fresh t))
    (c.say_all.ensures.said t)

pub returns-clause-made_unsaid : goal.returns-clause-made_unsaid
returns-clause-made_unsaid g c = λ t is.
    holds_said g.P.Station.tells (g.P.Station.history c.make.new.station) (g.P.Station.history c.say_all.new.station) c.as_slice.result.now (λ file. FileStands file (fresh c.args.limit)) c.say_all.result
    (c.say_all.ensures.said t) c.say_all.ensures.part t (c.in_ok-make.ensures.fresh t)

pub returns-clause-say_kept : goal.returns-clause-say_kept
returns-clause-say_kept g c = on_ok_weaker c.say_all.result (λ kept. kept ∙ c.in_ok-make.ensures.say_quiet) c.say_all.ensures.kept

pub returns-clause-disk_kept : goal.returns-clause-disk_kept
returns-clause-disk_kept g c = on_ok_weaker c.say_all.result (λ _. c.say_all.ensures.quiet ∙ c.in_ok-make.ensures.cause.done) c.say_all.ensures.kept
