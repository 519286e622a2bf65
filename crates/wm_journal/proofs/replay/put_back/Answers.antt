use Rattle.std.proofs.lemmas.Result.{on_ok_weaker, on_err_weaker}
use Rattle.wm_page.specs.Batch.{entries}
use Rattle.wm_journal.specs.Writes.{gating, placing}
use Rattle.wm_journal.proofs.Sequences.{on_err, did_both, did_part_of_front, did_part_of_back}
use Rattle.wm_journal.proofs.replay.put_back.Goals as goal

pub returns-in_err-place-clause-part : goal.returns-in_err-place-clause-part
returns-in_err-place-clause-part g c = λ t.
    on_err c.from_residual.result (did_part_of_front (placing (entries c.args.pages.now)) (gating 0) (g.P.Station.history c.args.station.now) (g.P.Station.history c.place.new.station) (c.in_err-place.ensures.part t))

pub returns-clause-did : goal.returns-clause-did
returns-clause-did g c = λ t.
    on_ok_weaker c.set_gate.result
    (λ last. did_both (placing (entries c.args.pages.now)) (gating 0) (g.P.Station.history c.args.station.now) (g.P.Station.history c.place.new.station) (g.P.Station.history c.set_gate.new.station) (c.in_ok-place.ensures.did t) last)
    (c.set_gate.ensures.did t)

pub returns-clause-part : goal.returns-clause-part
returns-clause-part g c = λ t.
    on_err_weaker c.set_gate.result
    (λ last. did_part_of_back (placing (entries c.args.pages.now)) (gating 0) (g.P.Station.history c.args.station.now) (g.P.Station.history c.place.new.station) (g.P.Station.history c.set_gate.new.station) (c.in_ok-place.ensures.did t) last)
    (c.set_gate.ensures.part t)
