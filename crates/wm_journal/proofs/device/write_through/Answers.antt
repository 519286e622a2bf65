use Rattle.std.proofs.Common.{◌++◌, length}
use Rattle.std.proofs.lemmas.Result.{on_ok_weaker, on_err_weaker}
use Rattle.wm_page.specs.Batch.{entries}
use Rattle.wm_journal.specs.Writes.{arming, gating, placing, committing}
use Rattle.wm_journal.proofs.Sequences.{on_err, did_both, did_part_of_front, did_part_of_back}
use Rattle.wm_journal.proofs.device.write_through.Goals as goal

pub returns-in_err-arm-clause-part : goal.returns-in_err-arm-clause-part
unfolding committing
returns-in_err-arm-clause-part g c = λ t.
    let pages = entries c.args.pages.now in
    on_err c.from_residual.result
    (did_part_of_front (arming c.args.start (length c.args.pages.now) c.args.journal.now) (gating 71 ++ (placing pages ++ gating 0))
    (g.P.Station.history c.args.station.now) (g.P.Station.history c.arm.new.station) (c.in_err-arm.ensures.part t))

pub returns-in_err-set_gate-clause-part : goal.returns-in_err-set_gate-clause-part
unfolding committing
returns-in_err-set_gate-clause-part g c = λ t.
    let pages = entries c.args.pages.now in
    on_err c.from_residual-in_err-set_gate.result
    (did_part_of_back (arming c.args.start (length c.args.pages.now) c.args.journal.now) (gating 71 ++ (placing pages ++ gating 0))
    (g.P.Station.history c.args.station.now) (g.P.Station.history c.arm.new.station) (g.P.Station.history c.set_gate.new.station) (c.in_ok-arm.ensures.did t)
    (did_part_of_front (gating 71) (placing pages ++ gating 0) (g.P.Station.history c.arm.new.station) (g.P.Station.history c.set_gate.new.station) (c.in_err-set_gate.ensures.part t)))

pub returns-in_err-place-clause-part : goal.returns-in_err-place-clause-part
unfolding committing
returns-in_err-place-clause-part g c = λ t.
    let pages = entries c.args.pages.now in
    let armed = g.P.Station.history c.arm.new.station in
    let opened = g.P.Station.history c.set_gate.new.station in
    let placed = g.P.Station.history c.place.new.station in
    on_err c.from_residual-in_err-place.result
    (did_part_of_back (arming c.args.start (length c.args.pages.now) c.args.journal.now) (gating 71 ++ (placing pages ++ gating 0))
    (g.P.Station.history c.args.station.now) armed placed (c.in_ok-arm.ensures.did t)
    (did_part_of_back (gating 71) (placing pages ++ gating 0) armed opened placed (c.in_ok-set_gate.ensures.did t)
    (did_part_of_front (placing pages) (gating 0) opened placed (c.in_err-place.ensures.part t))))

pub returns-clause-did : goal.returns-clause-did
unfolding committing
returns-clause-did g c = λ t.
    let pages = entries c.args.pages.now in
    let armed = g.P.Station.history c.arm.new.station in
    let opened = g.P.Station.history c.set_gate.new.station in
    let placed = g.P.Station.history c.place.new.station in
    let closed = g.P.Station.history c.set_gate-2.new.station in
    on_ok_weaker c.set_gate-2.result
    (λ last. did_both (arming c.args.start (length c.args.pages.now) c.args.journal.now) (gating 71 ++ (placing pages ++ gating 0))
    (g.P.Station.history c.args.station.now) armed closed (c.in_ok-arm.ensures.did t)
    (did_both (gating 71) (placing pages ++ gating 0) armed opened closed (c.in_ok-set_gate.ensures.did t)
    (did_both (placing pages) (gating 0) opened placed closed (c.in_ok-place.ensures.did t) last)))
    (c.set_gate-2.ensures.did t)

pub returns-clause-part : goal.returns-clause-part
unfolding committing
returns-clause-part g c = λ t.
    let pages = entries c.args.pages.now in
    let armed = g.P.Station.history c.arm.new.station in
    let opened = g.P.Station.history c.set_gate.new.station in
    let placed = g.P.Station.history c.place.new.station in
    let closed = g.P.Station.history c.set_gate-2.new.station in
    on_err_weaker c.set_gate-2.result
    (λ last. did_part_of_back (arming c.args.start (length c.args.pages.now) c.args.journal.now) (gating 71 ++ (placing pages ++ gating 0))
    (g.P.Station.history c.args.station.now) armed closed (c.in_ok-arm.ensures.did t)
    (did_part_of_back (gating 71) (placing pages ++ gating 0) armed opened closed (c.in_ok-set_gate.ensures.did t)
    (did_part_of_back (placing pages) (gating 0) opened placed closed (c.in_ok-place.ensures.did t) last)))
    (c.set_gate-2.ensures.part t)
