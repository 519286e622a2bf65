use Rattle.std.proofs.Common.{◌++◌}
use Rattle.std.proofs.lemmas.Result.{on_ok_weaker, on_err_weaker}
use Rattle.wm_page.specs.Batch.{entries}
use Rattle.wm_journal.specs.Writes.{marking, rooting, making, root_page}
use Rattle.wm_journal.proofs.Sequences.{on_err, did_both, did_part_of_front, did_part_of_back}
use Rattle.wm_journal.proofs.device.write_made.Goals as goal

pub returns-in_err-write_byte-clause-part : goal.returns-in_err-write_byte-clause-part
unfolding making
returns-in_err-write_byte-clause-part g c = λ t.
    on_err c.from_residual.result
    (did_part_of_front (marking 0) (rooting root_page (entries c.args.pages.now) ++ marking 90) (g.P.Station.history c.args.station.now) (g.P.Station.history c.write_byte.new.station) (c.in_err-write_byte.ensures.part t))

pub returns-in_err-write_root-clause-part : goal.returns-in_err-write_root-clause-part
unfolding making
returns-in_err-write_root-clause-part g c = λ t.
    let root = rooting root_page (entries c.args.pages.now) in
    on_err c.from_residual-in_err-write_root.result
    (did_part_of_back (marking 0) (root ++ marking 90) (g.P.Station.history c.args.station.now) (g.P.Station.history c.write_byte.new.station) (g.P.Station.history c.write_root.new.station) (c.in_ok-write_byte.ensures.did t)
    (did_part_of_front root (marking 90) (g.P.Station.history c.write_byte.new.station) (g.P.Station.history c.write_root.new.station) (c.in_err-write_root.ensures.part t)))

pub returns-clause-did : goal.returns-clause-did
unfolding making
returns-clause-did g c = λ t.
    let root = rooting root_page (entries c.args.pages.now) in
    let one = g.P.Station.history c.write_byte.new.station in
    let two = g.P.Station.history c.write_root.new.station in
    let new = g.P.Station.history c.write_byte-2.new.station in
    on_ok_weaker c.write_byte-2.result
    (λ last. did_both (marking 0) (root ++ marking 90) (g.P.Station.history c.args.station.now) one new (c.in_ok-write_byte.ensures.did t)
    (did_both root (marking 90) one two new (c.in_ok-write_root.ensures.did t) last))
    (c.write_byte-2.ensures.did t)

pub returns-clause-part : goal.returns-clause-part
unfolding making
returns-clause-part g c = λ t.
    let root = rooting root_page (entries c.args.pages.now) in
    let one = g.P.Station.history c.write_byte.new.station in
    let two = g.P.Station.history c.write_root.new.station in
    let new = g.P.Station.history c.write_byte-2.new.station in
    on_err_weaker c.write_byte-2.result
    (λ last. did_part_of_back (marking 0) (root ++ marking 90) (g.P.Station.history c.args.station.now) one new (c.in_ok-write_byte.ensures.did t)
    (did_part_of_back root (marking 90) one two new (c.in_ok-write_root.ensures.did t) last))
    (c.write_byte-2.ensures.part t)
