use Rattle.std.proofs.Common.{◌+◌, arith}
use Rattle.std.proofs.lemmas.Result.{on_ok_weaker}
use Rattle.wm_station.proofs.Overs.{over_within}
use Rattle.wm_station.proofs.tear.put_within.Goals as goal

pub returns : goal.returns
returns c =
    on_ok_weaker c.put.result
    (over_within c.args.at c.args.len (c.args.at + c.args.skip) c.args.bytes.now c.args.left.now.items c.put.new.image.items (omega arith) (omega arith)) c.put.ensures.ok
