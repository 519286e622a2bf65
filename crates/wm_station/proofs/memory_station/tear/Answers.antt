use Rattle.std.proofs.lemmas.Result.{on_ok_weaker}
use Rattle.wm_station.specs.Recorded.{history_of}
use Rattle.wm_station.proofs.Overs.{may_have_written}
use Rattle.wm_station.proofs.memory_station.tear.Goals as goal

pub returns-clause-ok : goal.returns-clause-ok
returns-clause-ok c =
    on_ok_weaker c.write.result (may_have_written c.args.at c.args.len c.args.torn.now (history_of c.args.recording.now) (history_of c.write.new.self) c.requires) c.write.ensures.ok
