use Rattle.std.proofs.Common.{◌∙◌}
use Rattle.wm_station.specs.History.{now}
use Rattle.wm_journal.proofs.Verdicts.{number_there}
use Rattle.wm_journal.proofs.replay.read_page_number.Goals as goal

pub returns-clause-number : goal.returns-clause-number
returns-clause-number g c = λ t. c.read_number.ensures ∙ number_there (now (g.P.Station.history c.args.station.now)) c.read.new.into c.args.at (c.in_ok-read.ensures.bytes t)
