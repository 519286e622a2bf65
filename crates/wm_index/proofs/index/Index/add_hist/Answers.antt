use Rattle.std.proofs.lemmas.Result.{on_ok_weaker}
use Rattle.wm_ids.specs.Ids.{placed}
use Rattle.wm_index.proofs.Changing.{hist_changed}
use Rattle.wm_index.proofs.index.Index.add_hist.Goals as goal

pub returns-clause-ids : goal.returns-clause-ids
returns-clause-ids c = on_ok_weaker c.add_among-2.result (hist_changed (placed c.args.id) c.args.self.now c.add_among.new.map c.add_among-2.new.map c.args.hist.now c.in_ok-add_among.ensures) c.add_among-2.ensures
