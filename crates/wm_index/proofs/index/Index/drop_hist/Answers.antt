use Rattle.wm_ids.specs.Ids.{without}
use Rattle.wm_index.proofs.Changing.{hist_changed}
use Rattle.wm_index.proofs.index.Index.drop_hist.Goals as goal

pub returns-clause-ids : goal.returns-clause-ids
returns-clause-ids c = hist_changed (without c.args.id) c.args.self.now c.drop_among.new.map c.drop_among-2.new.map c.args.hist.now c.drop_among.ensures c.drop_among-2.ensures
