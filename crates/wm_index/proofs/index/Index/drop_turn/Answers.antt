use Rattle.wm_ids.specs.Ids.{without}
use Rattle.wm_index.proofs.Changing.{turn_changed}
use Rattle.wm_index.specs.Sought.{TurnAt}
use Rattle.wm_index.proofs.index.Index.drop_turn.Goals as goal

pub drop_from-requires : goal.drop_from-requires
drop_from-requires c = c.requires (TurnAt c.args.turn.now.space c.args.turn.now.rebase)

pub returns-clause-ids : goal.returns-clause-ids
returns-clause-ids c = turn_changed (without c.args.id) c.args.self.now c.drop_among.new.map c.drop_from.new.map c.args.turn.now c.drop_among.ensures c.drop_from.ensures
