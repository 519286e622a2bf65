use Rattle.std.proofs.lemmas.Result.{on_ok_weaker}
use Rattle.wm_ids.specs.Ids.{placed}
use Rattle.wm_index.proofs.Changing.{turn_changed}
use Rattle.wm_index.specs.Sought.{TurnAt}
use Rattle.wm_index.proofs.index.Index.add_turn.Goals as goal

pub add_to-requires : goal.add_to-requires
add_to-requires c = c.requires (TurnAt c.args.turn.now.space c.args.turn.now.rebase)

pub returns-clause-ids : goal.returns-clause-ids
returns-clause-ids c = on_ok_weaker c.add_to.result (turn_changed (placed c.args.id) c.args.self.now c.add_among.new.map c.add_to.new.map c.args.turn.now c.in_ok-add_among.ensures) c.add_to.ensures
