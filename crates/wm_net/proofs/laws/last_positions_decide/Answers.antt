use Rattle.wm_net.proofs.Placing.{touched-drop, reach_once}
use Rattle.wm_spec.proofs.Reaching.{reach-append}
use Rattle.wm_net.proofs.laws.last_positions_decide.Goals as goal

pub returns-clause-behind : goal.returns-clause-behind
returns-clause-behind c = touched-drop

pub returns-clause-append : goal.returns-clause-append
returns-clause-append c = reach-append

pub returns-clause-once : goal.returns-clause-once
returns-clause-once c = reach_once
