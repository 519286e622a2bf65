use Rattle.std.proofs.Common.{arith}
use Rattle.wm_index.proofs.Listed.{above_last, next_above, next_full, next_lowest, none_there}
use Rattle.wm_index.proofs.records.next_id.Goals as goal

pub returns-in-Some-clause-above : goal.returns-in-Some-clause-above
returns-in-Some-clause-above c = next_above c.args.kept.now c.in-Some.last c.checked_add.result (above_last c.args.kept.now c.in-Some.last c.in-Some.ensures.greatest) c.checked_add.ensures

pub returns-in-Some-clause-full : goal.returns-in-Some-clause-full
returns-in-Some-clause-full c = next_full c.args.kept.now c.in-Some.last c.checked_add.result c.in-Some.ensures.valued c.checked_add.ensures

pub returns-in-None-clause-above : goal.returns-in-None-clause-above
returns-in-None-clause-above c = λ id le. none_there c.args.kept.now c.in-None.ensures.none id

pub returns-in-Some-clause-lowest : goal.returns-in-Some-clause-lowest
returns-in-Some-clause-lowest c = next_lowest c.args.kept.now c.in-Some.last c.checked_add.result c.in-Some.ensures.valued c.checked_add.ensures

pub returns-in-None-clause-lowest : goal.returns-in-None-clause-lowest
returns-in-None-clause-lowest c = λ id e up. absurd (omega (arith, e, up))
