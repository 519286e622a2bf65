use Rattle.wm_net.proofs.Sharing.{apart_count, touches_count}
use Rattle.wm_net.proofs.laws.things_apart_are_no_more_than_stretches.Goals as goal

pub returns-clause-things : goal.returns-clause-things
returns-clause-things c = λ es f covered xs. apart_count es f covered xs

pub returns-clause-ranges : goal.returns-clause-ranges
returns-clause-ranges c = λ es own xs. touches_count es own (λ r. r) xs
