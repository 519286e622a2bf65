use Rattle.wm_spec.specs.Lists.{told}
use Rattle.wm_net.proofs.Netting.{Alike-net, net_is}
use Rattle.wm_net.proofs.Onces.{Once-listing}
use Rattle.wm_net.proofs.laws.a_net_list_holds_what_its_list_holds.Goals as goal

pub returns-clause-alike : goal.returns-clause-alike
returns-clause-alike c = Alike-net

pub returns-clause-once : goal.returns-clause-once
returns-clause-once c = λ moment user es. Once-listing moment user es (told es)

pub returns-clause-only : goal.returns-clause-only
returns-clause-only c = net_is
