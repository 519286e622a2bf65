use Rattle.std.proofs.Common.{sym, subst, ◌∙◌}
use Rattle.wm_graph.specs.Parts.{parts_of}
use Rattle.wm_records.proofs.Hopping.{hops_again}
use Rattle.wm_records.specs.Hops.{AreWithout}
use Rattle.wm_records.proofs.hops.Hops.follow.Goals as goal

pub returns-then-are_same : goal.returns-then-are_same
returns-then-are_same c = λ ss id becomes sorted goes comes are.
    hops_again ss id becomes c.args.self.now sorted (sym goes ∙ c.are_same.ensures c.if-are_same.true ∙ comes) are

pub returns : goal.returns
returns c = λ ss id becomes sorted goes comes are.
    c.in_ok-learn.ensures ss id becomes comes (subst (λ o. AreWithout o c.forget.new.self) goes c.forget.ensures.without) (c.forget.ensures.rest (parts_of ss).versions are)
