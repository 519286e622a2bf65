use Rattle.std.proofs.Common.{refl, sym, ◌∙◌, arith}
use Rattle.wm_graph.specs.Parts.{parts_of}
use Rattle.wm_records.proofs.Hopping.{hops_kept, hops_cleared, hops_learned}
use Rattle.wm_records.proofs.hops.Hops.learn.Goals as goal

pub returns-in_default : goal.returns-in_default
returns-in_default c = λ ss id becomes comes without are. hops_kept ss id becomes c.args.self.now (sym comes ∙ c.in_default.is) without are

pub returns-then-version-self : goal.returns-then-version-self
returns-then-version-self c = λ ss id becomes comes without are.
    hops_cleared ss id becomes c.in-Some.version c.args.self.now _ (sym comes ∙ c.in-Some.is) c.clear.ensures.items (omega (arith, c.max-self.ensures)) (omega (arith, c.max-self.ensures)) are

pub returns : goal.returns
returns c = λ ss id becomes comes without are.
    hops_learned ss id becomes c.in-Some.version c.under-hop.result c.args.self.now _ (sym comes ∙ c.in-Some.is) (omega (arith, c.if-version-self.false)) (omega (arith, c.if-version.false))
    c.under-hop.ensures.parent (c.under-hop.ensures.leads (parts_of ss).versions are) c.in_ok-put.ensures.hops refl without are
