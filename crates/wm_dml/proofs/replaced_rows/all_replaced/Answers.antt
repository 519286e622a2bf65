use Rattle.std.proofs.Common.{inl, inr, refl, rules}
use Rattle.wm_dml.proofs.Paired.{replacing_begins, replacing_one, replacing_more, replacing_ends, replacing_stops}
use Rattle.wm_dml.proofs.replaced_rows.all_replaced.Goals as goal

pub loop-old-init : goal.loop-old-init
loop-old-init c = replacing_begins c.requires c.new-changes.ensures.items (search rules) (search rules) (search rules)

pub push_replaced-requires : goal.push_replaced-requires
push_replaced-requires c = replacing_one c.loop-old.invariant c.in-Some.ensures.steps.0

pub loop-old-preserved : goal.loop-old-preserved
loop-old-preserved c =
    replacing_more c.loop-old.invariant c.in-Some.ensures.steps.0 c.in-Some.ensures.steps.1.0 c.in-Some.ensures.steps.1.1 refl c.in_ok-push_replaced.ensures

pub returns : goal.returns
returns c =
    elim c.in-None.ensures.steps [
      | inl s ↦ replacing_ends c.loop-old.invariant s.1.0
      | inr s ↦ replacing_stops c.loop-old.invariant s.1.0
    ]
