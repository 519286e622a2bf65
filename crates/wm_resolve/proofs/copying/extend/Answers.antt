use Rattle.std.proofs.Common.{List, [], ◌∷◌, ◌++◌, sym, ap, ◌∙◌}
use Rattle.wm_net.specs.Listed.{Stretch}
use Rattle.wm_net.specs.Nets.{one_stamp}
use Rattle.wm_spec.specs.Lists.{Told}
use Rattle.wm_resolve.proofs.Copies.{extended_longer, extended_more}
use Rattle.wm_resolve.proofs.copying.extend.Goals as goal

pub returns-then-is_before : goal.returns-then-is_before
returns-then-is_before c =
    extended_longer one_stamp c.pop.new.self.items c.args.copies.now.items c.push-then-is_before.new.self.items c.in-Some.last c.args.next c.until.result c.in-Some.ensures.items c.until.ensures
    (sym c.is_before.ensures ∙ c.if-is_before.true) c.in_ok-push-2.ensures.items

pub returns : goal.returns
returns c =
    extended_more one_stamp c.pop.new.self.items c.args.copies.now.items c.push-3.new.self.items c.in-Some.last c.args.next c.in-Some.ensures.items (sym c.is_before.ensures ∙ c.if-is_before.false)
    (c.in_ok-push-4.ensures.items ∙ ap (λ (ss : List (Stretch Told)). ss ++ c.args.next ∷ []) c.in_ok-push-3.ensures.items)
