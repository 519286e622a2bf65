use Rattle.std.proofs.Common.{◌∙◌, refl}
use Rattle.std.specs.BTreeMap as tree
use Rattle.wm_decided.proofs.Laid.{laid_at}
use Rattle.wm_decided.specs.Counted.{Place, place_order}
use Rattle.wm_decided.proofs.netted.lay.Goals as goal

pub returns-clause-cells : goal.returns-clause-cells
returns-clause-cells c = λ x.
    let k : Place = (c.table.result, c.in_ok-copy.field-0) in
    laid_at c.args.decision.now c.args.place (tree.get place_order c.args.by_key.now) (tree.get place_order c.remove.new.self) (tree.get place_order c.insert.new.self) c.put.new.self x
    k (rw (c.table.ensures, c.in_ok-copy.ensures, c.key.ensures) refl) c.remove.ensures.updates.0 c.in_ok-insert.ensures.updates.0
    (λ t. c.in_ok-put.ensures.cells t ∙ rw (c.period.ensures.from, c.period.ensures.till, c.unwrap_or-pieces.ensures, c.new.ensures, c.remove.ensures.value) refl)
