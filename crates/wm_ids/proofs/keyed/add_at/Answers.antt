use Rattle.std.proofs.Common.{List, ap, subst, ◌∙◌}
use Rattle.std.specs.List.Sorted.{IsStrictlySortedBy}
use Rattle.wm_ids.proofs.Since.{Place, placed_more}
use Rattle.wm_ids.specs.Ids.{ids_at_position, triple_order}
use Rattle.wm_ids.proofs.keyed.add_at.Goals as goal

pub returns : goal.returns
returns c = λ q.
    ap (λ (es : List Place). ids_at_position es q) c.in_ok-insert.ensures.keys
    ∙ placed_more q (c.args.space, c.args.position, c.args.id) c.args.places.now.keys
    (subst (IsStrictlySortedBy triple_order) c.in_ok-insert.ensures.keys c.in_ok-insert.ensures.ordered)
