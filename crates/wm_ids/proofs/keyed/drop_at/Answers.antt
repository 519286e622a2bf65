use Rattle.std.proofs.Common.{List, ap, ◌∙◌}
use Rattle.wm_ids.proofs.Since.{Place, placed_less}
use Rattle.wm_ids.specs.Ids.{ids_at_position}
use Rattle.wm_ids.proofs.keyed.drop_at.Goals as goal

pub returns : goal.returns
returns c = λ q.
    ap (λ (es : List Place). ids_at_position es q) c.remove.ensures.keys
    ∙ placed_less q (c.args.space, c.args.position, c.args.id) c.args.places.now.keys
