use Rattle.std.proofs.Common.{◌≡◌, true, is_none, rules}
use Rattle.wm_ordering.proofs.NameLemmas.{item_named_is}
use Rattle.wm_ordering.proofs.order_by.item_named.Goals as goal

pub returns-then-is_none-2 : goal.returns-then-is_none-2
returns-then-is_none-2 c =
    let no_source : is_none c.args.col.now.source ≡ true = search rules in
    let no_suffix : is_none c.args.col.now.suffix ≡ true = search rules in
    item_named_is c.args.outs.now c.args.col.now c.as_bytes.result.now c.place_of_name.result no_source no_suffix c.as_bytes.ensures c.place_of_name.ensures
