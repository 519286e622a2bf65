use Rattle.std.proofs.Common.{◌≡◌, ◌≢◌, length, refl, ◌∙◌, arith}
use Rattle.wm_rules.proofs.Keeping.{one_told, not_one_told}
use Rattle.wm_cells.specs.Lookups.{collected}
use Rattle.wm_rules.proofs.keeps.keep_rules.Goals as goal

pub returns-then-len-ne1 : goal.returns-then-len-ne1
returns-then-len-ne1 c =
    let other : length c.args.kinds.now.counters.items ≢ 1 = omega (arith, c.len.ensures) in
    not_one_told (collected c.args.kinds.now) c.args.kinds.now.counters.items refl other

pub returns : goal.returns
returns c =
    let one : length c.args.kinds.now.counters.items ≡ 1 = omega (arith, c.len.ensures) in
    c.in_ok-kept.ensures ∙ one_told (collected c.args.kinds.now) c.args.kinds.now.counters.items c.index.result.now refl one c.index.ensures
