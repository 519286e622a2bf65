use Rattle.std.proofs.Common.{◌≡◌, ◌+◌, ◌-◌, ◌^◌, min, slice_get, Some, None, get_or, ap, ◌∙◌, arith}
use Rattle.std.proofs.lemmas.Grind.{common_steps}
use Rattle.std.proofs.lemmas.Option.{gets}
use Rattle.wm_cells.proofs.Weighing.{light_begins, light_gone, light_more, light_ends}
use Rattle.wm_graph.specs.Rules.{values_at}
use Rattle.wm_cells.proofs.rows.are_light.Goals as goal

pub loop-place-init : goal.loop-place-init
loop-place-init c = light_begins (values_at c.args.places.now c.args.values.now)

pub returns-in_default : goal.returns-in_default
returns-in_default c =
    let none : slice_get c.args.values.now (get_or c.args.places.now c.loop-place.place-index 0) ≡ None = grind (arith, common_steps, gets, c.in_default.ensures.lookup.3) in
    light_gone c.args.values.now c.args.places.now c.loop-place.place-index c.loop-place.total c.loop-place-test.true c.loop-place.invariant none

pub loop-place-preserved : goal.loop-place-preserved
loop-place-preserved c =
    let held : slice_get c.args.values.now (get_or c.args.places.now c.loop-place.place-index 0) ≡ Some c.in-Some.value.now = grind (arith, common_steps, gets, c.in-Some.ensures.lookup.1) in
    light_more c.args.values.now c.args.places.now c.loop-place.place-index c.loop-place.total c.saturating_add-total.result c.in-Some.value.now c.loop-place-test.true c.loop-place.invariant held
    (c.saturating_add-total.ensures ∙ ap (λ w. min (c.loop-place.total + w) (2 ^ 64 - 1)) c.weight.ensures)

pub returns : goal.returns
returns c = light_ends c.args.values.now c.args.places.now c.loop-place.place-index c.loop-place.total c.loop-place-test.false c.loop-place.invariant
