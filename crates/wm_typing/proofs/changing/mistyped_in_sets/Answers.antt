use Rattle.std.proofs.Common.{refl}
use Rattle.wm_syntax.specs.Views.{set_view, sets_view}
use Rattle.wm_typing.specs.Changing.{mistyped_in_set, mistyped_in_sets}
use Rattle.wm_typing.proofs.Firsts.{found_here}
use Rattle.wm_typing.proofs.changing.mistyped_in_sets.Goals as goal

pub returns-in-Some : goal.returns-in-Some
returns-in-Some c =
    found_here (λ sets. mistyped_in_sets c.args.columns.now (sets_view sets)) (λ set. mistyped_in_set c.args.columns.now (set_view set))
    (λ set rest. mistyped_in_sets c.args.columns.now (sets_view rest)) (λ set rest. refl)
    c.args.sets.now c.loop-set.set-index c.set-item.result _ _ c.loop-set-test.true c.set-item.is c.loop-set.invariant c.in-Some.ensures
