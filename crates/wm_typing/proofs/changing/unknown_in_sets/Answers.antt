use Rattle.std.proofs.Common.{[], ◌∷◌, ◌++◌, take, refl}
use Rattle.wm_syntax.specs.Views.{set_view, sets_view}
use Rattle.wm_typing.specs.Changing.{unknown_in_set, unknown_in_sets}
use Rattle.wm_typing.proofs.Firsts.{found_here}
use Rattle.wm_typing.proofs.changing.unknown_in_sets.Goals as goal

pub returns-in-Some : goal.returns-in-Some
returns-in-Some c =
    found_here (λ sets. unknown_in_sets c.args.columns.now (sets_view (take c.loop-index.index c.args.sets.now)) (sets_view sets))
    (λ set. unknown_in_set c.args.columns.now (sets_view (take c.loop-index.index c.args.sets.now)) (set_view set))
    (λ set rest. unknown_in_sets c.args.columns.now (sets_view (take c.loop-index.index c.args.sets.now) ++ set_view set ∷ []) (sets_view rest)) (λ set rest. refl)
    c.args.sets.now c.loop-index.index c.index-sets-index.result _ _ c.loop-index-test.true c.index-sets-index.is c.loop-index.invariant c.in-Some.ensures
