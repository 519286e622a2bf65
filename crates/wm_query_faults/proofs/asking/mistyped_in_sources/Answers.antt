use Rattle.std.proofs.Common.{refl}
use Rattle.wm_syntax.specs.Views.{filter_view, srcs_view}
use Rattle.wm_syntax.specs.declared.query.Src.{Src}
use Rattle.wm_query_faults.specs.Asking.{mistyped_in_sources}
use Rattle.wm_typing.specs.Types.{mistyped_in_filter}
use Rattle.wm_typing.proofs.Firsts.{found_here}
use Rattle.wm_query_faults.proofs.asking.mistyped_in_sources.Goals as goal

pub returns-in-Some : goal.returns-in-Some
returns-in-Some c =
    found_here (λ sources. mistyped_in_sources c.args.columns.now (srcs_view sources)) (λ (source : Src). mistyped_in_filter c.args.columns.now (filter_view source.on))
    (λ source rest. mistyped_in_sources c.args.columns.now (srcs_view rest)) (λ source rest. refl)
    c.args.sources.now c.loop-source.source-index c.source-item.result _ _ c.loop-source-test.true c.source-item.is c.loop-source.invariant c.in-Some.ensures
