use Rattle.std.proofs.Common.{◌≡◌, ◌++◌, map, take, drop}
use Rattle.wm_syntax.specs.Views.{srcs_view}
use Rattle.wm_timed.specs.Timed.{timed_src}
use Rattle.wm_timed.proofs.queries.set_sources.Given as goal

abbrev pub invariant-loop-source : goal.invariant-loop-source
invariant-loop-source l = srcs_view (take l.source-index l.sources) ++ map (timed_src l.moment) (srcs_view (drop l.source-index l.sources)) ≡ map (timed_src l.moment) (srcs_view l.initial.sources)
