use Rattle.std.proofs.Common.{◌≡◌, drop}
use Rattle.wm_syntax.specs.Views.{srcs_view}
use Rattle.wm_model.specs.Planning.{tables_in}
use Rattle.wm_model.specs.Step.{table_off, tables_of}
use Rattle.wm_views.proofs.sources.table_off.Given as goal

abbrev pub invariant-loop-source : goal.invariant-loop-source
invariant-loop-source l = table_off (tables_of (tables_in l.image) (srcs_view l.sources)) ≡ table_off (tables_of (tables_in l.image) (srcs_view (drop l.source-index l.sources)))
