use Rattle.std.proofs.Common.{◌≡◌, drop}
use Rattle.wm_syntax.specs.Views.{srcs_view}
use Rattle.wm_chosen.specs.Keyed.{asked_on}
use Rattle.wm_chosen.proofs.keyed.asked_on.Given as goal

abbrev pub invariant-loop-source : goal.invariant-loop-source
invariant-loop-source l = asked_on l.columns l.place (srcs_view l.sources) ≡ asked_on l.columns l.place (srcs_view (drop l.source-index l.sources))
