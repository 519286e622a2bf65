use Rattle.std.proofs.Common.{◌≡◌, drop}
use Rattle.std.specs.List.{list_any}
use Rattle.std.specs.Str.{bytes_eq}
use Rattle.wm_syntax.specs.Trees.{Set}
use Rattle.wm_syntax.specs.Views.{sets_view}
use Rattle.wm_spec.specs.Operands.{wm_valid}
use Rattle.wm_dml.proofs.updated.is_valid_set.Given as goal

abbrev pub invariant-loop-set : goal.invariant-loop-set
invariant-loop-set l = list_any (λ (s : Set). bytes_eq s.name wm_valid) (sets_view l.sets) ≡ list_any (λ (s : Set). bytes_eq s.name wm_valid) (sets_view (drop l.set-index l.sets))
