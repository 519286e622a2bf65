use Rattle.std.proofs.Common.{◌≡◌, drop}
use Rattle.std.specs.List.{list_any}
use Rattle.std.specs.Str.{bytes_eq}
use Rattle.wm_syntax.specs.Trees.{Set}
use Rattle.wm_syntax.specs.Views.{sets_view}
use Rattle.wm_typing.proofs.changing.is_set.Given as goal

abbrev pub invariant-loop-set : goal.invariant-loop-set
invariant-loop-set l = list_any (λ (s : Set). bytes_eq s.name l.name) (sets_view (drop l.set-index l.before)) ≡ list_any (λ (s : Set). bytes_eq s.name l.name) (sets_view l.before)
