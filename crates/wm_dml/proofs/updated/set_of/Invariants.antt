use Rattle.std.proofs.Common.{◌≡◌, drop}
use Rattle.std.specs.List.{find}
use Rattle.std.specs.Str.{bytes_eq}
use Rattle.wm_syntax.specs.Trees.{Set}
use Rattle.wm_syntax.specs.Views.{sets_view}
use Rattle.wm_dml.proofs.updated.set_of.Given as goal

abbrev pub invariant-loop-set : goal.invariant-loop-set
invariant-loop-set l = find (λ (s : Set). bytes_eq s.name l.name) (sets_view l.sets) ≡ find (λ (s : Set). bytes_eq s.name l.name) (sets_view (drop l.set-index l.sets))
