use Rattle.std.proofs.Common.{◌≡◌, ap, sym, ◌∙◌}
use Rattle.std.specs.List.{filter}
use Rattle.wm_tree.proofs.Dropping.{IsTree-filter, latest_cleared, path_in-filter_all}
use Rattle.wm_tree.proofs.Placing.{newest_first-filter}
use Rattle.wm_tree.specs.Versions.{Grown, is_outside, newest_first, latest_in, number_at}
use Rattle.wm_tree.proofs.tree.Tree.drop_space.Goals as goal

now_is : (c : goal.After-clear_number-2) → newest_first c.self.inside.versions.items ≡ c.args.self.now.versions
now_is c = ap (λ (g : Grown). g.versions) c.self.view_is

left : (c : goal.After-clear_number-2) → newest_first c.drop_versions.new.versions.items ≡ filter (is_outside c.args.space) (newest_first c.self.inside.versions.items)
left c = ap newest_first c.drop_versions.ensures ∙ newest_first-filter c.args.space c.self.inside.versions.items

pub invariant_of-self : goal.invariant_of-self
invariant_of-self c = (
  rw (left c) (IsTree-filter c.args.space (newest_first c.self.inside.versions.items) c.self.invariant.0 (rw (now_is c) c.requires)),
  λ s.
      c.clear_number.ensures s
      ∙ latest_cleared c.args.space (newest_first c.self.inside.versions.items) (λ m. number_at c.self.inside.latest.entries m) s c.self.invariant.1
      ∙ ap (λ l. latest_in l s) (sym (left c)),
)

pub returns-clause-versions : goal.returns-clause-versions
returns-clause-versions c = left c ∙ ap (filter (is_outside c.args.space)) (now_is c)

pub returns-clause-paths : goal.returns-clause-paths
returns-clause-paths c = λ v outside.
    rw (left c, ← now_is c)
    (path_in-filter_all c.args.space (newest_first c.self.inside.versions.items) v c.self.invariant.0 (rw (now_is c) c.requires) (rw (now_is c) outside))
