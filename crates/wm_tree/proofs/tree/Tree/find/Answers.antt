use Rattle.std.proofs.Common.{◌≡◌, ap}
use Rattle.wm_tree.proofs.Paths.{path_told, no_path_told}
use Rattle.wm_tree.specs.Versions.{Grown, newest_first}
use Rattle.wm_tree.proofs.tree.Tree.find.Goals as goal

pub returns-clause-path : goal.returns-clause-path
returns-clause-path c =
    let now : newest_first c.self.inside.versions.items ≡ c.args.self.now.versions = ap (λ (g : Grown). g.versions) c.self.view_is in
    rw (← now) (path_told (newest_first c.self.inside.versions.items) c.args.number c.find.result c.self.invariant.0 (rw c.as_slice.ensures.value at c.find.ensures))

pub returns-clause-no_path : goal.returns-clause-no_path
returns-clause-no_path c =
    let now : newest_first c.self.inside.versions.items ≡ c.args.self.now.versions = ap (λ (g : Grown). g.versions) c.self.view_is in
    rw (← now) (no_path_told (newest_first c.self.inside.versions.items) c.args.number c.find.result (rw c.as_slice.ensures.value at c.find.ensures))

pub returns-clause-tree : goal.returns-clause-tree
returns-clause-tree c =
    let now : newest_first c.self.inside.versions.items ≡ c.args.self.now.versions = ap (λ (g : Grown). g.versions) c.self.view_is in
    rw (← now) c.self.invariant.0
