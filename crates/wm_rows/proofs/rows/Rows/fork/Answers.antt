use Rattle.std.proofs.Common.{◌≡◌, ℕ, List, ◌∷◌, Option, Some, None, refl, ap, ◌∙◌}
use Rattle.std.specs.Option.{option_or, IsSomeAnd}
use Rattle.wm_period.specs.Pieces.{Held}
use Rattle.wm_rows.specs.Rows.{nearest}
use Rattle.wm_tree.proofs.Paths.{path_in-there}
use Rattle.wm_tree.specs.Versions.{version_in, path_in, IsTree}
use Rattle.wm_tree.specs.declared.version.Version.{Version}
use Rattle.wm_rows.proofs.rows.Rows.fork.Goals as goal

-- the path of a version that stands under another
under : (tree : List Version) (to version : ℕ) (o : Option Version) → IsTree tree → version_in tree to ≡ o → IsSomeAnd o (λ x. x.parent ≡ version) → path_in tree to ≡ to ∷ path_in tree version
under tree to version None is there parent = absurd parent
under tree to version (Some x) is there parent = path_in-there tree to x is there ∙ ap (λ v. to ∷ path_in tree v) parent

pub returns-clause-sees : goal.returns-clause-sees
returns-clause-sees c = λ tree is there row t.
    ap (λ (path : List ℕ). nearest c.args.self.now path row t) (under tree c.args.to c.args.version (version_in tree c.args.to) is refl there)
    ∙ ap (λ (o : Option Held). option_or o (nearest c.args.self.now (path_in tree c.args.version) row t)) (c.requires row t)
