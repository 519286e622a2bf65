use Rattle.std.proofs.Common.{ℕ, List, Option, ap, ◌∙◌}
use Rattle.std.specs.Option.{option_or}
use Rattle.wm_period.specs.Pieces.{Held}
use Rattle.wm_rows.specs.Rows.{nearest}
use Rattle.wm_tree.specs.Versions.{path_in}
use Rattle.wm_rows.proofs.laws.a_version_that_stores_nothing_sees_its_parent.Goals as goal

pub returns : goal.returns
returns c = λ tree grown layers version parent row t path nothing.
    ap (λ (l : List ℕ). nearest layers l row t) path
    ∙ ap (λ (o : Option Held). option_or o (nearest layers (path_in tree parent) row t)) nothing
