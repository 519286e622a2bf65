use Rattle.std.proofs.Common.{◌∙◌}
use Rattle.wm_graph.specs.Parts.{as_piece, parts_of}
use Rattle.wm_version_rows.proofs.Walking.{seen_along}
use Rattle.wm_image.specs.Shown.{first_held}
use Rattle.wm_ids.specs.Versioned.{ids_under}
use Rattle.wm_index.specs.Kinds.{kind_at}
use Rattle.wm_version_rows.proofs.laying.shown.Goals as goal

pub returns : goal.returns
returns c = λ t less.
    c.in_ok-pieces.ensures t less
    ∙ seen_along (parts_of c.args.image.now) c.args.version (record { table = c.args.table; key = c.args.key.now; time = t })
    (λ v. first_held (kind_at as_piece c.args.image.now (ids_under c.versions_of-versions.result.now v)) v t) (λ v. c.versions_of-versions.ensures.held v t)
