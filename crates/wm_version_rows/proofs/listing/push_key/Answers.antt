use Rattle.std.proofs.Common.{List, ◌++◌, ap, ◌∙◌}
use Rattle.wm_graph.specs.Parts.{as_piece, parts_of}
use Rattle.wm_ids.specs.Versioned.{ids_under}
use Rattle.wm_index.specs.Kinds.{kind_at}
use Rattle.wm_period.specs.declared.piece.Piece.{Piece}
use Rattle.wm_version_rows.proofs.Gathering.{adds_rows}
use Rattle.wm_version_rows.proofs.Walking.{seen_along}
use Rattle.wm_version_rows.specs.Listing.{shown_on}
use Rattle.wm_image.specs.Shown.{first_held}
use Rattle.wm_version_rows.specs.Standing.{stretches_on}
use Rattle.wm_version_rows.proofs.listing.push_key.Goals as goal

pub returns : goal.returns
returns c = λ key hold.
    adds_rows (parts_of c.args.image.now) c.args.asked.now.version c.args.asked.now.table c.args.asked.now.valid c.args.asked.now.within key c.in_ok-pieces.pieces c.args.rows.now c.push_rows.new.rows
    c.requires.rules c.list.ensures.in_order
    (λ t less.
    c.in_ok-pieces.ensures t less
    ∙ seen_along (parts_of c.args.image.now) c.args.asked.now.version (record { table = c.args.asked.now.table; key = key; time = t })
    (λ v. first_held (kind_at as_piece c.args.image.now (ids_under c.args.versions.now v)) v t) (λ v. hold v t))
    (c.in_ok-push_rows.ensures
    ∙ ap (λ (ps : List Piece). c.args.rows.now ++ shown_on (parts_of c.args.image.now) c.args.asked.now.valid c.args.asked.now.within (stretches_on ps)) c.list.ensures.value)
