use Rattle.std.proofs.Common.{List, ap, ◌∙◌}
use Rattle.wm_index.specs.Sought.{PieceAt, ids_with, is_sought}
use Rattle.wm_spec.specs.declared.record.stored.Stored.{Stored}
use Rattle.wm_image.proofs.image.Image.pieces_at.Goals as goal

pub ids_of_version-requires : goal.ids_of_version-requires
ids_of_version-requires c = (c.self.invariant.0.nested c.args.table c.args.key.now).rises

pub returns : goal.returns
returns c =
    c.ids_of_version.ensures
    ∙ c.self.invariant.0.told (PieceAt c.args.table c.args.key.now c.args.version)
    ∙ ap (λ (ss : List Stored). ids_with (is_sought (PieceAt c.args.table c.args.key.now c.args.version)) ss) c.self.view_is
