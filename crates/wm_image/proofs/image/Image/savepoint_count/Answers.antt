use Rattle.std.proofs.Common.{ℕ, List, ◌==◌, length, ap, ◌∙◌}
use Rattle.std.specs.List.{count_by}
use Rattle.wm_graph.specs.Parts.{parts_of}
use Rattle.wm_image.proofs.Saved.{count_told}
use Rattle.wm_spec.specs.declared.record.savepoint.Savepoint.{Savepoint}
use Rattle.wm_spec.specs.declared.record.stored.Stored.{Stored}
use Rattle.wm_image.proofs.image.Image.savepoint_count.Goals as goal

pub returns : goal.returns
returns c =
    ap (λ (ids : List ℕ). length ids) c.ids_of.ensures
    ∙ count_told c.self.inside.kept c.self.inside.index c.self.invariant.0 c.args.space
    ∙ ap (λ (ss : List Stored). count_by (λ (x : Savepoint). x.space == c.args.space) (parts_of ss).savepoints) c.self.view_is
