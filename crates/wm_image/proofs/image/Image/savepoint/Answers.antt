use Rattle.std.proofs.Common.{ℕ, List, ◌==◌, ap, ◌∙◌}
use Rattle.std.specs.List.{find}
use Rattle.wm_graph.specs.Parts.{parts_of, as_savepoint}
use Rattle.wm_image.proofs.Saved.{saved_told}
use Rattle.wm_index.specs.Indexed.{listed}
use Rattle.wm_index.specs.Kinds.{kind_at}
use Rattle.wm_spec.specs.declared.record.savepoint.Savepoint.{Savepoint}
use Rattle.wm_spec.specs.declared.record.stored.Stored.{Stored}
use Rattle.wm_state.specs.Standing.{saved_as}
use Rattle.wm_image.proofs.image.Image.savepoint.Goals as goal

pub returns : goal.returns
returns c =
    c.savepoint_in.ensures
    ∙ ap (λ (ids : List ℕ). find (λ (x : Savepoint). x.space == c.args.space) (kind_at as_savepoint (listed c.self.inside.kept.entries) ids)) c.ids_of.ensures
    ∙ saved_told c.self.inside.kept c.self.inside.index c.self.invariant.0 c.args.space c.args.making
    ∙ ap (λ (ss : List Stored). saved_as (parts_of ss) c.args.space c.args.making) c.self.view_is
