use Rattle.std.proofs.Common.{ℕ, List, ap, ◌∙◌}
use Rattle.std.specs.List.{list_any}
use Rattle.wm_graph.specs.Parts.{parts_of, as_savepoint}
use Rattle.wm_image.proofs.Saved.{behind_told}
use Rattle.wm_index.specs.Indexed.{listed}
use Rattle.wm_index.specs.Kinds.{kind_at}
use Rattle.wm_image.specs.Shown.{is_saved_behind}
use Rattle.wm_spec.specs.declared.record.stored.Stored.{Stored}
use Rattle.wm_image.proofs.image.Image.has_savepoint_behind.Goals as goal

pub returns : goal.returns
returns c =
    c.any_behind.ensures
    ∙ ap (λ (ids : List ℕ). list_any (is_saved_behind c.args.space c.from.result c.args.log_length) (kind_at as_savepoint (listed c.self.inside.kept.entries) ids)) c.ids_of-ids.ensures
    ∙ behind_told c.self.inside.kept c.self.inside.index c.self.invariant.0 c.args.space c.from.result c.args.log_length
    ∙ ap (λ (ss : List Stored). list_any (is_saved_behind c.args.space c.from.result c.args.log_length) (parts_of ss).savepoints) c.self.view_is
    ∙ ap (λ (place : ℕ). list_any (is_saved_behind c.args.space place c.args.log_length) (parts_of c.args.self.now).savepoints) c.from.ensures
