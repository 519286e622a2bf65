use Rattle.std.proofs.Common.{◌≡◌, true, ℕ, List, ap, ◌∙◌}
use Rattle.std.specs.List.{find}
use Rattle.wm_graph.specs.Parts.{parts_of, as_savepoint}
use Rattle.wm_graph.specs.Rules.{keep_rules}
use Rattle.wm_image.proofs.Saved.{has_name, named_told}
use Rattle.wm_index.specs.Indexed.{listed}
use Rattle.wm_index.specs.Kinds.{kind_at}
use Rattle.wm_spec.specs.declared.record.stored.Stored.{Stored}
use Rattle.wm_state.specs.Standing.{saved_in}
use Rattle.wm_image.proofs.image.Image.savepoint_named.Goals as goal

pub returns : goal.returns
returns c =
    let rules : keep_rules (parts_of (listed c.self.inside.kept.entries)) ≡ true = ap (λ (ss : List Stored). keep_rules (parts_of ss)) c.self.view_is ∙ c.requires in
    c.savepoint_of_name.ensures
    ∙ ap (λ (ids : List ℕ). find (has_name c.args.name.now) (kind_at as_savepoint (listed c.self.inside.kept.entries) ids)) c.ids_of.ensures
    ∙ named_told c.self.inside.kept c.self.inside.index c.self.invariant.0 rules c.args.space c.args.name.now
    ∙ ap (λ (ss : List Stored). find (has_name c.args.name.now) (saved_in (parts_of ss) c.args.space)) c.self.view_is
