use Rattle.std.proofs.Common.{List, ap, ◌∙◌}
use Rattle.std.specs.List.{find}
use Rattle.wm_graph.specs.Parts.{parts_of}
use Rattle.wm_graph.specs.Rules.{keep_rules}
use Rattle.wm_image.proofs.Naming.{has_name, names_differ}
use Rattle.wm_index.specs.Indexed.{listed}
use Rattle.wm_spec.specs.declared.record.stored.Stored.{Stored}
use Rattle.wm_state.specs.Standing.{by_number}
use Rattle.wm_image.proofs.image.Image.table.Goals as goal

pub returns : goal.returns
returns c =
    c.find.ensures
    ∙ ap (find (has_name c.args.name.now))
    (c.self.invariant.1 (names_differ (parts_of (listed c.self.inside.kept.entries)) (ap (λ (ss : List Stored). keep_rules (parts_of ss)) c.self.view_is ∙ c.requires)))
    ∙ ap (λ (ss : List Stored). find (has_name c.args.name.now) (by_number (parts_of ss).tables)) c.self.view_is
