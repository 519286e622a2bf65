use Rattle.std.proofs.Common.{List, Option, ℕ, is_some, sym, ap, ◌∙◌}
use Rattle.std.specs.Option.{option_and_then}
use Rattle.wm_graph.specs.Parts.{parts_of, as_space, space_of}
use Rattle.wm_ids.specs.Ids.{head_of}
use Rattle.wm_index.proofs.Finding.{space_id}
use Rattle.wm_index.specs.Indexed.{listed}
use Rattle.wm_spec.specs.Records.{record_at}
use Rattle.wm_spec.specs.declared.record.stored.Stored.{Stored}
use Rattle.wm_image.proofs.image.Image.id_of_space.Goals as goal

pub returns-clause-there : goal.returns-clause-there
returns-clause-there c =
    ap (λ (ss : List Stored). option_and_then as_space (option_and_then (record_at ss) c.first_id.result)) (sym c.self.view_is)
    ∙ ap (λ (o : Option ℕ). option_and_then as_space (option_and_then (record_at (listed c.self.inside.kept.entries)) o)) (c.first_id.ensures ∙ ap head_of c.ids_of.ensures)
    ∙ (space_id c.self.inside.kept c.self.inside.index c.self.invariant.0 c.args.number).0
    ∙ ap (λ (ss : List Stored). space_of (parts_of ss).spaces c.args.number) c.self.view_is

pub returns-clause-found : goal.returns-clause-found
returns-clause-found c =
    ap is_some (c.first_id.ensures ∙ ap head_of c.ids_of.ensures)
    ∙ (space_id c.self.inside.kept c.self.inside.index c.self.invariant.0 c.args.number).1
    ∙ ap (λ (ss : List Stored). is_some (space_of (parts_of ss).spaces c.args.number)) c.self.view_is
