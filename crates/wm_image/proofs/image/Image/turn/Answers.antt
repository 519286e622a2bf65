use Rattle.std.proofs.Common.{List, ap, ◌∙◌}
use Rattle.std.specs.Option.{option_and_then}
use Rattle.wm_graph.specs.Parts.{parts_of, as_turn}
use Rattle.wm_image.proofs.Turned.{turn_found}
use Rattle.wm_index.specs.Indexed.{listed}
use Rattle.wm_index.specs.Sought.{first_of}
use Rattle.wm_spec.specs.declared.record.stored.Stored.{Stored}
use Rattle.wm_state.specs.Standing.{turn_at}
use Rattle.wm_image.proofs.image.Image.turn.Goals as goal

pub returns : goal.returns
returns c =
    c.turn_of.ensures
    ∙ ap (option_and_then as_turn) (c.first.ensures ∙ ap (first_of (listed c.self.inside.kept.entries)) c.ids_of.ensures)
    ∙ turn_found c.self.inside.kept c.self.inside.index c.self.invariant.0 c.args.space c.args.number
    ∙ ap (λ (ss : List Stored). turn_at (parts_of ss).turns c.args.space c.args.number) c.self.view_is
