use Rattle.std.proofs.Common.{ℕ, List, map, ap, ◌∙◌}
use Rattle.std.specs.Option.{option_map}
use Rattle.wm_graph.specs.Parts.{parts_of, as_savepoint}
use Rattle.wm_image.proofs.Soonest.{soonest_told}
use Rattle.wm_image.specs.Soonest.{soonest}
use Rattle.wm_index.specs.Indexed.{listed}
use Rattle.wm_index.specs.Kinds.{kind_at}
use Rattle.wm_spec.specs.declared.record.stored.Stored.{Stored}
use Rattle.wm_state.specs.Reading.{first_from}
use Rattle.wm_state.specs.Standing.{saved_fields, saved_in}
use Rattle.wm_image.proofs.image.Image.savepoint_from.Goals as goal

pub returns : goal.returns
returns c =
    ap (option_map saved_fields) (c.soonest.ensures ∙ ap (λ (ids : List ℕ). soonest c.args.date (kind_at as_savepoint (listed c.self.inside.kept.entries) ids)) c.ids_of.ensures)
    ∙ soonest_told c.self.inside.kept c.self.inside.index c.self.invariant.0 c.args.space c.args.date
    ∙ ap (λ (ss : List Stored). first_from c.args.date (map saved_fields (saved_in (parts_of ss) c.args.space))) c.self.view_is
