use Rattle.std.proofs.Common.{ℕ, List, ap, ◌∙◌}
use Rattle.wm_graph.specs.Parts.{parts_of, as_table}
use Rattle.wm_image.proofs.Tabled.{next_told}
use Rattle.wm_index.specs.Indexed.{listed}
use Rattle.wm_index.specs.Kinds.{kind_at}
use Rattle.wm_spec.specs.declared.record.stored.Stored.{Stored}
use Rattle.wm_state.specs.Standing.{by_number}
use Rattle.wm_state.specs.State.{next_table}
use Rattle.wm_image.proofs.image.Image.next_table.Goals as goal

pub returns : goal.returns
returns c =
    c.after_last.ensures
    ∙ ap (λ (ids : List ℕ). next_table (kind_at as_table (listed c.self.inside.kept.entries) ids)) c.as_slice.ensures.value
    ∙ next_told c.self.inside.kept c.self.inside.index c.self.invariant.0
    ∙ ap (λ (ss : List Stored). next_table (by_number (parts_of ss).tables)) c.self.view_is
