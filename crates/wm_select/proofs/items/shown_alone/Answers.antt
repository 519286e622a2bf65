use Rattle.std.proofs.Common.{◌≡◌, [], ◌∷◌, List, Some, map, sym, ap, ◌∙◌}
use Rattle.wm_syntax.specs.Views.{projection_view}
use Rattle.wm_base.specs.declared.row.Row.{Row}
use Rattle.wm_ordering.specs.declared.shown.Shown.{Shown}
use Rattle.wm_ordering.specs.Keys.{row_of}
use Rattle.wm_select.specs.Query.{all_there, projected}
use Rattle.wm_select.proofs.ItemLemmas.{alone_shown}
use Rattle.wm_select.proofs.items.shown_alone.Goals as goal

pub returns-in_ok-shown-in-Ok-clause-ok : goal.returns-in_ok-shown-in-Ok-clause-ok
returns-in_ok-shown-in-Ok-clause-ok c =
    let projection = projection_view c.args.projection.now in
    let columns = c.args.columns.now in
    let tuples : List Row = c.args.tuples.items in
    let there : all_there (map (λ (t : Row). projected projection columns (t ∷ [])) tuples) ≡ Some (map row_of c.in-Ok.values.items) =
    ap (λ (ts : List Row). all_there (map (λ (t : Row). projected projection columns (t ∷ [])) ts)) (sym c.as_slice.ensures.value) ∙ c.in-Ok.ensures.ok in
    alone_shown projection columns tuples c.in-Ok.values.items there ∙ ap (λ (ss : List Shown). Some ss) (sym c.in_ok-shown-in-Ok.ensures.ok)
