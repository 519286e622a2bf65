use Rattle.std.proofs.Common.{List, map, ap, sym, ◌∙◌}
use Rattle.wm_syntax.specs.Trees.{Out}
use Rattle.wm_syntax.specs.Views.{outs_view, projection_view}
use Rattle.wm_syntax.specs.declared.query.Out.{Out as OutNode}
use Rattle.wm_syntax.specs.declared.query.Projection.{Projection as ProjectionNode}
use Rattle.wm_select.specs.Query.{all_there, item_value}
use Rattle.wm_select.proofs.ItemLemmas.{projected_outs}
use Rattle.wm_select.proofs.items.projected.Goals as goal

pub returns-in_ok-values-in-Outs-clause-ok : goal.returns-in_ok-values-in-Outs-clause-ok
returns-in_ok-values-in-Outs-clause-ok c =
    projected_outs (projection_view c.args.projection.now) (outs_view c.in-Outs.outs.items) c.args.columns.now c.args.group.now c.from_vec.result c.in_ok-values-in-Outs.values.items
    (ap (λ (p : ProjectionNode). projection_view p) c.in-Outs.is)
    (ap (λ (os : List OutNode). all_there (map (λ (o : Out). item_value o.item c.args.columns.now c.args.group.now) (outs_view os))) (sym c.as_slice.ensures.value) ∙ c.in_ok-values-in-Outs.ensures.ok)
    c.from_vec.ensures
