use Rattle.std.proofs.Common.{List, sym, ap, subst, ◌∙◌}
use Rattle.wm_syntax.specs.declared.query.Src.{Src as SrcNode}
use Rattle.wm_syntax.specs.Views.{query_view, srcs_view}
use Rattle.wm_graph.specs.Parts.{parts_of}
use Rattle.wm_model.specs.Planning.{tables_in}
use Rattle.wm_model.specs.Step.{columns_in, lost_source}
use Rattle.wm_joining.specs.Kept.{is_kept}
use Rattle.wm_views.proofs.Narrowing.{answer_listed, columns_listed_for, rows_listed_for}
use Rattle.wm_views.specs.Looking.{look_view}
use Rattle.wm_views.specs.Narrowed.{AreListedFor}
use Rattle.wm_views.proofs.select.answer_over.Goals as goal

pub sources_in-requires-clause-there : goal.sources_in-requires-clause-there
sources_in-requires-clause-there c = ap (λ (ss : List SrcNode). lost_source (tables_in c.args.image.now) (srcs_view ss)) c.as_slice-sources.ensures.value ∙ c.requires.there

pub sources_in-requires-clause-columns : goal.sources_in-requires-clause-columns
sources_in-requires-clause-columns c = c.as_slice.ensures ∙ c.requires.columns ∙ ap (λ (ss : List SrcNode). columns_in (tables_in c.args.image.now) (srcs_view ss)) (sym c.as_slice-sources.ensures.value)

pub answer-requires-clause-columns : goal.answer-requires-clause-columns
answer-requires-clause-columns c =
    c.requires.columns ∙ ap (λ (ss : List SrcNode). columns_in (tables_in c.args.image.now) (srcs_view ss)) (sym c.as_slice-sources.ensures.value)
    ∙ columns_listed_for c.args.image.now (look_view (parts_of c.args.image.now) c.args.look.now) (is_kept (query_view c.args.query.now) c.as_slice.result.now) (srcs_view c.as_slice-sources.result.now) c.in_ok-listings.listings c.requires.rules c.in_ok-listings.ensures

pub answer-requires-clause-fitting : goal.answer-requires-clause-fitting
answer-requires-clause-fitting c =
    rows_listed_for c.args.image.now (look_view (parts_of c.args.image.now) c.args.look.now) (is_kept (query_view c.args.query.now) c.as_slice.result.now) 0 (srcs_view c.as_slice-sources.result.now) c.in_ok-listings.listings c.requires.rules c.in_ok-listings.ensures

pub returns : goal.returns
returns c = answer_listed c.answer.result c.args.image.now (look_view (parts_of c.args.image.now) c.args.look.now) (query_view c.args.query.now) c.as_slice.result.now c.in_ok-listings.listings c.requires.rules (c.as_slice.ensures ∙ c.requires.columns)
    (subst (λ (ss : List SrcNode). AreListedFor (parts_of c.args.image.now) (look_view (parts_of c.args.image.now) c.args.look.now) (tables_in c.args.image.now) (is_kept (query_view c.args.query.now) c.as_slice.result.now) 0 (srcs_view ss) c.in_ok-listings.listings) c.as_slice-sources.ensures.value
    c.in_ok-listings.ensures)
    c.answer.ensures
