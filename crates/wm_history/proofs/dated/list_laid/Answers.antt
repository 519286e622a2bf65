use Rattle.std.proofs.Common.{◌≡◌, ◌++◌, All, List, Some, refl, sym, ap, subst, ◌∙◌}
use Rattle.std.specs.BTreeMap.{is_at}
use Rattle.std.specs.List.Sorted.{IsStrictlySortedBy}
use Rattle.std.specs.Map.{keys_of, lookup}
use Rattle.wm_base.specs.Key.{key_order}
use Rattle.wm_graph.specs.Parts.{parts_of}
use Rattle.wm_history.proofs.Listing.{IsListedTo, listed_all, listed_first, listed_next}
use Rattle.wm_history.specs.Laid.{HoldBy, Laid}
use Rattle.wm_period.specs.declared.piece.Piece.{Piece}
use Rattle.wm_version_rows.specs.Listing.{shown_on}
use Rattle.wm_version_rows.specs.Standing.{stretches_on}
use Rattle.wm_history.proofs.dated.list_laid.Goals as goal

pub loop-layers-init : goal.loop-layers-init
loop-layers-init c =
    listed_first (parts_of c.args.image.now) c.args.asked.now.table c.args.asked.now.valid c.args.asked.now.within c.into_iter-layers-iterator.result c.into_iter-layers-iterator.result c.new-rows.result refl
    (subst (λ (es : Laid). All (λ e. lookup (is_at (key_order e.0)) es ≡ Some e.1) es) (sym c.into_iter-layers-iterator.ensures.into_iter_gives.0) c.into_iter-layers-iterator.ensures.into_iter_gives.6) c.new-rows.ensures

pub loop-layers-preserved : goal.loop-layers-preserved
loop-layers-preserved c =
    listed_next (parts_of c.args.image.now) c.args.asked.now.table c.args.asked.now.valid c.args.asked.now.within c.into_iter-layers-iterator.result c.loop-layers.layers-iterator c.next.new.self
    (c.in-Some.field-0-0.now, c.in-Some.layers.now) c.in_ok-pieces.pieces c.loop-layers.rows c.push_rows.new.rows c.in-Some.ensures.steps c.loop-layers.invariant c.list.ensures.in_order c.in_ok-pieces.ensures
    (c.in_ok-push_rows.ensures
    ∙ ap (λ (ps : List Piece). c.loop-layers.rows ++ shown_on (parts_of c.args.image.now) c.args.asked.now.valid c.args.asked.now.within (stretches_on ps)) c.list.ensures.value)

pub returns : goal.returns
returns c = λ f hold ended.
    listed_all (parts_of c.args.image.now) c.args.asked.now.table c.args.asked.now.valid c.args.asked.now.within c.into_iter-layers-iterator.result c.loop-layers.rows
    (subst (λ (es : Laid). IsStrictlySortedBy key_order (keys_of es)) (sym c.into_iter-layers-iterator.ensures.into_iter_gives.0) c.into_iter-layers-iterator.ensures.into_iter_gives.5)
    (subst
    (λ (rest : Laid). IsListedTo (parts_of c.args.image.now) c.args.asked.now.table c.args.asked.now.valid c.args.asked.now.within c.into_iter-layers-iterator.result rest c.loop-layers.rows)
    c.in-None.ensures.steps.0 c.loop-layers.invariant)
    f (subst (λ (es : Laid). HoldBy es c.args.asked.now.table f) (sym c.into_iter-layers-iterator.ensures.into_iter_gives.0) hold) ended
