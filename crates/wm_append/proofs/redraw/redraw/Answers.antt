use Rattle.std.proofs.Common.{◌+◌, ◌++◌, ℕ, List, length, drop, sym, subst, ◌∙◌}
use Rattle.std.proofs.lemmas.Iterator.Adapters.{YieldsList-from_vec}
use Rattle.std.proofs.lemmas.Iterator.Consumers.{YieldsList-turn, YieldsList-end}
use Rattle.std.proofs.lemmas.List.{length_push, map-id}
use Rattle.wm_spec.specs.declared.record.piece.PieceRecord.{PieceRecord}
use Rattle.wm_append.proofs.DraftLaws.{draft_ended, few_ended}
use Rattle.wm_append.proofs.Following.{follows, others_follow}
use Rattle.wm_append.proofs.Redrawing.{draft_ends}
use Rattle.wm_append.specs.Layers.{view_of}
use Rattle.wm_append.specs.Redraw.{AreFew, CanFollow, IsRedrawn}
use Rattle.wm_append.proofs.redraw.redraw.Goals as goal

pub loop-new-preserved : goal.loop-new-preserved
loop-new-preserved c =
    let items = c.args.news.items in
    let n = length c.loop-new.yielded in
    let at = YieldsList-turn (YieldsList-from_vec {s = c.into_iter-new-iterator.result} items c.into_iter-new-iterator.ensures.into_iter_gives.0 (c.into_iter-new-iterator.ensures.into_iter_gives.1 ∙ c.args.news.ok.0)) c.loop-new.yielded c.loop-new.new-iterator c.loop-new.yielded_by c.next.result c.next.new.self c.in-Some.new
    c.in-Some.is c.next.ensures.steps in
    record {
      draft = c.in_ok-draft.ensures.draft c.loop-new.yielded c.loop-new.invariant.draft;
      few = c.in_ok-draft.ensures.few c.loop-new.yielded c.loop-new.invariant.draft c.loop-new.invariant.few;
      rest = subst (λ (k : ℕ). CanFollow c.args.version c.in_ok-draft.draft.hand.items (drop k items)) (sym (length_push c.loop-new.yielded c.in-Some.new))
          (others_follow c.args.version c.loop-new.draft.hand.items c.in_ok-draft.draft.hand.items (drop (n + 1) items) c.in-Some.new c.in_ok-draft.ensures.hand
          (follows c.args.version c.loop-new.draft.hand.items items n c.in-Some.new at c.loop-new.invariant.rest));
    }

pub returns-clause-redrawn : goal.returns-clause-redrawn
returns-clause-redrawn c =
    let items = c.args.news.items in
    let all = YieldsList-end (YieldsList-from_vec {s = c.into_iter-new-iterator.result} items c.into_iter-new-iterator.ensures.into_iter_gives.0 (c.into_iter-new-iterator.ensures.into_iter_gives.1 ∙ c.args.news.ok.0)) c.loop-new.yielded c.loop-new.new-iterator c.loop-new.yielded_by c.next.result c.next.new.self c.in-None.is
    c.next.ensures.steps in
    let view = view_of c.args.layer in
    let ss = c.args.image.now in
    let d = c.loop-new.draft in
    draft_ended view ss items d c.finish.result
    (subst (λ (xs : List PieceRecord). IsRedrawn view ss xs d.dropped.items (d.finished.items ++ d.hand.items)) (sym (map-id c.loop-new.yielded) ∙ all.0)
    (draft_ends view ss c.args.version c.loop-new.yielded d.dropped.items d.left.items d.finished.items d.hand.items c.requires.apart c.loop-new.invariant.draft)) c.finish.ensures.dropped
    c.finish.ensures.drawn

pub returns-clause-few : goal.returns-clause-few
returns-clause-few c =
    let items = c.args.news.items in
    let all = YieldsList-end (YieldsList-from_vec {s = c.into_iter-new-iterator.result} items c.into_iter-new-iterator.ensures.into_iter_gives.0 (c.into_iter-new-iterator.ensures.into_iter_gives.1 ∙ c.args.news.ok.0)) c.loop-new.yielded c.loop-new.new-iterator c.loop-new.yielded_by c.next.result c.next.new.self c.in-None.is
    c.next.ensures.steps in
    let d = c.loop-new.draft in
    few_ended items d c.finish.result
    (subst (λ (xs : List PieceRecord). AreFew xs d.dropped.items (d.finished.items ++ d.hand.items)) (sym (map-id c.loop-new.yielded) ∙ all.0) c.loop-new.invariant.few) c.finish.ensures.dropped c.finish.ensures.drawn
