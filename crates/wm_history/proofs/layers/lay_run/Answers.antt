use Rattle.std.proofs.Common.{cond, ◌++◌, ◌∷◌, [], ap, ◌∙◌, arith}
use Rattle.wm_history.proofs.Halving.{last_behind}
use Rattle.wm_history.proofs.layers.lay_run.Goals as goal

pub loop-place-preserved : goal.loop-place-preserved
loop-place-preserved c = record {
  held = λ t.
      last_behind c.args.written.now c.loop-place.place c.index-written-place.result c.loop-place.run c.push_behind.new.self t c.loop-place-test.true c.index-written-place.is (c.in_ok-push_behind.ensures.behind.0 c.if-not-branch.false)
      (c.in_ok-push_behind.ensures.exact ∙ ap (λ b. cond b (c.loop-place.run ++ c.index-written-place.result ∷ []) c.loop-place.run) c.if-not-branch.false) (c.loop-place.invariant.held t);
  first = λ none. absurd (omega arith);
}
