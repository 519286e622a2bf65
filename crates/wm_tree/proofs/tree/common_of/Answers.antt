use Rattle.std.proofs.Common.{◌<◌, ap, sym, ◌∙◌, arith}
use Rattle.wm_tree.proofs.Shared.{shared_of-left, shared_of-right, shared_of-same, shared_of-none, step_less}
use Rattle.wm_tree.specs.Versions.{newest_first, path_in, shared_of}
use Rattle.wm_tree.proofs.tree.common_of.Goals as goal

pub loop-v-smaller-then-v-w : goal.loop-v-smaller-then-v-w
loop-v-smaller-then-v-w c =
    let less : c.parent_of-v.result < c.loop-v.v = step_less _ _ _ _ c.requires c.if-v-w.true c.parent_of-v.ensures in
    omega arith

pub loop-v-preserved-then-v-w : goal.loop-v-preserved-then-v-w
loop-v-preserved-then-v-w c = shared_of-left _ _ _ _ c.requires c.if-v-w.true c.parent_of-v.ensures ∙ c.loop-v.invariant

pub loop-v-smaller : goal.loop-v-smaller
loop-v-smaller c =
    let order : c.loop-v.v < c.loop-v.w = omega arith in
    let less : c.parent_of-w.result < c.loop-v.w = step_less _ _ _ _ c.requires order c.parent_of-w.ensures in
    omega arith

pub loop-v-preserved : goal.loop-v-preserved
loop-v-preserved c =
    let order : c.loop-v.v < c.loop-v.w = omega arith in
    shared_of-right _ _ _ _ c.requires order c.parent_of-w.ensures ∙ c.loop-v.invariant

pub returns-in-Some : goal.returns-in-Some
returns-in-Some c =
    sym (shared_of-same (newest_first c.args.versions.now) c.loop-v.v _ c.requires (sym c.find.ensures ∙ c.in-Some.is))
    ∙ ap (λ w. shared_of (path_in (newest_first c.args.versions.now) c.loop-v.v) (path_in (newest_first c.args.versions.now) w)) c.loop-v-test.false
    ∙ c.loop-v.invariant

pub returns-in-None : goal.returns-in-None
returns-in-None c =
    sym (shared_of-none (newest_first c.args.versions.now) c.loop-v.v (sym c.find.ensures ∙ c.in-None.is))
    ∙ ap (λ w. shared_of (path_in (newest_first c.args.versions.now) c.loop-v.v) (path_in (newest_first c.args.versions.now) w)) c.loop-v-test.false
    ∙ c.loop-v.invariant
