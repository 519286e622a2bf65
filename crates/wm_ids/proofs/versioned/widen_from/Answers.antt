use Rattle.std.proofs.Common.{◌≡◌, ◌<◌, ◌≤◌, length, refl, sym, ◌∙◌, arith}
use Rattle.wm_ids.proofs.Widening.{held_same, next_widened, next_widens, none_widened}
use Rattle.wm_ids.proofs.versioned.widen_from.Goals as goal

pub loop-index-init : goal.loop-index-init
loop-index-init c = record { same = refl; widens = c.requires }

pub returns-then-holds : goal.returns-then-holds
returns-then-holds c =
    let long : length c.loop-index.versions ≡ length c.args.versions.now = c.loop-index.auto.versions in
    let less : c.loop-index.index < length c.args.versions.now = c.loop-index-test.true in
    sym
    (held_same c.args.piece.now c.loop-index.versions c.loop-index.index c.index-versions-index.result (omega (arith, long, less)) c.loop-index.invariant.widens
    (sym c.holds.ensures ∙ c.if-holds.true))
    ∙ c.loop-index.invariant.same

pub loop-index-preserved : goal.loop-index-preserved
loop-index-preserved c =
    let long : length c.loop-index.versions ≡ length c.args.versions.now = c.loop-index.auto.versions in
    let less : c.loop-index.index < length c.args.versions.now = c.loop-index-test.true in
    let within : c.loop-index.index < length c.loop-index.versions = omega (arith, long, less) in
    record {
      same =
          next_widened c.args.piece.now c.loop-index.versions c.loop-index.index c.index-versions-index-in-loop-index.result c.widen.new.one within c.widen.ensures
          ∙ c.loop-index.invariant.same;
      widens = next_widens c.loop-index.versions c.loop-index.index c.widen.new.one within c.loop-index.invariant.widens;
    }

pub returns : goal.returns
returns c =
    let long : length c.loop-index.versions ≡ length c.args.versions.now = c.loop-index.auto.versions in
    let done : length c.args.versions.now ≤ c.loop-index.index = c.loop-index-test.false in
    sym (none_widened c.args.piece.now c.loop-index.versions c.loop-index.index (omega (arith, long, done))) ∙ c.loop-index.invariant.same
