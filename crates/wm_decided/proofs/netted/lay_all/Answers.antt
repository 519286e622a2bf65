use Rattle.std.proofs.Common.{subst, List}
use Rattle.std.proofs.lemmas.List.{take_all}
use Rattle.std.specs.List.{All}
use Rattle.wm_state.specs.State.{Decision}
use Rattle.wm_decided.proofs.Laid.{all_laid, sound_more}
use Rattle.wm_decided.specs.Counted.{IsSound}
use Rattle.wm_decided.proofs.netted.lay_all.Goals as goal

pub loop-place-preserved : goal.loop-place-preserved
loop-place-preserved c =
    let ds = c.args.decisions.now in
    let i = c.loop-place.place in
    let d = c.index-decisions-place.result in (
      all_laid ds i d c.loop-place.by_key.entries c.lay.new.by_key.entries c.loop-place-test.true c.index-decisions-place.is c.loop-place.invariant.0 c.in_ok-lay.ensures.cells,
      sound_more ds i d c.loop-place-test.true c.index-decisions-place.is c.loop-place.invariant.1 c.in_ok-lay.ensures.sound,
    )

pub returns-clause-sound : goal.returns-clause-sound
returns-clause-sound c = subst (λ (ds : List Decision). All IsSound ds) (take_all c.loop-place.place c.args.decisions.now c.loop-place-test.false) c.loop-place.invariant.1
