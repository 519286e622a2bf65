use Rattle.std.proofs.Common.{[], refl, ◌∙◌}
use Rattle.std.proofs.lemmas.Result.{err_from_is_err_and}
use Rattle.wm_engine.proofs.Working.{stands_over}
use Rattle.wm_host.proofs.Crashing.{crash_runs_begun, crash_runs_next, crash_runs_within}
use Rattle.wm_host.proofs.Hosting.{says_begun, says_next, breaks_next}
use Rattle.wm_host.proofs.Sounding.{sound_begun, sound_more}
use Rattle.wm_host.proofs.host.Host.feed.Goals as goal

pub loop-byte-init : goal.loop-byte-init
loop-byte-init g c = record {
  says = says_begun g.P.Station.tells _ c.args.self.now c.requires.no_lf c.requires.works;
  crash = λ t s for. crash_runs_begun (g.P.Station.history c.args.station.now) s c.args.self.now [] (stands_over c.args.self.now.engine _ s (c.requires.works t).works for);
  sound = λ t. sound_begun c.args.self.now.engine _ (c.requires.works t);
  say_kept = refl;
  disk_kept = refl;
}

pub returns-in_err-take_byte-clause-err : goal.returns-in_err-take_byte-clause-err
returns-in_err-take_byte-clause-err g c =
    let p = err_from_is_err_and c.from_residual.result c.from_residual.ensures.1 in
    rw p.1
    (breaks_next g.P.Station.tells _ _ _ c.args.self.now c.loop-byte.self c.take_byte.new.self c.args.bytes.now c.loop-byte.byte-index c.loop-byte-test.true
    c.loop-byte.invariant.says c.in_err-take_byte.ensures.err)

pub loop-byte-preserved : goal.loop-byte-preserved
loop-byte-preserved g c = record {
  says = says_next g.P.Station.tells _ _ _ c.args.self.now c.loop-byte.self c.take_byte.new.self c.args.bytes.now c.loop-byte.byte-index c.loop-byte-test.true
      c.loop-byte.invariant.says c.in_ok-take_byte.ensures.ok;
  crash = crash_runs_next g.P.Station.tells _ _ _ c.args.self.now c.loop-byte.self c.args.bytes.now c.loop-byte.byte-index c.loop-byte-test.true
      c.loop-byte.invariant.says c.loop-byte.invariant.crash c.in_ok-take_byte.ensures.crash;
  sound = λ t. sound_more _ _ _ (c.loop-byte.invariant.sound t) (c.in_ok-take_byte.ensures.sound t);
  say_kept = c.in_ok-take_byte.ensures.say_kept ∙ c.loop-byte.invariant.say_kept;
  disk_kept = c.in_ok-take_byte.ensures.disk_kept ∙ c.loop-byte.invariant.disk_kept;
}

pub returns-in_err-take_byte-clause-crash : goal.returns-in_err-take_byte-clause-crash
returns-in_err-take_byte-clause-crash g c =
    crash_runs_within g.P.Station.tells _ _ _ c.args.self.now c.loop-byte.self c.args.bytes.now c.loop-byte.byte-index c.loop-byte-test.true
    c.loop-byte.invariant.says c.loop-byte.invariant.crash c.in_err-take_byte.ensures.crash

pub returns-in_err-take_byte-clause-sound : goal.returns-in_err-take_byte-clause-sound
returns-in_err-take_byte-clause-sound g c = λ t. sound_more _ _ _ (c.loop-byte.invariant.sound t) (c.in_err-take_byte.ensures.sound t)
