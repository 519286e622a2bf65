use Rattle.std.proofs.Common.{◌+◌, ◌^◌, refl, ◌∙◌, arith}
use Rattle.std.proofs.lemmas.List.{length-take}
use Rattle.std.proofs.lemmas.Result.{err_from_is_err_and, on_ok_weaker, on_err_weaker}
use Rattle.wm_host.proofs.Past.{past_begun, past_more, past_finished, past_halted, past_broken, past_stopped, past_taken, past_few, past_untaken, past_limit, past_crash, past_crash_finish, past_crash_broken}
use Rattle.wm_host.proofs.Causes.{not_of_source, not_of_limit, handed_on}
use Rattle.wm_host.proofs.Sounding.{sound_begun, sound_more}
use Rattle.wm_host.proofs.script.run_script.Goals as goal

pub pieces-init : goal.pieces-init
pieces-init g c = record {
  past = past_begun g.S.Source.tells g.P.Station.tells (g.S.Source.left c.args.source.now) (g.P.Station.history c.args.station.now) c.args.host.now c.requires.held c.requires.works;
  sound = λ t. sound_begun c.args.host.now.engine _ (c.requires.works t);
  within = omega arith;
  source_kept = refl;
  say_kept = refl;
  disk_kept = refl;
}

pub returns-in_err-count-clause-err : goal.returns-in_err-count-clause-err
returns-in_err-count-clause-err g c =
    let p = err_from_is_err_and c.from_residual.result c.from_residual.ensures.1 in
    rw p.1
    (past_stopped g.S.Source.tells g.P.Station.tells (g.S.Source.left c.args.source.now) (g.S.Source.left c.pieces.source) _ _ c.args.host.now c.pieces.host c.pieces.taken
    c.requires.held c.pieces.invariant.past)

pub returns-in_err-count-clause-taken : goal.returns-in_err-count-clause-taken
returns-in_err-count-clause-taken g c = λ s _.
    past_taken g.S.Source.tells g.P.Station.tells (g.S.Source.left c.args.source.now) (g.S.Source.left c.pieces.source) (g.S.Source.left c.take.new.self) _ _ c.args.host.now c.pieces.host c.pieces.taken
    c.requires.held c.pieces.invariant.past c.in_err-count.ensures.untaken s

pub returns-then-count-eq0-clause-ok : goal.returns-then-count-eq0-clause-ok
returns-then-count-eq0-clause-ok g c = λ s.
    on_ok_weaker c.finish.result
    (λ finishes. past_finished g.S.Source.tells g.P.Station.tells (g.S.Source.left c.args.source.now) (g.S.Source.left c.pieces.source) _ _ _ c.args.host.now c.pieces.host c.finish.new.self c.pieces.taken
    c.requires.held c.pieces.invariant.past (λ s'. c.in_ok-count.ensures.end s' c.if-count-eq0.true (omega (arith, length-take c.clamp-room.result c.pieces.piece))) finishes s)
    c.finish.ensures.ok

pub returns-then-count-eq0-clause-err : goal.returns-then-count-eq0-clause-err
returns-then-count-eq0-clause-err g c = λ s.
    on_err_weaker c.finish.result
    (λ halts. past_halted g.S.Source.tells g.P.Station.tells (g.S.Source.left c.args.source.now) (g.S.Source.left c.pieces.source) _ _ _ c.args.host.now c.pieces.host c.finish.new.self c.pieces.taken
    c.requires.held c.pieces.invariant.past (λ s'. c.in_ok-count.ensures.end s' c.if-count-eq0.true (omega (arith, length-take c.clamp-room.result c.pieces.piece))) halts s)
    c.finish.ensures.err

pub returns-then-count-eq0-clause-taken : goal.returns-then-count-eq0-clause-taken
returns-then-count-eq0-clause-taken g c = λ s is. absurd (not_of_source c.finish.result c.finish.ensures.answering is)

pub returns-then-count-eq0-clause-limit : goal.returns-then-count-eq0-clause-limit
returns-then-count-eq0-clause-limit g c = λ s is. absurd (not_of_limit c.finish.result c.finish.ensures.answering is)

pub returns-then-count-eq0-clause-source_failed : goal.returns-then-count-eq0-clause-source_failed
returns-then-count-eq0-clause-source_failed g c = λ is. absurd (not_of_source c.finish.result c.finish.ensures.answering is)

pub returns-then-taken-eq-INPUT_LIMIT-clause-err : goal.returns-then-taken-eq-INPUT_LIMIT-clause-err
returns-then-taken-eq-INPUT_LIMIT-clause-err g c =
    past_stopped g.S.Source.tells g.P.Station.tells (g.S.Source.left c.args.source.now) (g.S.Source.left c.pieces.source) _ _ c.args.host.now c.pieces.host c.pieces.taken
    c.requires.held c.pieces.invariant.past

pub returns-then-taken-eq-INPUT_LIMIT-clause-limit : goal.returns-then-taken-eq-INPUT_LIMIT-clause-limit
returns-then-taken-eq-INPUT_LIMIT-clause-limit g c = λ s _.
    past_limit g.S.Source.tells g.P.Station.tells (g.S.Source.left c.args.source.now) (g.S.Source.left c.pieces.source) (g.S.Source.left c.take.new.self) c.take.new.into _ _ c.args.host.now c.pieces.host c.pieces.taken c.in_ok-count.count
    c.requires.held c.pieces.invariant.past c.if-taken-eq-INPUT_LIMIT.true c.if-count-eq0.false (omega (arith, c.in_ok-count.ensures.within)) c.in_ok-count.ensures.taken s

pub returns-in_err-feed-clause-err : goal.returns-in_err-feed-clause-err
returns-in_err-feed-clause-err g c =
    let p = err_from_is_err_and c.from_residual-in_err-feed.result c.from_residual-in_err-feed.ensures.1 in
    rw p.1
    (past_broken g.S.Source.tells g.P.Station.tells (g.S.Source.left c.args.source.now) (g.S.Source.left c.pieces.source) (g.S.Source.left c.take.new.self) c.take.new.into _ _ _ c.args.host.now c.pieces.host c.feed.new.self c.pieces.taken c.in_ok-count.count
    c.requires.held c.pieces.invariant.past c.in_ok-count.ensures.taken c.in_err-feed.ensures.err)

pub returns-in_err-feed-clause-taken : goal.returns-in_err-feed-clause-taken
returns-in_err-feed-clause-taken g c = λ s is.
    absurd (not_of_source c.from_residual-in_err-feed.result
    (handed_on c.from_residual-in_err-feed.result c.in_err-feed.field-0.0 (err_from_is_err_and c.from_residual-in_err-feed.result c.from_residual-in_err-feed.ensures.1) c.in_err-feed.ensures.answering)
    is)

pub returns-in_err-feed-clause-limit : goal.returns-in_err-feed-clause-limit
returns-in_err-feed-clause-limit g c = λ s is.
    absurd (not_of_limit c.from_residual-in_err-feed.result
    (handed_on c.from_residual-in_err-feed.result c.in_err-feed.field-0.0 (err_from_is_err_and c.from_residual-in_err-feed.result c.from_residual-in_err-feed.ensures.1) c.in_err-feed.ensures.answering)
    is)

pub returns-in_err-feed-clause-source_failed : goal.returns-in_err-feed-clause-source_failed
returns-in_err-feed-clause-source_failed g c = λ is.
    absurd (not_of_source c.from_residual-in_err-feed.result
    (handed_on c.from_residual-in_err-feed.result c.in_err-feed.field-0.0 (err_from_is_err_and c.from_residual-in_err-feed.result c.from_residual-in_err-feed.ensures.1) c.in_err-feed.ensures.answering)
    is)

pub pieces-preserved : goal.pieces-preserved
pieces-preserved g c = record {
  past = past_more g.S.Source.tells g.P.Station.tells (g.S.Source.left c.args.source.now) (g.S.Source.left c.pieces.source) (g.S.Source.left c.take.new.self) c.take.new.into _ _ _ c.args.host.now c.pieces.host c.feed.new.self c.pieces.taken c.in_ok-count.count
      c.pieces.invariant.past (omega (arith, c.in_ok-count.ensures.within)) c.in_ok-count.ensures.taken c.in_ok-feed.ensures.ok c.in_ok-feed.ensures.crash;
  sound = λ t. sound_more _ _ _ (c.pieces.invariant.sound t) (c.in_ok-feed.ensures.sound t);
  within = omega (arith, c.in_ok-count.ensures.within, length-take c.clamp-room.result c.pieces.piece);
  source_kept = c.in_ok-count.ensures.cause.done ∙ c.pieces.invariant.source_kept;
  say_kept = c.in_ok-feed.ensures.say_kept ∙ c.pieces.invariant.say_kept;
  disk_kept = c.in_ok-feed.ensures.disk_kept ∙ c.pieces.invariant.disk_kept;
}

pub returns-in_err-count-clause-crash : goal.returns-in_err-count-clause-crash
returns-in_err-count-clause-crash g c =
    past_crash g.S.Source.tells g.P.Station.tells (g.S.Source.left c.args.source.now) (g.S.Source.left c.pieces.source) _ _ c.args.host.now c.pieces.host c.pieces.taken
    c.requires.held c.pieces.invariant.past

pub returns-then-count-eq0-clause-crash : goal.returns-then-count-eq0-clause-crash
returns-then-count-eq0-clause-crash g c =
    past_crash_finish g.S.Source.tells g.P.Station.tells (g.S.Source.left c.args.source.now) (g.S.Source.left c.pieces.source) _ _ _ c.args.host.now c.pieces.host c.pieces.taken
    c.requires.held c.pieces.invariant.past (λ s'. c.in_ok-count.ensures.end s' c.if-count-eq0.true (omega (arith, length-take c.clamp-room.result c.pieces.piece))) c.finish.ensures.crash

pub returns-then-taken-eq-INPUT_LIMIT-clause-crash : goal.returns-then-taken-eq-INPUT_LIMIT-clause-crash
returns-then-taken-eq-INPUT_LIMIT-clause-crash g c =
    past_crash g.S.Source.tells g.P.Station.tells (g.S.Source.left c.args.source.now) (g.S.Source.left c.pieces.source) _ _ c.args.host.now c.pieces.host c.pieces.taken
    c.requires.held c.pieces.invariant.past

pub returns-in_err-feed-clause-crash : goal.returns-in_err-feed-clause-crash
returns-in_err-feed-clause-crash g c =
    past_crash_broken g.S.Source.tells g.P.Station.tells (g.S.Source.left c.args.source.now) (g.S.Source.left c.pieces.source) (g.S.Source.left c.take.new.self) c.take.new.into _ _ _ c.args.host.now c.pieces.host c.pieces.taken c.in_ok-count.count
    c.requires.held c.pieces.invariant.past c.in_ok-count.ensures.taken c.in_err-feed.ensures.crash

pub returns-in_err-count-clause-few : goal.returns-in_err-count-clause-few
returns-in_err-count-clause-few g c = λ s.
    past_untaken g.S.Source.tells g.P.Station.tells (g.S.Source.left c.args.source.now) (g.S.Source.left c.pieces.source) (g.S.Source.left c.take.new.self) _ _ c.args.host.now c.pieces.host c.pieces.taken (2 ^ 30 + 1)
    c.pieces.invariant.past c.in_err-count.ensures.untaken (omega (arith, c.pieces.invariant.within)) s

pub returns-then-count-eq0-clause-few : goal.returns-then-count-eq0-clause-few
returns-then-count-eq0-clause-few g c =
    past_few g.S.Source.tells g.P.Station.tells (g.S.Source.left c.args.source.now) (g.S.Source.left c.pieces.source) (g.S.Source.left c.take.new.self) c.take.new.into _ _ c.args.host.now c.pieces.host c.pieces.taken c.in_ok-count.count (2 ^ 30 + 1)
    c.pieces.invariant.past (omega (arith, c.in_ok-count.ensures.within)) c.in_ok-count.ensures.taken (omega (arith, c.pieces.invariant.within, c.in_ok-count.ensures.within, length-take c.clamp-room.result c.pieces.piece))

pub returns-then-taken-eq-INPUT_LIMIT-clause-few : goal.returns-then-taken-eq-INPUT_LIMIT-clause-few
returns-then-taken-eq-INPUT_LIMIT-clause-few g c =
    past_few g.S.Source.tells g.P.Station.tells (g.S.Source.left c.args.source.now) (g.S.Source.left c.pieces.source) (g.S.Source.left c.take.new.self) c.take.new.into _ _ c.args.host.now c.pieces.host c.pieces.taken c.in_ok-count.count (2 ^ 30 + 1)
    c.pieces.invariant.past (omega (arith, c.in_ok-count.ensures.within)) c.in_ok-count.ensures.taken (omega (arith, c.pieces.invariant.within, c.in_ok-count.ensures.within, length-take c.clamp-room.result c.pieces.piece))

pub returns-in_err-feed-clause-few : goal.returns-in_err-feed-clause-few
returns-in_err-feed-clause-few g c =
    past_few g.S.Source.tells g.P.Station.tells (g.S.Source.left c.args.source.now) (g.S.Source.left c.pieces.source) (g.S.Source.left c.take.new.self) c.take.new.into _ _ c.args.host.now c.pieces.host c.pieces.taken c.in_ok-count.count (2 ^ 30 + 1)
    c.pieces.invariant.past (omega (arith, c.in_ok-count.ensures.within)) c.in_ok-count.ensures.taken (omega (arith, c.pieces.invariant.within, c.in_ok-count.ensures.within, length-take c.clamp-room.result c.pieces.piece))

pub returns-then-count-eq0-clause-sound : goal.returns-then-count-eq0-clause-sound
returns-then-count-eq0-clause-sound g c = λ t. sound_more _ _ _ (c.pieces.invariant.sound t) (c.finish.ensures.sound t)

pub returns-in_err-feed-clause-sound : goal.returns-in_err-feed-clause-sound
returns-in_err-feed-clause-sound g c = λ t. sound_more _ _ _ (c.pieces.invariant.sound t) (c.in_err-feed.ensures.sound t)

pub returns-then-count-eq0-clause-source_kept : goal.returns-then-count-eq0-clause-source_kept
returns-then-count-eq0-clause-source_kept g c = on_ok_weaker c.finish.result (λ _. c.in_ok-count.ensures.cause.done ∙ c.pieces.invariant.source_kept) c.finish.ensures.disk_kept

pub returns-then-count-eq0-clause-say_kept : goal.returns-then-count-eq0-clause-say_kept
returns-then-count-eq0-clause-say_kept g c = on_ok_weaker c.finish.result (λ kept. kept ∙ c.pieces.invariant.say_kept) c.finish.ensures.say_kept

pub returns-then-count-eq0-clause-disk_kept : goal.returns-then-count-eq0-clause-disk_kept
returns-then-count-eq0-clause-disk_kept g c = on_ok_weaker c.finish.result (λ kept. kept ∙ c.pieces.invariant.disk_kept) c.finish.ensures.disk_kept
