use Rattle.std.proofs.Common.{◌∷◌, []}
use Rattle.std.proofs.lemmas.Result.{err_from_is_err_and, on_ok_weaker, on_err_weaker}
use Rattle.wm_engine.proofs.Working.{stands_over}
use Rattle.wm_host.proofs.Crashing.{crash_runs_begun, crash_runs_line}
use Rattle.wm_host.proofs.Hosting.{says_line, breaks_line, says_byte, breaks_before}
use Rattle.wm_host.proofs.Sounding.{sound_begun}
use Rattle.wm_host.proofs.host.Host.take_byte.Goals as goal

pub returns-then-byte-eq10-clause-ok : goal.returns-then-byte-eq10-clause-ok
returns-then-byte-eq10-clause-ok g c =
    on_ok_weaker c.end_line.result (says_line g.P.Station.tells _ _ c.args.self.now c.end_line.new.self c.args.byte c.if-byte-eq10.true c.requires.no_lf) c.end_line.ensures.ok

pub returns-then-byte-eq10-clause-err : goal.returns-then-byte-eq10-clause-err
returns-then-byte-eq10-clause-err g c =
    on_err_weaker c.end_line.result (breaks_line g.P.Station.tells _ _ c.args.self.now c.end_line.new.self c.args.byte c.if-byte-eq10.true c.requires.no_lf) c.end_line.ensures.err

pub returns-then-byte-eq10-clause-crash : goal.returns-then-byte-eq10-clause-crash
returns-then-byte-eq10-clause-crash g c = λ t s for.
    crash_runs_line _ _ s c.args.self.now c.args.byte c.if-byte-eq10.true c.requires.no_lf (c.end_line.ensures.crash t s for)

pub returns-in_err-push-clause-err : goal.returns-in_err-push-clause-err
returns-in_err-push-clause-err g c =
    let p = err_from_is_err_and c.from_residual.result c.from_residual.ensures.1 in
    rw p.1 (breaks_before g.P.Station.tells _ c.args.self.now (c.args.byte ∷ []) c.push.new.self)

pub returns-in_err-push-clause-crash : goal.returns-in_err-push-clause-crash
returns-in_err-push-clause-crash g c = λ t s for.
    crash_runs_begun _ s c.args.self.now (c.args.byte ∷ []) (stands_over c.args.self.now.engine _ s (c.requires.works t).works for)

pub returns-clause-ok : goal.returns-clause-ok
returns-clause-ok g c =
    says_byte g.P.Station.tells _ c.args.self.now c.args.byte c.push.new.self c.if-byte-eq10.false c.requires.no_lf c.requires.works c.in_ok-push.ensures.ok

pub returns-clause-crash : goal.returns-clause-crash
returns-clause-crash g c = λ t s for.
    crash_runs_begun _ s c.args.self.now (c.args.byte ∷ []) (stands_over c.args.self.now.engine _ s (c.requires.works t).works for)

pub returns-in_err-push-clause-sound : goal.returns-in_err-push-clause-sound
returns-in_err-push-clause-sound g c = λ t. sound_begun c.args.self.now.engine _ (c.requires.works t)

pub returns-clause-sound : goal.returns-clause-sound
returns-clause-sound g c = λ t. sound_begun c.args.self.now.engine _ (c.requires.works t)
