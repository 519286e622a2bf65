use Rattle.std.proofs.Common.{refl, true}
use Rattle.std.proofs.lemmas.Bool.{iff_false}
use Rattle.std.proofs.lemmas.Result.{on_ok_weaker, on_err_weaker}
use Rattle.wm_engine.proofs.Working.{stands_over}
use Rattle.wm_model.specs.Lines.{capped}
use Rattle.wm_host.proofs.Crashing.{crash_answers_begun, crash_answers_last}
use Rattle.wm_host.proofs.Hosting.{finishes_nothing, finishes_line, halts_line}
use Rattle.wm_host.proofs.Sounding.{sound_begun}
use Rattle.wm_host.proofs.host.Host.finish.Goals as goal

pub returns-then-is_empty-clause-ok : goal.returns-then-is_empty-clause-ok
returns-then-is_empty-clause-ok g c = finishes_nothing g.P.Station.tells _ c.args.self.now (c.is_empty.ensures.0 c.if-is_empty.true) c.requires.works

pub returns-then-is_empty-clause-crash : goal.returns-then-is_empty-clause-crash
returns-then-is_empty-clause-crash g c = λ t s for.
    crash_answers_begun _ s (capped true c.args.self.now.line) (stands_over c.args.self.now.engine _ s (c.requires.works t).works for)

pub returns-clause-ok : goal.returns-clause-ok
returns-clause-ok g c =
    on_ok_weaker c.end_line.result
    (finishes_line g.P.Station.tells _ _ c.args.self.now c.end_line.new.self c.args.self.now.line refl (iff_false c.is_empty.ensures c.if-is_empty.false) c.requires.no_lf)
    c.end_line.ensures.ok

pub returns-clause-err : goal.returns-clause-err
returns-clause-err g c =
    on_err_weaker c.end_line.result
    (halts_line g.P.Station.tells _ _ c.args.self.now c.end_line.new.self c.args.self.now.line refl (iff_false c.is_empty.ensures c.if-is_empty.false) c.requires.no_lf)
    c.end_line.ensures.err

pub returns-clause-crash : goal.returns-clause-crash
returns-clause-crash g c = λ t s for.
    crash_answers_last _ _ s c.args.self.now.line (iff_false c.is_empty.ensures c.if-is_empty.false) c.requires.no_lf (c.end_line.ensures.crash t s for)

pub returns-then-is_empty-clause-sound : goal.returns-then-is_empty-clause-sound
returns-then-is_empty-clause-sound g c = λ t. sound_begun c.args.self.now.engine _ (c.requires.works t)
