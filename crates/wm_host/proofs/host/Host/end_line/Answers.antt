use Rattle.std.proofs.Common.{append-nil, sym}
use Rattle.std.proofs.lemmas.Result.{err_from_is_err_and}
use Rattle.wm_host.proofs.Hosting.{answered, unanswered, answered_part, crash_of_run, crash_of_answer}
use Rattle.wm_host.proofs.Sounding.{sound_answer, sound_line}
use Rattle.wm_host.proofs.host.Host.end_line.Goals as goal

pub returns-in_err-answer-clause-err : goal.returns-in_err-answer-clause-err
returns-in_err-answer-clause-err g c =
    let p = err_from_is_err_and c.from_residual.result c.from_residual.ensures.1 in
    rw p.1
    (unanswered g.P.Station.tells _ _ c.args.self.now c.line-2.new.self c.line.result.now c.in_err-answer.ensures.keeps.any_moment)

pub returns-in_err-answer-clause-crash : goal.returns-in_err-answer-clause-crash
returns-in_err-answer-clause-crash g c =
    crash_of_run g.P.Station.tells _ _ c.args.self.now c.line.result.now c.line.ensures c.in_err-answer.ensures.keeps.any_moment

pub returns-in_err-said-clause-err : goal.returns-in_err-said-clause-err
returns-in_err-said-clause-err g c =
    let p = err_from_is_err_and c.from_residual-in_err-said.result c.from_residual-in_err-said.ensures.1 in
    rw p.1
    (answered_part g.P.Station.tells _ _ _ c.args.self.now c.line-2.new.self c.line.result.now c.in_ok-answer.answer.bytes c.as_slice.result.now
    c.line.ensures c.in_ok-answer.ensures.done.answered c.in_ok-answer.ensures.keeps.any_moment c.as_slice.ensures c.in_err-said.ensures.part)

pub returns-in_err-said-clause-crash : goal.returns-in_err-said-clause-crash
returns-in_err-said-clause-crash g c =
    crash_of_answer g.P.Station.tells _ _ _ c.args.self.now c.line-2.new.self c.line.result.now c.in_ok-answer.answer.bytes c.as_slice.result.now
    c.in_err-said.ensures.part.part c.in_err-said.ensures.part.is_part.rest
    c.line.ensures c.in_ok-answer.ensures.done.answered c.in_ok-answer.ensures.keeps.any_moment c.in_ok-answer.ensures.done.works c.as_slice.ensures
    c.in_err-said.ensures.part.is_part.is c.in_err-said.ensures.crash c.in_err-said.ensures.part.only

pub returns-clause-ok : goal.returns-clause-ok
returns-clause-ok g c =
    answered g.P.Station.tells _ _ _ c.args.self.now c.line-2.new.self c.line.result.now c.in_ok-answer.answer.bytes c.as_slice.result.now c.clear.new.self
    c.line.ensures c.in_ok-answer.ensures.done.answered c.in_ok-answer.ensures.keeps.any_moment (λ t. record { works = c.in_ok-answer.ensures.done.works t; rules = c.in_ok-answer.ensures.done.rules }) c.as_slice.ensures c.clear.ensures c.in_ok-said.ensures.said

pub returns-clause-crash : goal.returns-clause-crash
returns-clause-crash g c =
    crash_of_answer g.P.Station.tells _ _ _ c.args.self.now c.line-2.new.self c.line.result.now c.in_ok-answer.answer.bytes c.as_slice.result.now
    c.as_slice.result.now _
    c.line.ensures c.in_ok-answer.ensures.done.answered c.in_ok-answer.ensures.keeps.any_moment c.in_ok-answer.ensures.done.works c.as_slice.ensures
    (sym (append-nil c.as_slice.result.now)) c.in_ok-said.ensures.crash c.in_ok-said.ensures.said

-- ---- whatever the records stand for

pub line-requires-2 : goal.line-requires-2
line-requires-2 g c = record { works = λ t. (c.requires.works t).works }

pub returns-in_err-answer-clause-sound : goal.returns-in_err-answer-clause-sound
returns-in_err-answer-clause-sound g c = λ t. sound_line _ _ (c.in_err-answer.ensures.keeps.sound t (c.requires.works t).rules)

pub returns-in_err-said-clause-sound : goal.returns-in_err-said-clause-sound
returns-in_err-said-clause-sound g c = λ t.
    sound_answer c.line-2.new.self _ _ _ c.as_slice.result.now c.in_err-said.ensures.part.part (c.in_ok-answer.ensures.keeps.sound t (c.requires.works t).rules)
    (record { works = c.in_ok-answer.ensures.done.works t; rules = c.in_ok-answer.ensures.done.rules }) (c.in_err-said.ensures.crash t) (c.in_err-said.ensures.part.only t)

pub returns-clause-sound : goal.returns-clause-sound
returns-clause-sound g c = λ t.
    sound_answer c.line-2.new.self _ _ _ c.as_slice.result.now c.as_slice.result.now (c.in_ok-answer.ensures.keeps.sound t (c.requires.works t).rules)
    (record { works = c.in_ok-answer.ensures.done.works t; rules = c.in_ok-answer.ensures.done.rules }) (c.in_ok-said.ensures.crash t) (c.in_ok-said.ensures.said t)
