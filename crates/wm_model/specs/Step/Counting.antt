-- What a line that changes something durable counts.
use Rattle.std.specs.Prelude.{ℕ, ◌+◌, nat_lt, if◌then◌else◌, codes}
use Rattle.wm_state.specs.State.{State}
use Rattle.wm_state.specs.Editing.{counter_limit, line_work}
use Rattle.wm_print.specs.Texts.{Answer}
use Rattle.wm_model.specs.Step.Refusing.{at_its_end}

-- a line that changes a durable part: it makes a log so long, sets the last moment and counts so much work, unless a counter is at its end
abbrev pub durably_by : ℕ → State → ℕ → State × Answer → State × Answer
durably_by work s log done =
    if nat_lt counter_limit log then (s, at_its_end (codes "LOG")) else
    (if nat_lt counter_limit (s.durable.work + work) then (s, at_its_end (codes "WORK")) else
    (record done.0 { durable = record done.0.durable { last_moment = s.moment; work = s.durable.work + work } }, done.1))

-- so, where it makes no lock
abbrev pub durably : State → ℕ → State × Answer → State × Answer
durably s log done = durably_by line_work s log done
