-- What plans do to each state that the engine stands for: what all of them have in common.
use Rattle.std.proofs.Common.{◌≡◌, ℕ, ◌+◌, nat_lt, true, false, List, [], ◌∷◌, Some, None, refl, sym, ap, ◌∙◌, codes}
use Rattle.wm_graph.specs.Parts.{parts_of}
use Rattle.wm_graph.specs.Rules.{keep_rules}
use Rattle.wm_print.specs.Texts.{Answer}
use Rattle.wm_spec.specs.declared.record.counters.Counters.{Counters}
use Rattle.wm_spec.specs.declared.record.stored.Stored.{Stored}
use Rattle.wm_state.specs.State.{Session, State}
use Rattle.wm_state.specs.declared.edit.Edit.{Edit}
use Rattle.wm_state.proofs.Counting.{CountsAs, counts_as as counted_as}
use Rattle.wm_syntax.specs.Trees.{Statement}
use Rattle.wm_model.specs.Step.{at_its_end, counter_limit, durably, durably_by, line_work, no_session, run_for, run_statement, session_of}
use Rattle.wm_model.specs.Planning.{StandsAt, Does, Seating, SeatsStaged, Stay, seated}

-- ---- nothing changes

-- an answer alone
pub does_nothing : (rs : List Stored) (xs : List Session) (m : ℕ) (answer : Answer) (act : State → State × Answer) → ((s : State) → StandsAt rs xs m s → act s ≡ (s, answer)) → Does rs xs m [] Stay answer act
does_nothing rs xs m answer act same = record { can = tt; seats = tt; does = λ s st. same s st ∙ ap (λ n. (record s { moment = n }, answer)) (sym st.moment_is) }

-- the sessions alone change
pub does_seat : (rs : List Stored) (xs : List Session) (m : ℕ) (seating : Seating) (answer : Answer) (act : State → State × Answer) → SeatsStaged (parts_of rs) seating
    → ((s : State) → StandsAt rs xs m s → act s ≡ (record s { sessions = seated s.sessions seating }, answer)) → Does rs xs m [] seating answer act
does_seat rs xs m seating answer act staged same = record {
  can = tt;
  seats = staged;
  does = λ s st. same s st ∙ ap (λ n. (record s { sessions = seated s.sessions seating; moment = n }, answer)) (sym st.moment_is);
}

-- what is done by one function is done by another that does the same to each state
pub does_alike : (rs : List Stored) (xs : List Session) (m : ℕ) (es : List Edit) (seating : Seating) (answer : Answer) (act also : State → State × Answer) → ((s : State) → StandsAt rs xs m s → also s ≡ act s)
    → Does rs xs m es seating answer act → Does rs xs m es seating answer also
does_alike rs xs m es seating answer act also same does = record { can = does.can; seats = does.seats; does = λ s st. same s st ∙ does.does s st }

-- ---- a statement of a session

pub run_none : (rs : List Stored) (xs : List Session) (m : ℕ) (name : List ℕ) (statement : Statement) → keep_rules (parts_of rs) ≡ true → session_of name xs ≡ None
    → Does rs xs m [] Stay (no_session name) (λ s. run_for name (session_of name s.sessions) statement s)
run_none rs xs m name statement rules none =
    does_nothing rs xs m (no_session name) (λ s. run_for name (session_of name s.sessions) statement s) (λ s st. ap (λ o. run_for name o statement s) (ap (session_of name) (sym st.sessions_are) ∙ none))

pub run_some : (rs : List Stored) (xs : List Session) (m : ℕ) (name : List ℕ) (session : Session) (statement : Statement) (es : List Edit) (seating : Seating) (answer : Answer) → session_of name xs ≡ Some session
    → Does rs xs m es seating answer (run_statement session statement) → Does rs xs m es seating answer (λ s. run_for name (session_of name s.sessions) statement s)
run_some rs xs m name session statement es seating answer some does =
    does_alike rs xs m es seating answer (run_statement session statement) (λ s. run_for name (session_of name s.sessions) statement s)
    (λ s st. ap (λ o. run_for name o statement s) (ap (session_of name) (sym st.sessions_are) ∙ some)) does

-- ---- what is counted

-- the counters of the records are those of the state
pub counts_as : (rs : List Stored) (xs : List Session) (m : ℕ) (s : State) (c : Counters) → StandsAt rs xs m s → (parts_of rs).counters ≡ c ∷ [] → CountsAs c s.durable
counts_as rs xs m s c st one = counted_as (parts_of rs) s.durable c st.stands one

-- a line that changes something, and counts so much work, where a counter is at its end
pub spent_work_by : (work : ℕ) (s : State) (log : ℕ) (done : State × Answer) → nat_lt counter_limit log ≡ false → nat_lt counter_limit (s.durable.work + work) ≡ true → durably_by work s log done ≡ (s, at_its_end (codes "WORK"))
spent_work_by work s log done short much = rw (short, much) refl

pub spent_log_by : (work : ℕ) (s : State) (log : ℕ) (done : State × Answer) → nat_lt counter_limit log ≡ true → durably_by work s log done ≡ (s, at_its_end (codes "LOG"))
spent_log_by work s log done long = rw long refl

-- and where none is
pub not_spent_by : (work : ℕ) (s : State) (log : ℕ) (done : State × Answer) → nat_lt counter_limit log ≡ false → nat_lt counter_limit (s.durable.work + work) ≡ false
    → durably_by work s log done ≡ (record done.0 { durable = record done.0.durable { last_moment = s.moment; work = s.durable.work + work } }, done.1)
not_spent_by work s log done short room = rw (short, room) refl

-- so, at the moment of the plan
pub not_spent_at_by : (work : ℕ) (rs : List Stored) (xs : List Session) (m : ℕ) (s : State) (log : ℕ) (c : Counters) (done : State × Answer) → StandsAt rs xs m s → (parts_of rs).counters ≡ c ∷ [] → nat_lt counter_limit log ≡ false
    → nat_lt counter_limit (c.work + work) ≡ false → durably_by work s log done ≡ (record done.0 { durable = record done.0.durable { last_moment = m; work = s.durable.work + work } }, done.1)
not_spent_at_by work rs xs m s log c done st one short room =
    not_spent_by work s log done short (ap (λ w. nat_lt counter_limit (w + work)) (sym (counts_as rs xs m s c st one).work) ∙ room)
    ∙ ap (λ n. (record done.0 { durable = record done.0.durable { last_moment = n; work = s.durable.work + work } }, done.1)) (sym st.moment_is)

-- and where the work is
pub spent_at_by : (work : ℕ) (rs : List Stored) (xs : List Session) (m : ℕ) (s : State) (log : ℕ) (c : Counters) (done : State × Answer) → StandsAt rs xs m s → (parts_of rs).counters ≡ c ∷ [] → nat_lt counter_limit log ≡ false
    → nat_lt counter_limit (c.work + work) ≡ true → durably_by work s log done ≡ (s, at_its_end (codes "WORK"))
spent_at_by work rs xs m s log c done st one short much = spent_work_by work s log done short (ap (λ w. nat_lt counter_limit (w + work)) (sym (counts_as rs xs m s c st one).work) ∙ much)

-- ---- so, where no lock is made

pub spent_log : (s : State) (log : ℕ) (done : State × Answer) → nat_lt counter_limit log ≡ true → durably s log done ≡ (s, at_its_end (codes "LOG"))
spent_log s log done long = spent_log_by line_work s log done long

pub not_spent_at : (rs : List Stored) (xs : List Session) (m : ℕ) (s : State) (log : ℕ) (c : Counters) (done : State × Answer) → StandsAt rs xs m s → (parts_of rs).counters ≡ c ∷ [] → nat_lt counter_limit log ≡ false
    → nat_lt counter_limit (c.work + line_work) ≡ false → durably s log done ≡ (record done.0 { durable = record done.0.durable { last_moment = m; work = s.durable.work + line_work } }, done.1)
not_spent_at rs xs m s log c done st one short room = not_spent_at_by line_work rs xs m s log c done st one short room

pub spent_at : (rs : List Stored) (xs : List Session) (m : ℕ) (s : State) (log : ℕ) (c : Counters) (done : State × Answer) → StandsAt rs xs m s → (parts_of rs).counters ≡ c ∷ [] → nat_lt counter_limit log ≡ false
    → nat_lt counter_limit (c.work + line_work) ≡ true → durably s log done ≡ (s, at_its_end (codes "WORK"))
spent_at rs xs m s log c done st one short much = spent_at_by line_work rs xs m s log c done st one short much
