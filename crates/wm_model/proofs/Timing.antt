-- What AT does to each state that the engine stands for, and what every other line does to the moment.
use Rattle.std.proofs.Common.{◌≡◌, ℕ, nat_lt, true, false, List, [], refl, sym}
use Rattle.wm_print.specs.Texts.{Fine}
use Rattle.wm_spec.specs.declared.record.stored.Stored.{Stored}
use Rattle.wm_state.specs.State.{State, Session}
use Rattle.wm_model.specs.Step.{set_moment, moment_back}
use Rattle.wm_model.specs.Planning.{DoesAt, Stay}
use Rattle.wm_model.proofs.Doing.{does_nothing}

earlier : (m instant : ℕ) (s : State) → m ≡ s.moment → nat_lt instant m ≡ true → set_moment instant s ≡ (s, moment_back m)
earlier m instant s same before = rw (sym same, before) refl

later : (m instant : ℕ) (s : State) → m ≡ s.moment → nat_lt instant m ≡ false → set_moment instant s ≡ (record s { moment = instant }, Fine)
later m instant s same behind = rw (sym same, behind) refl

-- the moment goes not back
pub moment_stays : (rs : List Stored) (xs : List Session) (m instant : ℕ) → nat_lt instant m ≡ true → DoesAt rs xs m [] Stay m (moment_back m) (set_moment instant)
moment_stays rs xs m instant before =
    does_nothing rs xs m (moment_back m) (set_moment instant) (λ s st. earlier m instant s st.moment_is before)

-- the moment moves, and the records stay
pub moment_moves : (rs : List Stored) (xs : List Session) (m instant : ℕ) → nat_lt instant m ≡ false → DoesAt rs xs m [] Stay instant Fine (set_moment instant)
moment_moves rs xs m instant behind = record { can = tt; seats = tt; does = λ s st. later m instant s st.moment_is behind }
