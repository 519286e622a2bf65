-- How a table becomes ready for rows.
use Rattle.wm_state.specs.State as state
use Rattle.wm_space.specs.declared.enable.Readiness.{Readiness}

abbrev pub readiness_view : Readiness → state.Readiness
readiness_view r = record { valid = r.valid; history = r.history }
