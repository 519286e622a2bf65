-- What the place of a session in its workspace means, and what is set of it.
use Rattle.wm_state.specs.State as state
use Rattle.wm_model.specs.Step.Sessions as settings
use Rattle.wm_plan.specs.declared.session.Setting.{Setting}
use Rattle.wm_plan.specs.declared.session.Setting.TheVariants.{Stand as Standing, Period, Conflict, Begin, Decide, End, Freeze, Lock, Compare}
use Rattle.wm_plan.specs.declared.session.Stand.{Stand}
use Rattle.wm_plan.specs.declared.session.Stand.TheVariants.{Latest, At, Dated}

abbrev pub stand_view : Stand → state.Stand
stand_view Latest = state.Latest
stand_view (At making) = state.At making
stand_view (Dated date) = state.Dated date

abbrev pub setting_view : Setting → settings.Setting
setting_view (Standing space stand) = settings.Stand space (stand_view stand)
setting_view (Period period) = settings.Period period
setting_view (Conflict workspace) = settings.Conflict workspace
setting_view (Begin space) = settings.Begin space
setting_view (Decide decisions) = settings.Decide decisions.items
setting_view End = settings.End
setting_view (Freeze space) = settings.Freeze space
setting_view (Lock mode) = settings.Lock mode
setting_view (Compare difference) = settings.Compare difference
