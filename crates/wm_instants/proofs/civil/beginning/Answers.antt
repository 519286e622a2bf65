use Rattle.std.proofs.Common.{arith, ◌≡◌, ◌∙◌, ap, pos, unsigned_abs, ◌*ℤ◌, ◌+ℤ◌}
use Rattle.std.proofs.Math.IntN.{+ℤ_idr}
use Rattle.jiff_core.specs.Calendar.{days_from_civil}
use Rattle.jiff_core.specs.Date.{epoch_day}
use Rattle.jiff_core.specs.DateTime.{civil_nanos}
use Rattle.jiff_core.specs.Time.{time_nanos}
use Rattle.wm_instants.proofs.civil.beginning.Goals as goal

pub returns : goal.returns
unfolding civil_nanos
returns c =
    let date = c.datetime.ensures.date in
    let time = c.datetime.ensures.time in
    let day : epoch_day c.datetime.result.date ≡ days_from_civil (pos 1) 1 1 = λ i. days_from_civil (date.0 i) (unsigned_abs (date.1 i)) (unsigned_abs (date.2 i)) in
    let nanos : time_nanos c.datetime.result.time ≡ 0 = omega (arith, ap unsigned_abs time.0, ap unsigned_abs time.1, ap unsigned_abs time.2, ap unsigned_abs time.3) in
    (λ i. day i *ℤ pos 86_400_000_000_000 +ℤ pos (nanos i)) ∙ +ℤ_idr (days_from_civil (pos 1) 1 1 *ℤ pos 86_400_000_000_000)
