use Rattle.std.proofs.Common.{arith, refl, sym, ◌≡◌, true, false, to_z, w8, w16}
use Rattle.std.proofs.lemmas.Grind.{common_steps}
use Rattle.wm_instants.specs.declared.fields.Day.{Day}
use Rattle.wm_instants.specs.declared.fields.Clock.{Clock}
use Rattle.wm_instants.specs.Fields.{IsSmallDay, IsSmallClock}
use Rattle.wm_instants.proofs.CivilLemmas.{Signs, no_date, some_date, cast_year, cast_field}
use Rattle.wm_instants.proofs.civil.instant_of_fields.Goals as goal

signs : (day : Day) (clock : Clock) → IsSmallDay day → IsSmallClock clock → Signs day.year day.month day.day clock.hour clock.minute clock.second
    (to_z w16 day.year) (to_z w8 day.month) (to_z w8 day.day) (to_z w8 clock.hour) (to_z w8 clock.minute) (to_z w8 clock.second)
signs day clock small_day small_clock = record {
  year = cast_year day.year small_day.0;
  month = cast_field day.month small_day.1;
  day = cast_field day.day small_day.2;
  hour = cast_field clock.hour small_clock.0;
  minute = cast_field clock.minute small_clock.1;
  second = cast_field clock.second small_clock.2;
}

pub returns-in_default : goal.returns-in_default
returns-in_default c =
    sym (no_date _ _ _ _ _ _ _ _ _ _ _ _ (signs c.args.day c.args.clock c.requires.small_day c.requires.small_clock) (λ is. let e : false ≡ true = c.in_default.ensures.succeeds.1 is in cc))

pub returns : goal.returns
returns c =
    let real = some_date _ _ _ _ _ _ _ _ _ _ _ _ (signs c.args.day c.args.clock c.requires.small_day c.requires.small_clock) (omega arith) (c.in-Ok.ensures.succeeds.0 refl) c.in-Ok.shown c.in-Ok.ensures.value in
    rw real (grind (arith, common_steps, c.new-2.ensures.valid, c.seconds_of.ensures.bound))
