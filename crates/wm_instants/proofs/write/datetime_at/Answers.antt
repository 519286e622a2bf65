use Rattle.std.proofs.Common.{◌∙◌, ap, ◌≡◌, ◌*◌, true, false, pos}
use Rattle.jiff_core.specs.Time.{time_seconds}
use Rattle.wm_instants.specs.Texts.{second_of_day}
use Rattle.wm_instants.proofs.TextLemmas.{DateAt, shown_at, has_moment}
use Rattle.wm_instants.proofs.write.datetime_at.Goals as goal

shown : (c : goal.In-Ok) → DateAt c.in-Ok.shown.date c.args.at × (time_seconds c.in-Ok.shown.time ≡ second_of_day c.args.at)
shown c = shown_at c.in-Ok.shown c.beginning.result _ c.args.at c.requires c.beginning.ensures (ap pos (c.from_secs.ensures ∙ ap (λ n. n * 1_000_000_000) c.seconds.ensures.value)) c.in-Ok.ensures.value

pub unreachable-requires : goal.unreachable-requires
unreachable-requires c =
    let can = has_moment c.beginning.result _ c.args.at c.requires c.beginning.ensures (ap pos (c.from_secs.ensures ∙ ap (λ n. n * 1_000_000_000) c.seconds.ensures.value)) in
    let e : false ≡ true = c.in_default.ensures.succeeds.1 can in
    cc

pub returns-clause-year : goal.returns-clause-year
returns-clause-year c = (shown c).0.year

pub returns-clause-month : goal.returns-clause-month
returns-clause-month c = (shown c).0.month

pub returns-clause-day : goal.returns-clause-day
returns-clause-day c = (shown c).0.day

pub returns-clause-seconds : goal.returns-clause-seconds
returns-clause-seconds c = (shown c).1

pub returns-clause-low : goal.returns-clause-low
returns-clause-low c = (shown c).0.low

pub returns-clause-days : goal.returns-clause-days
returns-clause-days c = (shown c).0.days
