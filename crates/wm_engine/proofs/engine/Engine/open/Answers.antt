use Rattle.std.proofs.Common.{ℕ, ◌<◌, max, sym, ap, subst, ◌∙◌}
use Rattle.wm_base.specs.declared.instant.TheConstants.{END}
use Rattle.wm_graph.specs.Parts.{parts_of}
use Rattle.wm_station.specs.History.{now}
use Rattle.wm_engine.proofs.Opening.{breaks, begins_before, opens_stand, opens_lawful, opens_at, opens_none, opens_staged}
use Rattle.wm_engine.proofs.engine.Engine.open.Goals as goal

pub returns-in-Err-Graph-clause-fault : goal.returns-in-Err-Graph-clause-fault
returns-in-Err-Graph-clause-fault g c = λ told.
    breaks (now (g.P.Station.history c.args.station.now)) c.in_ok-store.records (c.in_ok-store.ensures.records told) (c.in-Err-Graph.ensures.graph c.in-Err-Graph.field-0-is)

pub invariant_of-result : goal.invariant_of-result
invariant_of-result g c = (
  c.in-Ok.ensures.rules,
  let before = begins_before c.in-Ok.image c.counters.result c.seconds.result c.in-Ok.ensures.rules c.counters.ensures (subst (λ (n : ℕ). n < END) (sym c.seconds.ensures.value) c.requires) in
      subst (λ (n : ℕ). n < END) (sym c.max-moment.ensures) before,
)

pub returns-clause-begins : goal.returns-clause-begins
returns-clause-begins g c = λ told s stands. record {
  stands = opens_stand (now (g.P.Station.history c.args.station.now)) c.in_ok-store.records c.in-Ok.image c.args.moment s (c.in_ok-store.ensures.records told) c.in-Ok.ensures.image stands;
  lawful = opens_lawful c.args.moment s stands.lawful;
  sessions = c.new.ensures.items ∙ opens_none c.args.moment s;
  staged = opens_staged (parts_of c.in-Ok.image) _ c.new.ensures.items;
  moment =
      c.max-moment.ensures ∙ ap (λ (n : ℕ). max n c.counters.result.last_moment) c.seconds.ensures.value
      ∙ opens_at (now (g.P.Station.history c.args.station.now)) c.in_ok-store.records c.in-Ok.image c.counters.result c.args.moment s (c.in_ok-store.ensures.records told) c.in-Ok.ensures.image c.counters.ensures stands;
}

pub returns-clause-opened : goal.returns-clause-opened
returns-clause-opened g c = λ told. record { records = c.in_ok-store.records; held = c.in_ok-store.ensures.records told; same = c.in-Ok.ensures.image }
