use Rattle.std.proofs.Common.{◌≡◌, true, false, None, Some, is_some, sym, ap, ◌∙◌}
use Rattle.wm_codec.specs.Reading.{record_of}
use Rattle.wm_store.proofs.Fetching.{fetched, is_spelled}
use Rattle.wm_store.proofs.store.Store.fetch.Goals as goal

pub returns-in_default-clause-record : goal.returns-in_default-clause-record
returns-in_default-clause-record g c = λ t records held.
    fetched (g.P.Station.history c.args.station.now) c.count-count.result c.args.self.now.journal c.args.id None records c.count-count.ensures.value (c.requires.store t).rests c.count-count.ensures.enough held (sym c.in_default.is ∙ c.in_ok-bytes.ensures.bytes t)

pub returns-in-Some-2-clause-record : goal.returns-in-Some-2-clause-record
returns-in-Some-2-clause-record g c = λ t records held.
    sym c.in-Some-2.is ∙ c.in_ok-record.ensures ∙ ap record_of c.as_slice.ensures
    ∙ fetched (g.P.Station.history c.args.station.now) c.count-count.result c.args.self.now.journal c.args.id (Some c.in-Some.bytes) records c.count-count.ensures.value (c.requires.store t).rests c.count-count.ensures.enough held (sym c.in-Some.is ∙ c.in_ok-bytes.ensures.bytes t)

pub returns-clause-not_changed : goal.returns-clause-not_changed
returns-clause-not_changed g c = λ t e.
    let good : is_some (record_of c.in-Some.bytes) ≡ true = is_spelled (g.P.Station.history c.args.station.now) c.count-count.result c.args.self.now.journal c.args.id c.in-Some.bytes (c.requires.store t).opens.0 c.count-count.ensures.value (c.requires.store t).rests c.count-count.ensures.enough (c.requires.store t).opens.1 (sym c.in-Some.is ∙ c.in_ok-bytes.ensures.bytes t) in
    let bad : is_some (record_of c.in-Some.bytes) ≡ false = ap is_some (ap record_of (sym c.as_slice.ensures) ∙ sym c.in_ok-record.ensures ∙ c.in-None.is) in
    absurd cc
