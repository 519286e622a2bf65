use Rattle.wm_spec.specs.declared.record.Record.TheVariants as records
use Rattle.wm_codec.specs.Reading.{record_of_kind}
use Rattle.wm_codec.proofs.Making.{gives_made}
use Rattle.wm_codec.proofs.read.record_of_fields.Goals as goal

pub returns-in-3 : goal.returns-in-3
unfolding record_of_kind
returns-in-3 c =
    rw c.in-3.is (gives_made records.Space c.apart-in-3.result c.map-in-3.result _ (c.apart-in-3.ensures records.Space _ c.space_of.ensures) c.map-in-3.ensures.cases)

pub returns-in-5 : goal.returns-in-5
unfolding record_of_kind
returns-in-5 c =
    rw c.in-5.is (gives_made records.Savepoint c.apart-in-5.result c.map-in-5.result _ (c.apart-in-5.ensures records.Savepoint _ c.savepoint_of.ensures) c.map-in-5.ensures.cases)

pub returns-in-9 : goal.returns-in-9
unfolding record_of_kind
returns-in-9 c =
    rw c.in-9.is (gives_made records.Lock c.apart-in-9.result c.map-in-9.result _ (c.apart-in-9.ensures records.Lock _ c.lock_of.ensures) c.map-in-9.ensures.cases)

pub returns-in-10 : goal.returns-in-10
unfolding record_of_kind
returns-in-10 c =
    rw c.in-10.is (gives_made records.Hist c.apart-in-10.result c.map-in-10.result _ (c.apart-in-10.ensures records.Hist _ c.hist_of.ensures) c.map-in-10.ensures.cases)
