use Rattle.std.proofs.Common.{arith, ◌∙◌}
use Rattle.wm_instants.proofs.ReadBack.{reads_back}
use Rattle.wm_instants.proofs.TextLemmas.{text_at, text_end}
use Rattle.wm_instants.proofs.write.write_instant.Goals as goal

pub returns-then-seconds-eq-END-clause-ok : goal.returns-then-seconds-eq-END-clause-ok
returns-then-seconds-eq-END-clause-ok c =
    let text = text_end c.args.at (omega arith) in
    rw text c.append.ensures.ok

pub returns-else-seconds-eq-END-clause-ok : goal.returns-else-seconds-eq-END-clause-ok
returns-else-seconds-eq-END-clause-ok c =
    let text = c.text_of.ensures ∙ text_at c.datetime_at.result c.args.at (omega arith) c.datetime_at.ensures.year c.datetime_at.ensures.month c.datetime_at.ensures.day c.datetime_at.ensures.seconds in
    rw (← text) c.append-else-seconds-eq-END.ensures.ok

pub returns-else-seconds-eq-END-clause-read_back : goal.returns-else-seconds-eq-END-clause-read_back
returns-else-seconds-eq-END-clause-read_back c = λ high.
    let d = c.datetime_at.ensures in
    reads_back c.datetime_at.result c.args.at high d.low d.year d.month d.day d.seconds d.days
