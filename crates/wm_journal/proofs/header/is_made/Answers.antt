use Rattle.std.proofs.Common.{ℕ, List, ◌∙◌, ap, arith}
use Rattle.std.specs.Prelude.{◌==◌}
use Rattle.wm_station.specs.History.{History, now, stretch}
use Rattle.wm_journal.proofs.Verdicts.{byte_read}
use Rattle.wm_journal.proofs.header.is_made.Goals as goal

pub returns-clause-made : goal.returns-clause-made
returns-clause-made g c = λ t.
    let file : List ℕ = now (g.P.Station.history c.args.station.now) in
    ap (λ (b : ℕ). b == 90) (byte_read file c.read.new.into 1 0 (omega arith) (c.in_ok-read.ensures.bytes t ∙ ap (λ (h : History). stretch (now h) 0 1) (c.len.ensures.told t)))
