use Rattle.std.proofs.Common.{◌*◌, sym, ap, ◌∙◌}
use Rattle.wm_station.specs.History.{stretch, now}
use Rattle.wm_journal.specs.Disk.{page}
use Rattle.wm_store.proofs.station_pages.StationPagesPages.page.Goals as goal

pub returns-in-Ok-clause-bytes : goal.returns-in-Ok-clause-bytes
unfolding page
returns-in-Ok-clause-bytes g c = λ t. c.in-Ok.ensures.bytes t ∙ ap (λ n. stretch (now (g.P.Station.history c.args.self.now.station.now)) (c.args.number * 4096) n) c.requires.size

pub invariant_of-self-clause-read : goal.invariant_of-self-clause-read
unfolding page
invariant_of-self-clause-read g c = λ t some.
    c.copy_from_slice-in-Ok.ensures.after ∙ c.in-Ok.ensures.bytes t ∙ ap (λ n. stretch (now (g.P.Station.history c.args.self.now.station.now)) (c.args.number * 4096) n) c.requires.size
    ∙ ap (λ h. stretch (now h) (c.args.number * 4096) 4096) (sym (c.in-Ok.ensures.told t))
