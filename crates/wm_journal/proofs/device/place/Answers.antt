use Rattle.std.proofs.Common.{◌≡◌, ℕ, ◌+◌, ◌*◌, ◌∷◌, List, drop, sym, ◌∙◌, ap, subst, inr}
use Rattle.std.proofs.lemmas.List.{drop_more}
use Rattle.wm_page.specs.Batch.{entries}
use Rattle.wm_page.specs.declared.write.PageWrite.{PageWrite}
use Rattle.wm_station.specs.History.{History, DidWrite}
use Rattle.wm_journal.specs.Writes.{Did, DidPart, placing}
use Rattle.wm_journal.proofs.device.place.Goals as goal

pub loop-write-preserved : goal.loop-write-preserved
loop-write-preserved g c =
    let pages : List PageWrite = c.args.pages.now in
    let i = c.loop-write.write-index in
    let w : PageWrite = c.write-item.result in
    let old : History = g.P.Station.history c.loop-write.station in
    let middle : History = g.P.Station.history c.write_at.new.self in
    let step : drop i pages ≡ w ∷ drop (i + 1) pages = drop_more pages i w c.loop-write-test.true ∙ ap (λ (x : PageWrite). x ∷ drop (i + 1) pages) (sym c.write-item.is) in
    let done : g.P.Station.tells → DidWrite (w.page * 4096) w.bytes old middle = λ t. subst (λ (b : List ℕ). DidWrite (w.page * 4096) b old middle) c.as_slice.ensures (c.in_ok-write_at.ensures.written t) in
    record {
      did = λ t new rest. c.loop-write.invariant.did t new (subst (λ (l : List PageWrite). Did (placing (entries l)) old new) (sym step) (middle, done t, rest));
      part = λ t new rest. c.loop-write.invariant.part t new (subst (λ (l : List PageWrite). DidPart (placing (entries l)) old new) (sym step) (inr (middle, done t, rest)));
      disk_quiet = c.in_ok-write_at.ensures.cause.done ∙ c.loop-write.invariant.disk_quiet;
      say_quiet = c.write_at.ensures.quiet ∙ c.loop-write.invariant.say_quiet;
    }
