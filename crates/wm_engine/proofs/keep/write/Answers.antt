use Rattle.std.proofs.Common.{refl, sym, subst, ◌∙◌, List, rules}
use Rattle.wm_engine.specs.Working.{KeepsOver}
use Rattle.wm_engine.proofs.DraftsFit.{drafts_fit}
use Rattle.wm_engine.proofs.Keeping.{begun_drafted, drafted_as, ended_drafted}
use Rattle.wm_engine.proofs.Pages.{pages_changed, still_changed}
use Rattle.wm_prices.specs.Prices.{Spends}
use Rattle.wm_spec.specs.declared.record.stored.Stored.{Stored}
use Rattle.wm_station.specs.History.{now}
use Rattle.wm_engine.proofs.keep.write.Goals as goal

pub commit-requires-clause-once : goal.commit-requires-clause-once
commit-requires-clause-once g c = c.in_ok-batch.ensures.drafts.once

pub commit-requires-clause-fit : goal.commit-requires-clause-fit
commit-requires-clause-fit g c = drafts_fit c.args.image.now c.args.moment c.args.edits.items c.in_ok-batch.batch.changes c.in_ok-batch.ensures.drafts

pub commit-requires-clause-store : goal.commit-requires-clause-store
commit-requires-clause-store g c = λ told. (c.requires.works told).store_is

-- nothing was drafted
pub returns-in_err-batch-clause-writes : goal.returns-in_err-batch-clause-writes
returns-in_err-batch-clause-writes g c = record {
  image = search rules;
  spends = search rules;
  works = search rules;
  any_moment = λ told. begun_drafted c.args.store.now c.args.image.now c.args.moment c.args.edits.items (g.P.Station.history c.args.station.now) (c.requires.works told);
  nothing = λ told none. refl;
  pages = search rules;
  still = search rules;
  same_store = search rules;
}

-- nor committed
pub returns-in-Err-clause-writes : goal.returns-in-Err-clause-writes
returns-in-Err-clause-writes g c = record {
  image = tt;
  spends = tt;
  works = λ told. tt;
  any_moment = λ told.
      ended_drafted c.args.image.now c.args.moment c.args.edits.items c.in_ok-batch.batch.changes (g.P.Station.history c.args.station.now) (g.P.Station.history c.commit.new.station) c.in_ok-batch.ensures.drafts (c.in-Err.ensures.any_moment told c.args.image.now (c.requires.works told));
  nothing = λ told none. c.in-Err.ensures.nothing told (c.in_ok-batch.ensures.drafts.nothing none);
  pages = λ told n. tt;
  still = λ told. tt;
  same_store = λ none. tt;
}

-- nor made of the records
pub returns-in_err-apply-in-Ok-clause-writes : goal.returns-in_err-apply-in-Ok-clause-writes
returns-in_err-apply-in-Ok-clause-writes g c = record {
  image = search rules;
  spends = search rules;
  works = search rules;
  any_moment = λ told.
      ended_drafted c.args.image.now c.args.moment c.args.edits.items c.in_ok-batch.batch.changes (g.P.Station.history c.args.station.now) (g.P.Station.history c.commit.new.station) c.in_ok-batch.ensures.drafts (c.in-Ok.ensures.any_moment told c.args.image.now (c.requires.works told));
  nothing = λ told none. c.in-Ok.ensures.nothing told (c.in_ok-batch.ensures.drafts.nothing none);
  pages = search rules;
  still = search rules;
  same_store = search rules;
}

pub returns-in_ok-apply-in-Ok-clause-writes : goal.returns-in_ok-apply-in-Ok-clause-writes
returns-in_ok-apply-in-Ok-clause-writes g c =
    let made = c.in_ok-apply-in-Ok.ensures.ok ∙ c.in_ok-batch.ensures.rest in
    record {
      image = drafted_as c.args.image.now c.apply.new.self c.args.moment c.args.edits.items c.in_ok-batch.batch.changes c.in_ok-batch.ensures.drafts made;
      spends = subst (λ (ss : List Stored). Spends c.args.moment c.args.image.now c.args.edits.items ss) (sym made) c.in_ok-batch.ensures.spends;
      works = λ told.
          subst (λ ss. KeepsOver c.commit.new.store ss (g.P.Station.history c.commit.new.station)) (sym made) (c.in-Ok.ensures.works told c.args.image.now (c.requires.works told));
      any_moment = λ told.
          ended_drafted c.args.image.now c.args.moment c.args.edits.items c.in_ok-batch.batch.changes (g.P.Station.history c.args.station.now) (g.P.Station.history c.commit.new.station) c.in_ok-batch.ensures.drafts (c.in-Ok.ensures.any_moment told c.args.image.now (c.requires.works told));
      nothing = λ told none. c.in-Ok.ensures.nothing told (c.in_ok-batch.ensures.drafts.nothing none);
      pages = λ told n most.
          pages_changed c.args.store.now c.commit.new.store c.args.image.now c.apply.new.self c.in_ok-batch.batch.changes (g.P.Station.history c.args.station.now) (now (g.P.Station.history c.commit.new.station)) (c.requires.works told) c.in_ok-batch.ensures.drafts.once
          made (c.in-Ok.ensures.pages told c.args.image.now (c.requires.works told)) n most;
      still = λ told most.
          c.in-Ok.ensures.still told c.args.image.now (c.requires.works told)
          (still_changed c.args.store.now c.args.image.now c.apply.new.self c.in_ok-batch.batch.changes (g.P.Station.history c.args.station.now) (c.requires.works told) c.in_ok-batch.ensures.drafts.once made most);
      same_store = λ none. c.in-Ok.ensures.same_store (c.in_ok-batch.ensures.drafts.nothing none);
    }
