use Rattle.std.proofs.Common.{Err, refl, ap, subst, ◌∙◌, ⊎_elim, inl, rules}
use Rattle.wm_host.specs.Outcome.{IsUnwritten, load_lines}
use Rattle.wm_host.specs.declared.stop.Stop.TheVariants.{Memory}
use Rattle.wm_state.specs.State.{begin}
use Rattle.wm_host.proofs.Ending.{alone_at_place, alone_at_status, at_done, at_status, stops_by, stops_not, unopened_status}
use Rattle.wm_host.proofs.Never.{never_6, never_7, never_either}
use Rattle.wm_host.proofs.Loads.{begun_at, crash_loaded, crash_unloaded, loaded_from, loads_from, loads_unopened, silent_from}
use Rattle.wm_host.proofs.Sounding.{sound_at_end, sound_ran, sound_unopened}
use Rattle.wm_host.proofs.load.load.Goals as goal

-- ---- once the store is open

pub returns-in-Ok-clause-ends : goal.returns-in-Ok-clause-ends
returns-in-Ok-clause-ends g c = record {
  done = λ zero t s stands.
      loaded_from (g.P.Station.history c.args.station.now) (g.P.Station.history c.open_host.new.station) (g.P.Station.history c.run_drawn-run.new.station) (begin s 0) (load_lines c.args.seed c.args.count) (c.in-Ok.ensures.unsaid t)
      (at_done c.run_drawn-run.result c.of.result.status c.of.ensures.status zero (c.run_drawn-run.ensures.ok t) (begin s 0)
      (begun_at g.P.Station.tells (g.P.Station.history c.args.station.now) (g.P.Station.history c.open_host.new.station) c.in-Ok.host c.beginning.result c.beginning.ensures c.in-Ok.ensures.begins t s stands));
  all = λ zero. c.of.ensures.lines ∙ at_done c.run_drawn-run.result c.of.result.status c.of.ensures.status zero c.run_drawn-run.ensures.all;
  some = λ t s stands.
      rw c.of.ensures.lines
      (loads_from (g.P.Station.history c.args.station.now) (g.P.Station.history c.open_host.new.station) (g.P.Station.history c.run_drawn-run.new.station) (begin s 0) (load_lines c.args.seed c.args.count) c.run_drawn-run.new.host.lines (c.in-Ok.ensures.unsaid t)
      (c.run_drawn-run.ensures.some t (begin s 0)
      (begun_at g.P.Station.tells (g.P.Station.history c.args.station.now) (g.P.Station.history c.open_host.new.station) c.in-Ok.host c.beginning.result c.beginning.ensures c.in-Ok.ensures.begins t s stands)));
  silent = λ t.
      rw c.of.ensures.lines
      (silent_from (g.P.Station.history c.args.station.now) (g.P.Station.history c.open_host.new.station) (g.P.Station.history c.run_drawn-run.new.station) _ (c.in-Ok.ensures.unsaid t) (c.run_drawn-run.ensures.silent t));
  unsaid = search rules;
  crash = λ t s stands.
      crash_loaded (g.P.Station.history c.args.station.now) (g.P.Station.history c.open_host.new.station) (g.P.Station.history c.run_drawn-run.new.station) s (load_lines c.args.seed c.args.count) (c.in-Ok.ensures.unsaid t) (c.in-Ok.ensures.crash t s stands)
      (c.run_drawn-run.ensures.crash t (begin s 0)
      (begun_at g.P.Station.tells (g.P.Station.history c.args.station.now) (g.P.Station.history c.open_host.new.station) c.in-Ok.host c.beginning.result c.beginning.ensures c.in-Ok.ensures.begins t s stands));
  keeps = record {
    opened = λ status t. c.in-Ok.ensures.sound t;
    still = λ status t. sound_at_end (g.P.Station.history c.open_host.new.station) (g.P.Station.history c.run_drawn-run.new.station) (c.run_drawn-run.ensures.sound t);
    kept_sound = λ t sound.
        sound_ran (g.P.Station.history c.args.station.now) (g.P.Station.history c.open_host.new.station) (g.P.Station.history c.run_drawn-run.new.station) sound
        (c.in-Ok.ensures.pages_any_moment t) (c.run_drawn-run.ensures.sound t);
  };
  statuses = search rules;
}

-- neither is a store that is open none, nor damaged
pub returns-in-Ok-clause-store : goal.returns-in-Ok-clause-store
returns-in-Ok-clause-store g c =
    let six_not = never_6 c.run_drawn-run.result c.of.result.status c.of.ensures.status c.run_drawn-run.ensures.answering in
    let neither = never_either c.run_drawn-run.result c.of.result.status c.of.ensures.status c.run_drawn-run.ensures.answering in
    record {
      not_store = λ six t. absurd (six_not six);
      synced = λ six t. absurd (six_not six);
      damaged = λ seven t. absurd (never_7 c.run_drawn-run.result c.of.result.status c.of.ensures.status c.run_drawn-run.ensures.answering seven);
      place = c.of.ensures.page;
      unwritten = search rules;
      sound = λ either t s stands. absurd (neither either);
      unsaid = λ either t. absurd (neither either);
      unopened = λ either. absurd (neither either);
      pages = λ either t. absurd (neither either);
      pages_any_moment = λ either t. absurd (neither either);
      exists = search rules;
      unchanged = search rules;
    }

pub returns-in-Ok-clause-faults : goal.returns-in-Ok-clause-faults
returns-in-Ok-clause-faults g c = record {
  say = search rules;
  disk = search rules;
  say_kept = λ zero. at_done c.run_drawn-run.result c.of.result.status c.of.ensures.status zero c.run_drawn-run.ensures.say_kept ∙ c.in-Ok.ensures.say_quiet;
  disk_kept = λ either.
      ⊎_elim
      (λ zero. at_done c.run_drawn-run.result c.of.result.status c.of.ensures.status zero c.run_drawn-run.ensures.disk_kept)
      (λ ten. c.run_drawn-run.ensures.disk_spared (at_status c.run_drawn-run.result (Err Memory) c.of.result.status c.of.ensures.status ten refl))
      either
      ∙ c.in-Ok.ensures.disk_kept;
  say_later = search rules;
  disk_later = search rules;
}

-- ---- where it was not opened

pub returns-in-Err-clause-ends : goal.returns-in-Err-clause-ends
returns-in-Err-clause-ends g c =
    let unopened = unopened_status c.in-Err.stop c.of-in-Err.result.status c.of-in-Err.ensures.status c.in-Err.ensures.opening in
    record {
      done = λ zero t s stands. absurd (stops_not c.in-Err.stop c.of-in-Err.result.status c.of-in-Err.ensures.status zero);
      all = λ zero. absurd (stops_not c.in-Err.stop c.of-in-Err.result.status c.of-in-Err.ensures.status zero);
      some = λ t s stands.
          rw c.of-in-Err.ensures.lines
          (loads_unopened (g.P.Station.history c.args.station.now) (g.P.Station.history c.open_host.new.station) s (load_lines c.args.seed c.args.count) (c.in-Err.ensures.keeps t s stands) (c.in-Err.ensures.unsaid t));
      silent = λ t. inl (c.in-Err.ensures.unsaid t);
      unsaid = λ five t. c.in-Err.ensures.unsaid t;
      crash = λ t s stands.
          crash_unloaded (g.P.Station.history c.args.station.now) (g.P.Station.history c.open_host.new.station) s (load_lines c.args.seed c.args.count) (c.in-Err.ensures.crash t s stands);
      keeps = record {
        opened = λ status t. absurd (unopened status);
        still = λ status t. absurd (unopened status);
        kept_sound = λ t sound.
            sound_unopened (g.P.Station.history c.args.station.now) (g.P.Station.history c.open_host.new.station) sound (c.in-Err.ensures.pages t) (c.in-Err.ensures.pages_any_moment t);
      };
      statuses = search rules;
    }

pub returns-in-Err-clause-store : goal.returns-in-Err-clause-store
returns-in-Err-clause-store g c = record {
  not_store = search rules;
  synced = λ six t. c.in-Err.ensures.synced t (alone_at_status c.in-Err.stop c.of-in-Err.result.status c.of-in-Err.ensures.status six);
  damaged = search rules;
  place = c.of-in-Err.ensures.page;
  unwritten = λ unwritten t. c.in-Err.ensures.synced t (alone_at_place c.in-Err.stop (subst IsUnwritten c.of-in-Err.ensures.place unwritten));
  sound = search rules;
  unsaid = λ either t. c.in-Err.ensures.unsaid t;
  unopened = λ either. c.of-in-Err.ensures.lines;
  pages = λ either t. c.in-Err.ensures.pages t;
  pages_any_moment = λ either t. c.in-Err.ensures.pages_any_moment t;
  exists = search rules;
  unchanged = search rules;
}

pub returns-in-Err-clause-faults : goal.returns-in-Err-clause-faults
returns-in-Err-clause-faults g c = record {
  say = search rules;
  disk = search rules;
  say_kept = λ zero. c.in-Err.ensures.say_quiet;
  disk_kept = λ either.
      ⊎_elim
      (λ zero. absurd (stops_not c.in-Err.stop c.of-in-Err.result.status c.of-in-Err.ensures.status zero))
      (λ ten. c.in-Err.ensures.disk_spared (ap Err (stops_by c.in-Err.stop Memory c.of-in-Err.result.status c.of-in-Err.ensures.status ten refl)))
      either;
  say_later = search rules;
  disk_later = search rules;
}
