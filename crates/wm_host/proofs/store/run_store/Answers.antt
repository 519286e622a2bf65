use Rattle.std.proofs.Common.{Err, refl, subst, ap, ◌∙◌, ◌+◌, ◌^◌, take, ⊎_elim, rules}
use Rattle.wm_model.specs.Lines.{lines, ended_lines}
use Rattle.wm_state.specs.State.{begin}
use Rattle.wm_host.specs.Outcome.{IsUnwritten}
use Rattle.wm_host.specs.declared.stop.Stop.TheVariants.{SourceFault, InputLimit, Memory}
use Rattle.wm_host.proofs.Ending.{alone_at_place, alone_at_status, at_done, at_status, answers_all, answers_at_end, answers_ended, counts_all, crash_opened, crash_ran, front_of_answers, stands_ran, stands_unopened, counted_unopened, placed_by_script, stops_by, stops_not, takes_none, unopened_status}
use Rattle.wm_host.proofs.NeverScript.{script_never, script_never_6, script_never_7}
use Rattle.wm_host.proofs.Sounding.{sound_at_end, sound_ran, sound_unopened}
use Rattle.wm_host.proofs.store.run_store.Goals as goal

-- ---- once the store is open

pub returns-in-Ok-clause-ends : goal.returns-in-Ok-clause-ends
returns-in-Ok-clause-ends g c =
    record {
      done = λ zero r t.
          answers_all g.P.Station.tells (g.P.Station.history c.args.station.now) (g.P.Station.history c.open_host.new.station) (g.P.Station.history c.run_script-run.new.station) c.in-Ok.host c.run_script-run.new.host c.args.moment (lines (g.S.Source.left c.args.source.now))
          c.in-Ok.ensures.begins (c.in-Ok.ensures.unsaid t)
          (at_done c.run_script-run.result c.of.result.status c.of.ensures.status zero (c.run_script-run.ensures.ok r)) t;
      all = λ zero r.
          c.of.ensures.lines
          ∙ counts_all g.P.Station.tells (g.P.Station.history c.open_host.new.station) (g.P.Station.history c.run_script-run.new.station) c.in-Ok.host c.run_script-run.new.host (lines (g.S.Source.left c.args.source.now))
          c.in-Ok.ensures.begins.none
          (at_done c.run_script-run.result c.of.result.status c.of.ensures.status zero (c.run_script-run.ensures.ok r));
      end = search rules;
      within = search rules;
      ended = λ three r t.
          rw c.of.ensures.lines
          (answers_ended g.P.Station.tells (g.P.Station.history c.args.station.now) (g.P.Station.history c.open_host.new.station) (g.P.Station.history c.run_script-run.new.station) c.in-Ok.host c.run_script-run.new.host c.args.moment (g.S.Source.left c.args.source.now) (g.S.Source.left c.run_script-run.new.source)
          c.in-Ok.ensures.begins (c.in-Ok.ensures.unsaid t)
          (c.run_script-run.ensures.taken r (at_status c.run_script-run.result (Err SourceFault) c.of.result.status c.of.ensures.status three refl)) t);
      to_limit = λ nine r t.
          answers_all g.P.Station.tells (g.P.Station.history c.args.station.now) (g.P.Station.history c.open_host.new.station) (g.P.Station.history c.run_script-run.new.station) c.in-Ok.host c.run_script-run.new.host c.args.moment (ended_lines (take (2 ^ 30) (g.S.Source.left c.args.source.now)))
          c.in-Ok.ensures.begins (c.in-Ok.ensures.unsaid t)
          (c.run_script-run.ensures.limit r (at_status c.run_script-run.result (Err InputLimit) c.of.result.status c.of.ensures.status nine refl)).lines t;
      front = λ r t s stands.
          front_of_answers (g.P.Station.history c.args.station.now) (g.P.Station.history c.run_script-run.new.station) (begin s c.args.moment) (lines (g.S.Source.left c.args.source.now)) c.run_script-run.new.host.lines
          (answers_at_end g.P.Station.tells (g.P.Station.history c.args.station.now) (g.P.Station.history c.open_host.new.station) (g.P.Station.history c.run_script-run.new.station) c.in-Ok.host c.run_script-run.new.host c.args.moment (lines (g.S.Source.left c.args.source.now)) c.run_script-run.result
          c.in-Ok.ensures.begins (c.in-Ok.ensures.unsaid t) (c.run_script-run.ensures.ok r) (c.run_script-run.ensures.err r) t s stands);
      counted = λ r t s stands.
          rw c.of.ensures.lines
          (answers_at_end g.P.Station.tells (g.P.Station.history c.args.station.now) (g.P.Station.history c.open_host.new.station) (g.P.Station.history c.run_script-run.new.station) c.in-Ok.host c.run_script-run.new.host c.args.moment (lines (g.S.Source.left c.args.source.now)) c.run_script-run.result
          c.in-Ok.ensures.begins (c.in-Ok.ensures.unsaid t) (c.run_script-run.ensures.ok r) (c.run_script-run.ensures.err r) t s stands);
      stands = λ r t.
          stands_ran g.P.Station.tells (g.P.Station.history c.args.station.now) (g.P.Station.history c.open_host.new.station) (g.P.Station.history c.run_script-run.new.station) c.in-Ok.host c.args.moment (lines (g.S.Source.left c.args.source.now))
          c.in-Ok.ensures.begins (c.in-Ok.ensures.unsaid t) (c.run_script-run.ensures.crash r) t;
      crash = λ r t s stands.
          crash_ran g.P.Station.tells (g.P.Station.history c.args.station.now) (g.P.Station.history c.open_host.new.station) (g.P.Station.history c.run_script-run.new.station) c.in-Ok.host c.args.moment (lines (g.S.Source.left c.args.source.now))
          c.in-Ok.ensures.begins (c.in-Ok.ensures.unsaid t) s (c.in-Ok.ensures.crash t s stands) (c.run_script-run.ensures.crash r) t stands;
      keeps = record {
        opened = λ status t. c.in-Ok.ensures.sound t;
        still = λ status t. sound_at_end (g.P.Station.history c.open_host.new.station) (g.P.Station.history c.run_script-run.new.station) (c.run_script-run.ensures.sound t);
        kept_sound = λ t sound.
            sound_ran (g.P.Station.history c.args.station.now) (g.P.Station.history c.open_host.new.station) (g.P.Station.history c.run_script-run.new.station) sound
            (c.in-Ok.ensures.pages_any_moment t) (c.run_script-run.ensures.sound t);
      };
      statuses = search rules;
    }

-- neither is a store that is open none, nor damaged, and a run over the lines names no page
pub returns-in-Ok-clause-store : goal.returns-in-Ok-clause-store
returns-in-Ok-clause-store g c =
    let six_not = script_never_6 c.run_script-run.result c.of.result.status c.of.ensures.status c.run_script-run.ensures.of_script in
    let neither = script_never c.run_script-run.result c.of.result.status c.of.ensures.status c.run_script-run.ensures.of_script in
    record {
      not_store = λ six t. absurd (six_not six);
      synced = λ six t. absurd (six_not six);
      damaged = λ seven t. absurd (script_never_7 c.run_script-run.result c.of.result.status c.of.ensures.status c.run_script-run.ensures.of_script seven);
      place = c.of.ensures.page;
      unwritten = λ unwritten t. absurd (placed_by_script c.run_script-run.result c.run_script-run.ensures.of_script (subst IsUnwritten c.of.ensures.place unwritten));
      sound = λ either t s stands. absurd (neither either);
      unsaid = λ either t. absurd (neither either);
      unopened = λ either. absurd (neither either);
      pages = λ either t. absurd (neither either);
      pages_any_moment = λ either t. absurd (neither either);
      exists = search rules;
      unchanged = search rules;
    }

pub returns-in-Ok-clause-source : goal.returns-in-Ok-clause-source
returns-in-Ok-clause-source g c = record {
  few = search rules;
  limit = search rules;
  counted_to_limit = λ nine r.
      c.of.ensures.lines
      ∙ counts_all g.P.Station.tells (g.P.Station.history c.open_host.new.station) (g.P.Station.history c.run_script-run.new.station) c.in-Ok.host c.run_script-run.new.host (ended_lines (take (2 ^ 30) (g.S.Source.left c.args.source.now)))
      c.in-Ok.ensures.begins.none
      (c.run_script-run.ensures.limit r (at_status c.run_script-run.result (Err InputLimit) c.of.result.status c.of.ensures.status nine refl)).lines;
  unopened = λ either. absurd (script_never c.run_script-run.result c.of.result.status c.of.ensures.status c.run_script-run.ensures.of_script either);
  failed = search rules;
  kept = λ zero. at_done c.run_script-run.result c.of.result.status c.of.ensures.status zero c.run_script-run.ensures.source_kept;
  later = search rules;
}

pub returns-in-Ok-clause-faults : goal.returns-in-Ok-clause-faults
returns-in-Ok-clause-faults g c = record {
  say = search rules;
  disk = search rules;
  say_kept = λ zero. at_done c.run_script-run.result c.of.result.status c.of.ensures.status zero c.run_script-run.ensures.say_kept ∙ c.in-Ok.ensures.say_quiet;
  disk_kept = λ either.
      ⊎_elim
      (λ zero. at_done c.run_script-run.result c.of.result.status c.of.ensures.status zero c.run_script-run.ensures.disk_kept)
      (λ ten. c.run_script-run.ensures.disk_spared (at_status c.run_script-run.result (Err Memory) c.of.result.status c.of.ensures.status ten refl))
      either
      ∙ c.in-Ok.ensures.disk_kept;
  say_later = search rules;
  disk_later = search rules;
}

-- ---- where it was not opened

pub returns-in-Err-clause-ends : goal.returns-in-Err-clause-ends
returns-in-Err-clause-ends g c =
    let unopened = unopened_status c.in-Err.stop c.of-in-Err.result.status c.of-in-Err.ensures.status c.in-Err.ensures.opening in
    let not_done = stops_not c.in-Err.stop c.of-in-Err.result.status c.of-in-Err.ensures.status in
    record {
      done = λ zero r t s stands. absurd (not_done zero);
      all = λ zero r. absurd (not_done zero);
      end = λ zero r. absurd (not_done zero);
      within = λ zero r. absurd (not_done zero);
      ended = search rules;
      to_limit = search rules;
      front = λ r t s stands.
          front_of_answers (g.P.Station.history c.args.station.now) (g.P.Station.history c.open_host.new.station) (begin s c.args.moment) (lines (g.S.Source.left c.args.source.now)) 0
          (counted_unopened (g.P.Station.history c.args.station.now) (g.P.Station.history c.open_host.new.station) (begin s c.args.moment) (lines (g.S.Source.left c.args.source.now)) (c.in-Err.ensures.unsaid t));
      counted = λ r t s stands.
          rw c.of-in-Err.ensures.lines
          (counted_unopened (g.P.Station.history c.args.station.now) (g.P.Station.history c.open_host.new.station) (begin s c.args.moment) (lines (g.S.Source.left c.args.source.now)) (c.in-Err.ensures.unsaid t));
      stands = λ r t s stands.
          stands_unopened (g.P.Station.history c.args.station.now) (g.P.Station.history c.open_host.new.station) s c.args.moment (lines (g.S.Source.left c.args.source.now)) (c.in-Err.ensures.keeps t s stands) (c.in-Err.ensures.unsaid t);
      crash = λ r t s stands.
          crash_opened (g.P.Station.history c.args.station.now) (g.P.Station.history c.open_host.new.station) s c.args.moment (lines (g.S.Source.left c.args.source.now)) (c.in-Err.ensures.crash t s stands);
      keeps = record {
        opened = λ status t. absurd (unopened status);
        still = λ status t. absurd (unopened status);
        kept_sound = λ t sound.
            sound_unopened (g.P.Station.history c.args.station.now) (g.P.Station.history c.open_host.new.station) sound (c.in-Err.ensures.pages t) (c.in-Err.ensures.pages_any_moment t);
      };
      statuses = search rules;
    }

pub returns-in-Err-clause-store : goal.returns-in-Err-clause-store
returns-in-Err-clause-store g c = record {
  not_store = search rules;
  synced = λ six t. c.in-Err.ensures.synced t (alone_at_status c.in-Err.stop c.of-in-Err.result.status c.of-in-Err.ensures.status six);
  damaged = search rules;
  place = c.of-in-Err.ensures.page;
  unwritten = λ unwritten t. c.in-Err.ensures.synced t (alone_at_place c.in-Err.stop (subst IsUnwritten c.of-in-Err.ensures.place unwritten));
  sound = search rules;
  unsaid = λ either t. c.in-Err.ensures.unsaid t;
  unopened = λ either. c.of-in-Err.ensures.lines;
  pages = λ either t. c.in-Err.ensures.pages t;
  pages_any_moment = λ either t. c.in-Err.ensures.pages_any_moment t;
  exists = search rules;
  unchanged = search rules;
}

pub returns-in-Err-clause-source : goal.returns-in-Err-clause-source
returns-in-Err-clause-source g c = record {
  few = λ r. takes_none (2 ^ 30 + 1) (g.S.Source.left c.args.source.now) (g.S.Source.left c.args.source.now) refl;
  limit = search rules;
  counted_to_limit = search rules;
  unopened = λ either. refl;
  failed = search rules;
  kept = λ zero. refl;
  later = search rules;
}

pub returns-in-Err-clause-faults : goal.returns-in-Err-clause-faults
returns-in-Err-clause-faults g c = record {
  say = search rules;
  disk = search rules;
  say_kept = λ zero. c.in-Err.ensures.say_quiet;
  disk_kept = λ either.
      ⊎_elim
      (λ zero. absurd (stops_not c.in-Err.stop c.of-in-Err.result.status c.of-in-Err.ensures.status zero))
      (λ ten. c.in-Err.ensures.disk_spared (ap Err (stops_by c.in-Err.stop Memory c.of-in-Err.result.status c.of-in-Err.ensures.status ten refl)))
      either;
  say_later = search rules;
  disk_later = search rules;
}
