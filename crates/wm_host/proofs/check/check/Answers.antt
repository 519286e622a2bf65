use Rattle.std.proofs.Common.{Err, refl, subst, ap, inl, inr, sym, ◌∙◌, ⊎_elim, rules}
use Rattle.std.proofs.lemmas.Result.{on_ok_weaker}
use Rattle.wm_store.specs.Opened.{HoldsAs}
use Rattle.wm_station.specs.History.{now}
use Rattle.wm_host.specs.Outcome.{HoldsSame, IsUnwritten, ok_text}
use Rattle.wm_host.specs.declared.stop.Stop.TheVariants.{SayFault, Memory}
use Rattle.wm_host.proofs.Checking.{crash_checked, crash_unchecked, front_none, now_said, placed_by_saying, saying_status, settled_said, settled_unchecked, statuses_of_opening, statuses_of_saying, unopened_either}
use Rattle.wm_host.proofs.Ending.{alone_at_place, alone_at_status, at_done, at_status, stops_by, stops_not}
use Rattle.wm_host.proofs.Making.{has_said_front, has_said_whole, holds_said}
use Rattle.wm_host.proofs.check.check.Goals as goal

-- ---- once the store is open

pub returns-in-Ok-clause-ends : goal.returns-in-Ok-clause-ends
returns-in-Ok-clause-ends g c =
    let saying = saying_status c.say_all.result c.of.result.status c.of.ensures.status c.say_all.ensures.answering in
    record {
      done = λ zero t.
          at_done c.say_all.result c.of.result.status c.of.ensures.status zero
          (on_ok_weaker c.say_all.result
          (has_said_whole (g.P.Station.history c.args.station.now) (g.P.Station.history c.open_host.new.station) (g.P.Station.history c.say_all.new.station) c.as_slice.result.now ok_text
          (c.in-Ok.ensures.unsaid t) c.as_slice.ensures)
          (c.say_all.ensures.said t));
      front = λ t.
          has_said_front g.P.Station.tells (g.P.Station.history c.args.station.now) (g.P.Station.history c.open_host.new.station) (g.P.Station.history c.say_all.new.station) c.as_slice.result.now ok_text c.say_all.result
          (c.in-Ok.ensures.unsaid t) c.as_slice.ensures (c.say_all.ensures.said t) c.say_all.ensures.part t;
      unsaid = λ five t. absurd (saying (inl five));
      opened = λ either t. c.in-Ok.ensures.sound t;
      same = λ either t.
          holds_said g.P.Station.tells (g.P.Station.history c.open_host.new.station) (g.P.Station.history c.say_all.new.station) c.as_slice.result.now (HoldsSame (now (g.P.Station.history c.args.station.now))) c.say_all.result
          (c.say_all.ensures.said t) c.say_all.ensures.part t (c.in-Ok.ensures.same t);
      pages = λ t.
          subst (HoldsAs (now (g.P.Station.history c.args.station.now)))
          (sym (now_said g.P.Station.tells (g.P.Station.history c.open_host.new.station) (g.P.Station.history c.say_all.new.station) c.as_slice.result.now c.say_all.result (c.say_all.ensures.said t) c.say_all.ensures.part t))
          (c.in-Ok.ensures.pages t);
      crash = λ t.
          crash_checked (g.P.Station.history c.args.station.now) (g.P.Station.history c.open_host.new.station) (g.P.Station.history c.say_all.new.station) c.as_slice.result.now c.as_slice.ensures (c.in-Ok.ensures.unsaid t)
          (c.in-Ok.ensures.sound t) (c.in-Ok.ensures.same t) (c.in-Ok.ensures.pages_any_moment t) (c.say_all.ensures.crash t);
      behind_sync = λ t.
          settled_said g.P.Station.tells (g.P.Station.history c.args.station.now) (g.P.Station.history c.open_host.new.station) (g.P.Station.history c.say_all.new.station) c.as_slice.result.now c.say_all.result t (c.say_all.ensures.said t) c.say_all.ensures.part (c.say_all.ensures.crash t) (c.in-Ok.ensures.settles t);
      statuses = statuses_of_saying c.say_all.result c.of.result.status c.of.ensures.status c.say_all.ensures.answering;
      lines = c.of.ensures.lines;
    }

pub returns-in-Ok-clause-store : goal.returns-in-Ok-clause-store
returns-in-Ok-clause-store g c =
    let saying = saying_status c.say_all.result c.of.result.status c.of.ensures.status c.say_all.ensures.answering in
    let among = statuses_of_saying c.say_all.result c.of.result.status c.of.ensures.status c.say_all.ensures.answering in
    record {
      not_store = λ six t. absurd (saying (inr (inl six)));
      synced = λ six t. absurd (saying (inr (inl six)));
      damaged = λ seven t. absurd (saying (inr (inr seven)));
      place = c.of.ensures.page;
      unwritten = λ unwritten t. absurd (placed_by_saying c.say_all.result c.say_all.ensures.answering (subst IsUnwritten c.of.ensures.place unwritten));
      sound = λ either t s stands. saying (inr either);
      unsaid = λ either t. absurd (saying (inr either));
      unopened = λ either. c.of.ensures.lines;
      pages = λ either t. absurd (saying (inr either));
      pages_any_moment = λ either t. absurd (saying (inr either));
      exists = search (rules, among);
      unchanged = search (rules, among);
    }

pub returns-in-Ok-clause-faults : goal.returns-in-Ok-clause-faults
returns-in-Ok-clause-faults g c = record {
  say = λ four. rw (← c.in-Ok.ensures.say_quiet) (c.say_all.ensures.failed (at_status c.say_all.result (Err SayFault) c.of.result.status c.of.ensures.status four refl));
  disk = λ five. absurd (saying_status c.say_all.result c.of.result.status c.of.ensures.status c.say_all.ensures.answering (inl five));
  say_kept = λ zero. at_done c.say_all.result c.of.result.status c.of.ensures.status zero c.say_all.ensures.kept ∙ c.in-Ok.ensures.say_quiet;
  disk_kept = λ either. c.say_all.ensures.quiet ∙ c.in-Ok.ensures.disk_kept;
  say_later = search rules;
  disk_later = search rules;
}

-- ---- where it was not opened

pub returns-in-Err-clause-ends : goal.returns-in-Err-clause-ends
returns-in-Err-clause-ends g c =
    let unopened = unopened_either c.in-Err.stop c.of-in-Err.result.status c.of-in-Err.ensures.status c.in-Err.ensures.opening in
    record {
      done = λ zero t. absurd (stops_not c.in-Err.stop c.of-in-Err.result.status c.of-in-Err.ensures.status zero);
      front = λ t. front_none (g.P.Station.history c.args.station.now) (g.P.Station.history c.open_host.new.station) (c.in-Err.ensures.unsaid t);
      unsaid = λ five t. c.in-Err.ensures.unsaid t;
      opened = λ either t. absurd (unopened either);
      same = λ either t. absurd (unopened either);
      pages = c.in-Err.ensures.pages;
      crash = λ t. crash_unchecked (g.P.Station.history c.args.station.now) (g.P.Station.history c.open_host.new.station) (c.in-Err.ensures.pages_any_moment t);
      behind_sync = λ t. settled_unchecked (g.P.Station.history c.args.station.now) (g.P.Station.history c.open_host.new.station) (c.in-Err.ensures.settles t);
      statuses = statuses_of_opening c.in-Err.stop c.of-in-Err.result.status c.of-in-Err.ensures.status c.in-Err.ensures.opening;
      lines = c.of-in-Err.ensures.lines;
    }

pub returns-in-Err-clause-store : goal.returns-in-Err-clause-store
returns-in-Err-clause-store g c =
    let among = statuses_of_opening c.in-Err.stop c.of-in-Err.result.status c.of-in-Err.ensures.status c.in-Err.ensures.opening in
    record {
      not_store = search rules;
      synced = λ six t. c.in-Err.ensures.synced t (alone_at_status c.in-Err.stop c.of-in-Err.result.status c.of-in-Err.ensures.status six);
      damaged = search rules;
      place = c.of-in-Err.ensures.page;
      unwritten = λ unwritten t. c.in-Err.ensures.synced t (alone_at_place c.in-Err.stop (subst IsUnwritten c.of-in-Err.ensures.place unwritten));
      sound = search rules;
      unsaid = λ either t. c.in-Err.ensures.unsaid t;
      unopened = λ either. c.of-in-Err.ensures.lines;
      pages = λ either t. c.in-Err.ensures.pages t;
      pages_any_moment = λ either t. c.in-Err.ensures.pages_any_moment t;
      exists = search (rules, among);
      unchanged = search (rules, among);
    }

pub returns-in-Err-clause-faults : goal.returns-in-Err-clause-faults
returns-in-Err-clause-faults g c = record {
  say = search rules;
  disk = search rules;
  say_kept = λ zero. c.in-Err.ensures.say_quiet;
  disk_kept = λ either.
      ⊎_elim
      (λ zero. absurd (stops_not c.in-Err.stop c.of-in-Err.result.status c.of-in-Err.ensures.status zero))
      (λ ten. c.in-Err.ensures.disk_spared (ap Err (stops_by c.in-Err.stop Memory c.of-in-Err.result.status c.of-in-Err.ensures.status ten refl)))
      either;
  say_later = search rules;
  disk_later = search rules;
}
