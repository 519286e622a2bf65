use Rattle.std.proofs.Common.{refl, sym, ◌∙◌}
use Rattle.std.proofs.Math.Facts.{Fits-lt-pow}
use Rattle.std.proofs.lemmas.Result.{err_from_is_err_and}
use Rattle.wm_host.specs.Loading.{is_done, is_fine, is_listing, is_refused}
use Rattle.wm_host.specs.Outcome.{load_lines}
use Rattle.wm_engine.specs.Working.{IsSound}
use Rattle.wm_station.proofs.Steps.{joined}
use Rattle.wm_host.proofs.Drawn.{few_lines, load_lines_are}
use Rattle.wm_host.proofs.Loading.{counts_more, given_line, given_none, progress_begun, progress_crash, progress_more, progress_some, progress_whole, room_for, room_in, stopped_crash, stopped_some}
use Rattle.wm_host.proofs.load.run_lines.Goals as goal

pub lines-init : goal.lines-init
lines-init g c = record {
  so_far = progress_begun g.P.Station.tells (g.P.Station.history c.args.station.now) c.args.host.now (load_lines c.args.seed c.args.count) c.new-coming.result c.none-tally.result c.requires.none c.requires.works
      (few_lines c.args.seed c.args.count (Fits-lt-pow c.ranges.count)) (load_lines_are c.args.seed c.args.count ∙ sym c.new-coming.ensures) c.none-tally.ensures;
  say_kept = refl;
  disk_kept = refl;
}

-- no memory for the next line
pub returns-in_err-next-clause-err : goal.returns-in_err-next-clause-err
returns-in_err-next-clause-err g c =
    let p = err_from_is_err_and c.from_residual.result c.from_residual.ensures.1 in
    rw p.1
    (progress_some g.P.Station.tells _ _ c.args.host.now c.lines.host (load_lines c.args.seed c.args.count) c.lines.coming c.lines.tally c.lines.invariant.so_far)

pub returns-in_err-next-clause-any_moment : goal.returns-in_err-next-clause-any_moment
returns-in_err-next-clause-any_moment g c =
    progress_crash g.P.Station.tells _ _ c.args.host.now c.lines.host (load_lines c.args.seed c.args.count) c.lines.coming c.lines.tally c.lines.invariant.so_far

pub returns-in_err-next-clause-sound : goal.returns-in_err-next-clause-sound
returns-in_err-next-clause-sound g c = c.lines.invariant.so_far.sound

-- all lines were run
pub returns-in_default-clause-ok : goal.returns-in_default-clause-ok
returns-in_default-clause-ok g c =
    progress_whole g.P.Station.tells _ _ c.args.host.now c.lines.host (load_lines c.args.seed c.args.count) c.lines.coming c.lines.tally c.lines.invariant.so_far (given_none c.lines.coming c.line.new.self c.in_ok-next.next c.in_default.is c.in_ok-next.ensures.given)

pub returns-in_default-clause-any_moment : goal.returns-in_default-clause-any_moment
returns-in_default-clause-any_moment g c =
    progress_crash g.P.Station.tells _ _ c.args.host.now c.lines.host (load_lines c.args.seed c.args.count) c.lines.coming c.lines.tally c.lines.invariant.so_far

pub returns-in_default-clause-sound : goal.returns-in_default-clause-sound
returns-in_default-clause-sound g c = c.lines.invariant.so_far.sound

-- a line
pub run_line-requires : goal.run_line-requires
run_line-requires g c = record {
  room = room_in g.P.Station.tells _ _ c.args.host.now c.lines.host (load_lines c.args.seed c.args.count) c.lines.coming c.lines.tally c.lines.invariant.so_far;
  works = c.lines.invariant.so_far.works;
}

pub returns-in_err-kind-clause-err : goal.returns-in_err-kind-clause-err
returns-in_err-kind-clause-err g c =
    let p = err_from_is_err_and c.from_residual-in_err-kind.result c.from_residual-in_err-kind.ensures.1 in
    rw p.1
    (stopped_some g.P.Station.tells _ _ _ c.args.host.now c.lines.host c.run_line.new.self (load_lines c.args.seed c.args.count) c.lines.coming c.line.new.self c.as_slice.result.now c.lines.tally
    c.lines.invariant.so_far (given_line c.lines.coming c.line.new.self c.in_ok-next.next c.in-Some.line c.as_slice.result.now c.in-Some.is c.as_slice.ensures c.in_ok-next.ensures.given) c.in_err-kind.ensures.err c.in_err-kind.ensures.any_moment)

pub returns-in_err-kind-clause-any_moment : goal.returns-in_err-kind-clause-any_moment
returns-in_err-kind-clause-any_moment g c =
    stopped_crash g.P.Station.tells _ _ _ c.args.host.now c.lines.host (load_lines c.args.seed c.args.count) c.lines.coming c.line.new.self c.as_slice.result.now c.lines.tally
    c.lines.invariant.so_far (given_line c.lines.coming c.line.new.self c.in_ok-next.next c.in-Some.line c.as_slice.result.now c.in-Some.is c.as_slice.ensures c.in_ok-next.ensures.given) c.in_err-kind.ensures.any_moment

pub returns-in_err-kind-clause-sound : goal.returns-in_err-kind-clause-sound
returns-in_err-kind-clause-sound g c = λ t. joined _ _ _ IsSound (c.lines.invariant.so_far.sound t) (c.in_err-kind.ensures.sound t)

pub lines-preserved : goal.lines-preserved
lines-preserved g c =
    let given = given_line c.lines.coming c.line.new.self c.in_ok-next.next c.in-Some.line c.as_slice.result.now c.in-Some.is c.as_slice.ensures c.in_ok-next.ensures.given in
    record {
      so_far = progress_more g.P.Station.tells _ _ _ c.args.host.now c.lines.host c.run_line.new.self (load_lines c.args.seed c.args.count) c.lines.coming c.line.new.self c.as_slice.result.now c.in_ok-kind.kind c.lines.tally c.count.new.self
          c.lines.invariant.so_far given c.in_ok-kind.ensures.ok c.in_ok-kind.ensures.any_moment c.in_ok-kind.ensures.sound
          (counts_more c.lines.tally c.count.new.self c.lines.invariant.so_far.answered c.in_ok-kind.kind c.lines.invariant.so_far.counts c.count.ensures.fine c.count.ensures.done c.count.ensures.listings c.count.ensures.refused);
      say_kept = c.in_ok-kind.ensures.say_quiet ∙ c.lines.invariant.say_kept;
      disk_kept = c.in_ok-kind.ensures.disk_kept ∙ c.lines.invariant.disk_kept;
    }

pub count-requires : goal.count-requires
count-requires g c = record {
  fine = room_for g.P.Station.tells _ _ c.args.host.now c.lines.host (load_lines c.args.seed c.args.count) c.lines.coming c.lines.tally is_fine c.lines.tally.fine c.lines.invariant.so_far c.lines.invariant.so_far.counts.fine;
  done = room_for g.P.Station.tells _ _ c.args.host.now c.lines.host (load_lines c.args.seed c.args.count) c.lines.coming c.lines.tally is_done c.lines.tally.done c.lines.invariant.so_far c.lines.invariant.so_far.counts.done;
  listings = room_for g.P.Station.tells _ _ c.args.host.now c.lines.host (load_lines c.args.seed c.args.count) c.lines.coming c.lines.tally is_listing c.lines.tally.listings c.lines.invariant.so_far c.lines.invariant.so_far.counts.listings;
  refused = room_for g.P.Station.tells _ _ c.args.host.now c.lines.host (load_lines c.args.seed c.args.count) c.lines.coming c.lines.tally is_refused c.lines.tally.refused c.lines.invariant.so_far c.lines.invariant.so_far.counts.refused;
}
