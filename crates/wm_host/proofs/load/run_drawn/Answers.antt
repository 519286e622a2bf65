use Rattle.std.proofs.Common.{inl, inr}
use Rattle.std.proofs.lemmas.Result.{on_ok_weaker}
use Rattle.wm_host.specs.Outcome.{load_lines}
use Rattle.wm_host.proofs.Causes.{not_of_disk}
use Rattle.wm_host.proofs.Loads.{crash_counts, crash_unsaid, loaded, loads_all, loads_said, loads_unsaid, sound_counts}
use Rattle.wm_host.proofs.Sounding.{sound_line}
use Rattle.wm_host.proofs.load.run_drawn.Goals as goal

-- not all lines were run
pub returns-in_err-tally-clause-some : goal.returns-in_err-tally-clause-some
returns-in_err-tally-clause-some g c = λ t s for.
    loads_unsaid (g.P.Station.history c.args.station.now) (g.P.Station.history c.run_lines.new.station) s (load_lines c.args.seed c.args.count) c.run_lines.new.host.lines
    c.in_err-tally.ensures.err.within (c.in_err-tally.ensures.sound t).quiet (c.in_err-tally.ensures.err.each t s for)

pub returns-in_err-tally-clause-silent : goal.returns-in_err-tally-clause-silent
returns-in_err-tally-clause-silent g c = λ t. inl (c.in_err-tally.ensures.sound t).quiet

pub returns-in_err-tally-clause-unsaid : goal.returns-in_err-tally-clause-unsaid
returns-in_err-tally-clause-unsaid g c = λ t disk. (c.in_err-tally.ensures.sound t).quiet

pub returns-in_err-tally-clause-crash : goal.returns-in_err-tally-clause-crash
returns-in_err-tally-clause-crash g c = λ t s for.
    crash_unsaid (g.P.Station.history c.args.station.now) (g.P.Station.history c.run_lines.new.station) s (load_lines c.args.seed c.args.count) (c.in_err-tally.ensures.any_moment t s for)

pub returns-in_err-tally-clause-sound : goal.returns-in_err-tally-clause-sound
returns-in_err-tally-clause-sound g c = λ t. sound_line _ _ (c.in_err-tally.ensures.sound t)

-- no memory for the text
pub returns-in_err-text-clause-some : goal.returns-in_err-text-clause-some
returns-in_err-text-clause-some g c = λ t s for.
    loads_all g.P.Station.tells (g.P.Station.history c.args.station.now) (g.P.Station.history c.run_lines.new.station) c.args.host.now c.run_lines.new.host (load_lines c.args.seed c.args.count) c.in_ok-tally.tally
    c.in_ok-tally.ensures.ok (c.in_ok-tally.ensures.sound t).quiet t s for

pub returns-in_err-text-clause-silent : goal.returns-in_err-text-clause-silent
returns-in_err-text-clause-silent g c = λ t. inl (c.in_ok-tally.ensures.sound t).quiet

pub returns-in_err-text-clause-unsaid : goal.returns-in_err-text-clause-unsaid
returns-in_err-text-clause-unsaid g c = λ t disk. (c.in_ok-tally.ensures.sound t).quiet

pub returns-in_err-text-clause-crash : goal.returns-in_err-text-clause-crash
returns-in_err-text-clause-crash g c = λ t s for.
    crash_unsaid (g.P.Station.history c.args.station.now) (g.P.Station.history c.run_lines.new.station) s (load_lines c.args.seed c.args.count) (c.in_ok-tally.ensures.any_moment t s for)

pub returns-in_err-text-clause-sound : goal.returns-in_err-text-clause-sound
returns-in_err-text-clause-sound g c = λ t. sound_line _ _ (c.in_ok-tally.ensures.sound t)

-- the counts are said
pub returns-clause-ok : goal.returns-clause-ok
returns-clause-ok g c = λ t.
    loaded g.P.Station.tells (g.P.Station.history c.args.station.now) (g.P.Station.history c.run_lines.new.station) (g.P.Station.history c.say_all.new.station) c.args.host.now c.run_lines.new.host (load_lines c.args.seed c.args.count)
    c.in_ok-tally.tally c.in_ok-text.text c.as_slice.result.now c.say_all.result c.in_ok-tally.ensures.ok (c.in_ok-tally.ensures.sound t).quiet c.in_ok-text.ensures c.as_slice.ensures (c.say_all.ensures.said t) t

pub returns-clause-all : goal.returns-clause-all
returns-clause-all g c = on_ok_weaker c.say_all.result (λ kept. c.in_ok-tally.ensures.ok.all) c.say_all.ensures.kept

pub returns-clause-some : goal.returns-clause-some
returns-clause-some g c = λ t s for.
    loads_said g.P.Station.tells (g.P.Station.history c.args.station.now) (g.P.Station.history c.run_lines.new.station) (g.P.Station.history c.say_all.new.station) c.args.host.now c.run_lines.new.host (load_lines c.args.seed c.args.count)
    c.in_ok-tally.tally c.in_ok-text.text c.as_slice.result.now c.say_all.result c.in_ok-tally.ensures.ok (c.in_ok-tally.ensures.sound t).quiet c.in_ok-text.ensures c.as_slice.ensures c.say_all.ensures.part t (c.say_all.ensures.said t) s for

pub returns-clause-silent : goal.returns-clause-silent
returns-clause-silent g c = λ t. inr c.in_ok-tally.ensures.ok.all

pub returns-clause-unsaid : goal.returns-clause-unsaid
returns-clause-unsaid g c = λ t disk. absurd (not_of_disk c.say_all.result c.say_all.ensures.answering disk)

pub returns-clause-crash : goal.returns-clause-crash
returns-clause-crash g c = λ t s for.
    crash_counts g.P.Station.tells (g.P.Station.history c.args.station.now) (g.P.Station.history c.run_lines.new.station) (g.P.Station.history c.say_all.new.station) c.args.host.now c.run_lines.new.host (load_lines c.args.seed c.args.count)
    c.in_ok-tally.tally c.in_ok-text.text c.as_slice.result.now c.in_ok-tally.ensures.ok c.in_ok-text.ensures c.as_slice.ensures t (c.say_all.ensures.crash t) s for (c.in_ok-tally.ensures.any_moment t s for)

pub returns-clause-sound : goal.returns-clause-sound
returns-clause-sound g c = λ t.
    sound_counts g.P.Station.tells c.run_lines.new.host.engine (g.P.Station.history c.args.station.now) (g.P.Station.history c.run_lines.new.station) (g.P.Station.history c.say_all.new.station) c.as_slice.result.now c.say_all.result
    t (c.in_ok-tally.ensures.sound t) (c.in_ok-tally.ensures.ok.works t) (c.say_all.ensures.crash t) (c.say_all.ensures.said t) c.say_all.ensures.part
