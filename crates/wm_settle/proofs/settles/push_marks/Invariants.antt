-- those that were taken are behind the others
use Rattle.std.proofs.Common.{◌≡◌, ◌++◌, map}
use Rattle.wm_spec.specs.declared.record.Record.TheVariants as records
use Rattle.wm_state.specs.Touching.{trace_at}
use Rattle.wm_settle.proofs.settles.push_marks.Given as goal

abbrev pub invariant-loop-piece : goal.invariant-loop-piece
invariant-loop-piece l = l.news.items ≡ l.initial.news.items ++ map records.Mark (map (trace_at l.space l.place) l.yielded)
