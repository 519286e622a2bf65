use Rattle.std.proofs.Common.{length}
use Rattle.wm_grammar.specs.CallReaders.{arguments_at}
use Rattle.wm_call_lines.specs.Gathering.{gathered_view}
use Rattle.wm_call_lines.proofs.Arguments.{Goes}
use Rattle.wm_call_lines.proofs.calls.arguments.Given as goal

abbrev pub invariant-items : goal.invariant-items
invariant-items l = Goes l.procedure (gathered_view l.gathered) l.cursor (arguments_at l.procedure l.fn.cursor)

abbrev pub decreases-items : goal.decreases-items
decreases-items l = length l.cursor
