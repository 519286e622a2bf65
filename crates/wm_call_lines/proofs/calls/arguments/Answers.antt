use Rattle.wm_grammar.specs.CallReaders.{arguments_at}
use Rattle.wm_call_lines.specs.Gathering.{gathered_view}
use Rattle.wm_call_lines.proofs.Arguments.{args_less, args_on}
use Rattle.wm_call_lines.proofs.calls.arguments.Goals as goal

pub items-smaller : goal.items-smaller
items-smaller c = args_less c.args.procedure (gathered_view c.items.gathered) (gathered_view c.gather.new.gathered) c.items.cursor c.gather.new.cursor c.in-Ok.ensures

pub items-preserved : goal.items-preserved
items-preserved c =
    args_on c.args.procedure (gathered_view c.items.gathered) (gathered_view c.gather.new.gathered) c.items.cursor c.gather.new.cursor (arguments_at c.args.procedure c.args.cursor.now) c.items-test.ensures c.in-Ok.ensures c.items.invariant
