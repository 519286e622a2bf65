-- those that were taken are behind the others
use Rattle.std.proofs.Common.{◌≡◌, ◌++◌, map}
use Rattle.wm_spec.specs.declared.record.Record.TheVariants as records
use Rattle.wm_append.proofs.append.made.push_pieces.Given as goal

abbrev pub invariant-loop-piece : goal.invariant-loop-piece
invariant-loop-piece l = l.news.items ≡ l.initial.news.items ++ map records.Piece l.yielded
