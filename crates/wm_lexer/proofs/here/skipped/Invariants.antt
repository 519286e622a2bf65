use Rattle.std.proofs.Common.{◌≡◌, drop}
use Rattle.wm_lexer.specs.Scanning.{skipped}
use Rattle.wm_lexer.proofs.here.skipped.Given as goal

abbrev pub invariant-loop-i : goal.invariant-loop-i
invariant-loop-i l = skipped l.bytes ≡ skipped (drop l.i l.bytes)
