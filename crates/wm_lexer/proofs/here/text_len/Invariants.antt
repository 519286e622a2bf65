use Rattle.std.proofs.Common.{◌≡◌, false, drop}
use Rattle.wm_lexer.specs.Scanning.{plus, text_rest}
use Rattle.wm_lexer.proofs.here.text_len.Given as goal

abbrev pub invariant-loop-i : goal.invariant-loop-i
invariant-loop-i l = text_rest false l.bytes ≡ plus l.i (text_rest l.quote (drop l.i l.bytes))
