use Rattle.std.proofs.Common.{◌≡◌, ◌++◌, drop}
use Rattle.std.specs.List.{flat_map}
use Rattle.wm_print.specs.Values.{doubled}
use Rattle.wm_print.proofs.value.push_doubled_all.Given as goal

-- what is written, and what is left to write
abbrev pub invariant-loop-byte : goal.invariant-loop-byte
invariant-loop-byte l = l.out ++ flat_map doubled (drop l.byte-index l.text) ≡ l.fn.out ++ flat_map doubled l.text
