use Rattle.std.proofs.Common.{◌≡◌, drop}
use Rattle.wm_grammar.specs.Calls.{is_among}
use Rattle.wm_calls.proofs.places.is_among.Given as goal

abbrev pub invariant-loop-one : goal.invariant-loop-one
invariant-loop-one l = is_among l.parameters l.parameter ≡ is_among (drop l.one-index l.parameters) l.parameter
