use Rattle.std.proofs.Common.{◌≡◌, ◌+◌, ◌<◌, ◌^◌, length}
use Rattle.std.specs.Prelude.{is_some}
use Rattle.wm_grammar.specs.Literals.{first_from, is_bad, bad_within}
use Rattle.wm_literals.specs.Places.{before}
use Rattle.wm_literals.proofs.literals.is_bad_within.Given as goal

abbrev pub invariant-symbols : goal.invariant-symbols
invariant-symbols l = record { same : bad_within l.bytes ≡ is_some (first_from is_bad (before l.place) l.cursor); room : l.place.depth + length l.cursor < 2 ^ 32 }

abbrev pub decreases-symbols : goal.decreases-symbols
decreases-symbols l = length l.cursor
