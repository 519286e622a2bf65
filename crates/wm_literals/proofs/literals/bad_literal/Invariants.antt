use Rattle.std.proofs.Common.{◌≡◌, ◌+◌, ◌<◌, ◌^◌, length}
use Rattle.wm_grammar.specs.Literals.{first_from, is_bad_in_line, bad_literal}
use Rattle.wm_literals.specs.Places.{before}
use Rattle.wm_literals.proofs.literals.bad_literal.Given as goal

abbrev pub invariant-symbols : goal.invariant-symbols
invariant-symbols l = record { same : bad_literal l.line ≡ first_from is_bad_in_line (before l.place) l.cursor; room : l.place.depth + length l.cursor < 2 ^ 32 }

abbrev pub decreases-symbols : goal.decreases-symbols
decreases-symbols l = length l.cursor
