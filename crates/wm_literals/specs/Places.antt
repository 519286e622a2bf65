-- What a place in memory knows of the symbols before it.
use Rattle.wm_grammar.specs.Sorts.{code_of}
use Rattle.wm_literals.specs.declared.place.Place.{Place}
use Rattle.wm_grammar.specs.Literals.{Before}

abbrev pub before : Place → Before
before p = record { last = code_of p.last; second = code_of p.second; named = p.named; depth = p.depth; slots = p.slots.now }
