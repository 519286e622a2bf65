use Rattle.std.proofs.Common.{◌≡◌, drop, map}
use Rattle.wm_grammar.specs.Symbols.{has}
use Rattle.wm_grammar.specs.Sorts.{code_of}
use Rattle.wm_terms.proofs.cursor.Cursor.is_any.Given as goal

abbrev pub invariant-loop-sort : goal.invariant-loop-sort
invariant-loop-sort l = has (map code_of l.sorts) l.next ≡ has (map code_of (drop l.sort-index l.sorts)) l.next
