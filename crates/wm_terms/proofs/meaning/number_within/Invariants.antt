use Rattle.std.proofs.Common.{◌≡◌, ◌≤◌, drop}
use Rattle.wm_grammar.specs.Meaning.{number_of, number_from, greatest}
use Rattle.wm_terms.proofs.meaning.number_within.Given as goal

abbrev pub invariant-loop-b : goal.invariant-loop-b
invariant-loop-b l = record { same : number_of l.digits ≡ number_from l.number (drop l.b-index l.digits); small : l.number ≤ greatest }
