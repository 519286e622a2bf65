use Rattle.std.proofs.Common.{◌≡◌, ◌++◌, drop}
use Rattle.wm_grammar.specs.Meaning.{unquoted, unquoted_from}
use Rattle.wm_terms.proofs.meaning.unquoted_bytes.Given as goal

abbrev pub invariant-bytes : goal.invariant-bytes
invariant-bytes l = unquoted l.word ≡ l.bytes.items ++ unquoted_from l.quote (drop l.b-index l.inner)
