use Rattle.std.proofs.Common.{◌≡◌, length, ap, ◌∙◌, arith}
use Rattle.wm_grammar.specs.Meaning.{unquoted}
use Rattle.wm_terms.proofs.Texts.{unquoted_short}
use Rattle.wm_literals.proofs.literals.is_bad_clause.Goals as goal

pub is_bad_within-requires : goal.is_bad_within-requires
is_bad_within-requires c =
    let same : length c.as_slice.result.now ≡ length (unquoted c.word.result.now) = ap length (c.as_slice.ensures.value ∙ c.in_ok-bytes.ensures) in
    omega (arith, same, unquoted_short c.word.result.now, c.word.ensures.small)
