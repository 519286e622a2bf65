use Rattle.std.proofs.Common.{ap, ◌∙◌}
use Rattle.wm_grammar.specs.Sorts.{code_of}
use Rattle.wm_grammar.specs.Next.{next_text}
use Rattle.wm_terms.proofs.Peeking.{word_is}
use Rattle.wm_terms.proofs.cursor.Cursor.word.Goals as goal

pub returns-clause-value : goal.returns-clause-value
returns-clause-value c = word_is c.self.inside.rest.now (code_of c.self.inside.next) c.self.inside.size c.self.invariant.peeks ∙ ap next_text c.self.view_is
