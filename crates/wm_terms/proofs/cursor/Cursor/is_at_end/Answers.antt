use Rattle.std.proofs.Common.{ap, ◌∙◌}
use Rattle.wm_grammar.specs.Sorts.{code_of}
use Rattle.wm_grammar.specs.Next.{no_more}
use Rattle.wm_terms.proofs.Peeking.{end_is}
use Rattle.wm_terms.proofs.cursor.Cursor.is_at_end.Goals as goal

pub returns : goal.returns
returns c = end_is c.self.inside.rest.now (code_of c.self.inside.next) c.self.inside.size c.self.invariant.peeks ∙ ap no_more c.self.view_is
