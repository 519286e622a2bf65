use Rattle.std.proofs.Common.{ap, ◌∙◌}
use Rattle.wm_grammar.specs.Sorts.{code_of}
use Rattle.wm_grammar.specs.Next.{next_sort}
use Rattle.wm_terms.proofs.Peeking.{sort_is}
use Rattle.wm_terms.proofs.cursor.Cursor.sort.Goals as goal

pub returns : goal.returns
returns c = sort_is c.self.inside.rest.now (code_of c.self.inside.next) c.self.inside.size c.self.invariant.peeks ∙ ap next_sort c.self.view_is
