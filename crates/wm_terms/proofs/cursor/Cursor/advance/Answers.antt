use Rattle.std.proofs.Common.{ap, ◌∙◌}
use Rattle.wm_grammar.specs.Scanned.{scanned}
use Rattle.wm_grammar.specs.Sorts.{code_of}
use Rattle.wm_grammar.specs.Next.{behind}
use Rattle.wm_terms.proofs.Peeking.{behind_is}
use Rattle.wm_terms.proofs.cursor.Cursor.advance.Goals as goal

pub returns : goal.returns
returns c =
    ap scanned c.skipped_behind-self-inside.ensures.value ∙ behind_is c.self.inside.rest.now (code_of c.self.inside.next) c.self.inside.size c.self.invariant.peeks ∙ ap behind c.self.view_is
