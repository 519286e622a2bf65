use Rattle.std.proofs.Common.{ap, ◌∙◌, []}
use Rattle.std.proofs.Common.{◌∷◌}
use Rattle.wm_grammar.specs.Symbols.{next_in}
use Rattle.wm_grammar.specs.Sorts.{code_of}
use Rattle.wm_terms.proofs.Peeking.{next_is}
use Rattle.wm_terms.proofs.cursor.Cursor.is.Goals as goal

pub returns : goal.returns
returns c =
    rw (c.code.ensures, c.code-2.ensures) (next_is c.self.inside.rest.now (code_of c.self.inside.next) c.self.inside.size (code_of c.args.sort) c.self.invariant.peeks c.requires ∙ ap (next_in (code_of c.args.sort ∷ [])) c.self.view_is)
