use Rattle.std.proofs.Common.{ap, ◌∙◌}
use Rattle.wm_grammar.specs.Symbols.{left_of}
use Rattle.wm_terms.proofs.Peeking.{left_is}
use Rattle.wm_terms.proofs.cursor.Cursor.left.Goals as goal

pub returns : goal.returns
returns c = left_is c.self.inside.rest.now ∙ ap left_of c.self.view_is
