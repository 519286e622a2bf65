use Rattle.std.proofs.Common.{ap, ◌∙◌}
use Rattle.wm_graph.specs.Parts.{parts_of}
use Rattle.wm_graph.specs.Rules.{keep_rules}
use Rattle.wm_rules.proofs.keeps.keeps_rules.Goals as goal

pub returns : goal.returns
returns c = c.in_ok-kept.ensures ∙ ap keep_rules (c.in_ok-kinds.ensures ∙ ap parts_of c.as_slice.ensures)
