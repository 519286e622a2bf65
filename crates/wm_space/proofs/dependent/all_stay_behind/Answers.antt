use Rattle.std.proofs.Common.{not, ap, ◌∙◌}
use Rattle.wm_graph.specs.Parts.{parts_of}
use Rattle.wm_space.proofs.Staying.{none_behind}
use Rattle.wm_space.proofs.dependent.all_stay_behind.Goals as goal

pub returns : goal.returns
returns c = ap not c.has_savepoint_behind.ensures ∙ none_behind (parts_of c.args.image.now) c.args.space.now.number c.args.savepoint.now
