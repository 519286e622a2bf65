use Rattle.std.proofs.Common.{sym, ◌∙◌}
use Rattle.wm_graph.specs.Parts.{parts_of}
use Rattle.wm_barred.proofs.Looks.{name_none, name_some}
use Rattle.wm_barred.proofs.told.name_numbered.Goals as goal

pub returns-in-Some : goal.returns-in-Some
returns-in-Some c = rw (name_some (parts_of c.args.image.now) c.args.number c.in-Some.space.now c.in-Some.ensures) c.copy.ensures

pub returns-in-None : goal.returns-in-None
returns-in-None c = c.from_vec.ensures ∙ c.new.ensures.items ∙ sym (name_none (parts_of c.args.image.now) c.args.number c.in-None.ensures)
