use Rattle.std.proofs.Common.{Ok, Err}
use Rattle.wm_ids.proofs.IdLists.{found_searched}
use Rattle.wm_ids.proofs.ids.find_place.Goals as goal

pub returns-in-Ok-clause-there : goal.returns-in-Ok-clause-there
returns-in-Ok-clause-there c = (found_searched c.args.id c.args.ids.now (Ok c.in-Ok.place) c.requires c.in-Ok.ensures.position).1

pub returns-in-Err-clause-none : goal.returns-in-Err-clause-none
returns-in-Err-clause-none c = found_searched c.args.id c.args.ids.now (Err c.in-Err.field-0) c.requires c.in-Err.ensures.position
