use Rattle.std.proofs.Common.{Ok, Err}
use Rattle.wm_ids.proofs.IdLists.{place_searched}
use Rattle.wm_ids.proofs.ids.place_for.Goals as goal

pub returns-in-Ok-clause-none : goal.returns-in-Ok-clause-none
returns-in-Ok-clause-none c = place_searched c.args.id c.args.ids.now (Ok c.in-Ok.field-0) c.requires c.in-Ok.ensures.position

pub returns-in-Err-clause-there : goal.returns-in-Err-clause-there
returns-in-Err-clause-there c = (place_searched c.args.id c.args.ids.now (Err c.in-Err.place) c.requires c.in-Err.ensures.position).1
