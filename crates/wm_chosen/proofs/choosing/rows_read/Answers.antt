use Rattle.wm_chosen.proofs.ChosenRows.{all_fit, all_are}
use Rattle.wm_chosen.proofs.KeyRows.{key_fit, key_are}
use Rattle.wm_chosen.proofs.choosing.rows_read.Goals as goal

pub returns-in-Some : goal.returns-in-Some
returns-in-Some c = record {
  fitting = key_fit c.showing_of_key.result c.args.image.now c.args.version c.args.table.now c.args.within.now c.in-Some.key c.requires.rules c.requires.there c.showing_of_key.ensures;
  chosen = key_are c.showing_of_key.result c.args.image.now c.args.version c.args.table.now c.args.within.now c.args.key c.in-Some.key c.in-Some.is c.requires.rules c.requires.there c.showing_of_key.ensures;
}

pub returns-in-None : goal.returns-in-None
returns-in-None c = record {
  fitting = all_fit c.showing.result c.args.image.now c.args.version c.args.table.now c.args.within.now c.requires.rules c.requires.there c.showing.ensures;
  chosen = all_are c.showing.result c.args.image.now c.args.version c.args.table.now c.args.within.now c.args.key c.showing.ensures;
}
