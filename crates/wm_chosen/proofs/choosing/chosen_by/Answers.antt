use Rattle.wm_chosen.proofs.choosing.chosen_by.Goals as goal

pub returns : goal.returns
returns g c = rw (c.new-test.ensures.0, c.new-test.ensures.1) at c.chosen.ensures.chosen
