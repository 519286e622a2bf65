use Rattle.wm_print.specs.Refusals.{cell_text}
use Rattle.wm_print.proofs.cells.push_cell.Goals as goal

pub returns-in-Wm051 : goal.returns-in-Wm051
unfolding cell_text
returns-in-Wm051 c = rw c.in-Wm051.is c.push_conflict.ensures

pub returns-in-Wm052 : goal.returns-in-Wm052
unfolding cell_text
returns-in-Wm052 c = rw c.in-Wm052.is c.push_text_and_name.ensures

pub returns-in-Wm053 : goal.returns-in-Wm053
unfolding cell_text
returns-in-Wm053 c = rw c.in-Wm053.is c.push_text.ensures

pub returns-in-Wm065 : goal.returns-in-Wm065
unfolding cell_text
returns-in-Wm065 c = rw c.in-Wm065.is c.push_numbered.ensures
