use Rattle.wm_print.specs.Refusals.{space_text}
use Rattle.wm_print.proofs.spaces.push_space.Goals as goal

pub returns-in-Wm032 : goal.returns-in-Wm032
unfolding space_text
returns-in-Wm032 c = rw c.in-Wm032.is c.push_text_and_date.ensures

pub returns-in-Wm033 : goal.returns-in-Wm033
unfolding space_text
returns-in-Wm033 c = rw c.in-Wm033.is c.append-in-Wm033.ensures.ok

pub returns-in-Wm040 : goal.returns-in-Wm040
unfolding space_text
returns-in-Wm040 c = rw c.in-Wm040.is c.push_text_and_name.ensures

pub returns-in-Wm041 : goal.returns-in-Wm041
unfolding space_text
returns-in-Wm041 c = rw c.in-Wm041.is c.push_text-in-Wm041.ensures

pub returns-in-Wm046 : goal.returns-in-Wm046
unfolding space_text
returns-in-Wm046 c = rw c.in-Wm046.is c.push_text-in-Wm046.ensures
