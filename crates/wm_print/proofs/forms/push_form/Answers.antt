use Rattle.wm_print.specs.Refusals.{form_text}
use Rattle.wm_print.proofs.forms.push_form.Goals as goal

pub returns-in-Wm019 : goal.returns-in-Wm019
unfolding form_text
returns-in-Wm019 c = rw c.in-Wm019.is c.push_switch.ensures
