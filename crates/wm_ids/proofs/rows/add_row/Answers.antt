use Rattle.std.proofs.Common.{sym, ◌∙◌}
use Rattle.wm_ids.proofs.rows.add_row.Goals as goal

pub add_second-requires : goal.add_second-requires
add_second-requires c = sym c.get.ensures ∙ sym c.copied.ensures ∙ c.in-Some.is

pub add_first-requires-clause-none : goal.add_first-requires-clause-none
add_first-requires-clause-none c = sym c.get.ensures ∙ sym c.copied.ensures ∙ c.in-None.is
