use Rattle.std.proofs.Common.{sym, ◌∙◌}
use Rattle.wm_index.proofs.Listed.{record_at-listed}
use Rattle.wm_index.proofs.records.at.Goals as goal

pub returns : goal.returns
returns c = c.get.ensures ∙ sym (record_at-listed c.args.kept.now.entries c.args.id)
