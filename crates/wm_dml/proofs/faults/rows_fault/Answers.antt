use Rattle.std.proofs.Common.{sym, ◌∙◌}
use Rattle.wm_dml.proofs.Changed.{may_replace}
use Rattle.wm_dml.proofs.faults.rows_fault.Goals as goal

pub returns-clause-may_replace : goal.returns-clause-may_replace
returns-clause-may_replace c = λ none sets filter olds fine made stand order keyed.
    may_replace c.args.table.now sets filter olds c.args.rows.now order keyed fine stand made (sym c.in_ok-refusal.ensures ∙ none)
