use Rattle.std.proofs.Common.{sym, ◌∙◌}
use Rattle.wm_syntax.specs.Views.{exprs_view}
use Rattle.wm_making.proofs.Given.{given_written, given_plain, others_last}
use Rattle.wm_making.proofs.insert.insert_fault.Goals as goal

pub returns-clause-period : goal.returns-clause-period
returns-clause-period c = λ none. given_written c.args.table.now c.args.names.now (exprs_view c.args.values.now) (sym c.in_ok-refusal.ensures ∙ none)

pub returns-clause-plain : goal.returns-clause-plain
returns-clause-plain c = λ none plain. given_plain c.args.table.now c.args.names.now (exprs_view c.args.values.now) (sym c.in_ok-refusal.ensures ∙ none) plain

pub returns-clause-periods : goal.returns-clause-periods
returns-clause-periods c = λ none nothing. others_last c.args.table.now c.args.names.now (exprs_view c.args.values.now) (sym c.in_ok-refusal.ensures ∙ none) nothing
