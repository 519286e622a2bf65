use Rattle.std.proofs.Common.{sym, ap, ◌∙◌}
use Rattle.std.specs.Option.{option_copied}
use Rattle.wm_making.proofs.Written.{nothing_found, row_stands}
use Rattle.wm_making.proofs.row.row_fault.Goals as goal

pub returns-in-None-clause-may_stand : goal.returns-in-None-clause-may_stand
returns-in-None-clause-may_stand c = λ none names xs fine made order keyed.
    row_stands c.args.table.now names xs c.args.row.now fine made
    (nothing_found c.args.table.now c.args.row.now
    (sym c.first_lacking.ensures ∙ ap (λ o. option_copied o) c.in_default.is)
    (sym c.in_ok-part.ensures ∙ c.in-None.is))
    order keyed
