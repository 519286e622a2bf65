use Rattle.std.proofs.Common.{sym, ap, ◌∙◌}
use Rattle.std.specs.Option.{option_copied}
use Rattle.std.specs.Ordering.{nat_cmp}
use Rattle.wm_ids.specs.Rows.{one_or}
use Rattle.wm_ids.specs.Ids.{ids_in}
use Rattle.wm_ids.proofs.rows.ids_of_stamp.Goals as goal

pub returns-in-Some : goal.returns-in-Some
returns-in-Some c =
    c.from_ref.ensures.value ∙ ap (λ w. one_or w (ids_in nat_cmp c.args.rows.now.several.entries c.args.stamp)) (sym (ap option_copied c.in-Some.is) ∙ c.get.ensures)

pub returns-in-None : goal.returns-in-None
returns-in-None c =
    c.ids_of.ensures ∙ ap (λ w. one_or w (ids_in nat_cmp c.args.rows.now.several.entries c.args.stamp)) (sym (ap option_copied c.in-None.is) ∙ c.get.ensures)
