use Rattle.std.proofs.Common.{Some, refl, sym, ap, ◌∙◌, subst}
use Rattle.std.specs.List.Sorted.{IsStrictlySortedBy}
use Rattle.std.specs.Ordering.{nat_cmp}
use Rattle.wm_ids.proofs.RowLists.{several_told}
use Rattle.wm_ids.specs.Rows.{one_or}
use Rattle.wm_ids.specs.Ids.{ids_in, without}
use Rattle.wm_ids.specs.declared.rows.RowIds.{RowIds}
use Rattle.wm_ids.proofs.rows.drop_row.Goals as goal

pub drop_only-requires : goal.drop_only-requires
drop_only-requires c = sym c.get.ensures ∙ sym c.copied.ensures ∙ c.in-Some.is ∙ ap Some c.if-other-id.true

pub drop_from-requires : goal.drop_from-requires
drop_from-requires c =
    subst (λ w. IsStrictlySortedBy nat_cmp (one_or w (ids_in nat_cmp c.args.rows.now.several.entries c.args.stamp))) (sym c.get.ensures ∙ sym c.copied.ensures ∙ c.in-None.is) c.requires

pub returns-in-None : goal.returns-in-None
returns-in-None c =
    let new : RowIds = record { one = c.args.rows.now.one; several = c.drop_from.new.map } in
    several_told (without c.args.id) c.args.stamp c.args.rows.now new (sym c.get.ensures ∙ sym c.copied.ensures ∙ c.in-None.is) refl c.drop_from.ensures
