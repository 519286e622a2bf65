use Rattle.std.proofs.Common.{refl, sym, ◌∙◌, subst}
use Rattle.std.proofs.lemmas.Bool.{eqb-true}
use Rattle.std.proofs.lemmas.List.{nil_from_length}
use Rattle.std.proofs.lemmas.Result.{on_ok_weaker}
use Rattle.std.specs.List.Sorted.{IsStrictlySortedBy}
use Rattle.std.specs.Ordering.{nat_cmp}
use Rattle.wm_ids.proofs.RowLists.{first_told, several_told}
use Rattle.wm_ids.specs.Rows.{one_or}
use Rattle.wm_ids.specs.Ids.{ids_in, placed}
use Rattle.wm_ids.specs.declared.rows.RowIds.{RowIds}
use Rattle.wm_ids.proofs.rows.add_first.Goals as goal

pub add_to-requires : goal.add_to-requires
add_to-requires c = subst (λ w. IsStrictlySortedBy nat_cmp (one_or w (ids_in nat_cmp c.args.rows.now.several.entries c.args.stamp))) c.requires.none c.requires.ascend

pub returns-then-not-is_empty : goal.returns-then-not-is_empty
returns-then-not-is_empty c =
    let new : RowIds = record { one = c.args.rows.now.one; several = c.add_to.new.map } in
    on_ok_weaker c.add_to.result (several_told (placed c.args.id) c.args.stamp c.args.rows.now new c.requires.none refl) c.add_to.ensures

pub returns : goal.returns
returns c =
    let new : RowIds = record { one = c.insert.new.self; several = c.args.rows.now.several } in
    first_told c.args.id c.args.stamp c.args.rows.now new c.requires.none
    (sym c.ids_of.ensures ∙ nil_from_length c.ids_of.result.now (eqb-true _ 0 (sym c.is_empty.ensures ∙ c.if-not-is_empty.false))) c.in_ok-insert.ensures.sets refl
