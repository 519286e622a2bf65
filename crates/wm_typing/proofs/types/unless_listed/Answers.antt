use Rattle.std.proofs.Common.{codes, Some, ap, ◌∙◌}
use Rattle.std.specs.List.{list_all}
use Rattle.wm_spec.specs.Conditions.{may_compare}
use Rattle.wm_spec.specs.Operands.{constant_kind}
use Rattle.wm_typing.specs.Names.{unless}
use Rattle.wm_typing.proofs.types.unless_listed.Goals as goal

pub returns : goal.returns
returns c =
    c.unless.ensures
    ∙ ap (λ holds. unless holds (codes "IN"))
    (c.may_compare_all.ensures
    ∙ ap (λ list. list_all (λ constant. may_compare c.named_kind-kind.result (Some (constant_kind constant))) list) c.as_slice.ensures
    ∙ ap (λ kind. list_all (λ constant. may_compare kind (Some (constant_kind constant))) c.args.list.now) c.named_kind-kind.ensures)
