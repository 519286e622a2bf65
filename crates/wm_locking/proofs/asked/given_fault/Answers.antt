use Rattle.std.proofs.Common.{false, sym, ap, ◌∙◌}
use Rattle.std.specs.Option.{option_copied}
use Rattle.wm_model.specs.Step.{mistyped, refusal_of, refused_for, versioning}
use Rattle.wm_locking.proofs.Sites.{unkeyed, unready, wrong_around}
use Rattle.wm_locking.specs.Asked.{asking_view}
use Rattle.wm_locking.proofs.asked.given_fault.Goals as goal

pub returns-then-not-table-clause-exact : goal.returns-then-not-table-clause-exact
returns-then-not-table-clause-exact c =
    c.into_refusal.ensures ∙ ap refusal_of (c.versioning.ensures ∙ ap (λ n. versioning n false) c.in_ok-copy.ensures) ∙ unready (asking_view c.args.asking) c.args.table.now c.if-not-table.true

pub returns-in-Some-clause-exact : goal.returns-in-Some-clause-exact
returns-in-Some-clause-exact c = unkeyed (asking_view c.args.asking) c.args.table.now c.if-not-table.false c.in-Some.name (sym c.in-Some.is ∙ c.in_ok-name.ensures)

pub returns-in-Some-2-clause-exact : goal.returns-in-Some-2-clause-exact
returns-in-Some-2-clause-exact c =
    c.into_refusal-in-Some-2.ensures
    ∙ ap refusal_of c.mistyped.ensures
    ∙ ap (refused_for mistyped) (sym c.in-Some-2.is)
    ∙ wrong_around (asking_view c.args.asking) c.args.table.now c.if-not-table.false (sym c.in_default.is ∙ c.in_ok-name.ensures) (option_copied c.in_ok-mark.mark) c.in_ok-parameter.field-0 c.in_ok-mark.ensures.exact c.in_ok-parameter.ensures

pub returns-in-None-clause-exact : goal.returns-in-None-clause-exact
returns-in-None-clause-exact c =
    ap (refused_for mistyped) (sym c.in-None.is)
    ∙ wrong_around (asking_view c.args.asking) c.args.table.now c.if-not-table.false (sym c.in_default.is ∙ c.in_ok-name.ensures) (option_copied c.in_ok-mark.mark) c.in_ok-parameter.field-0 c.in_ok-mark.ensures.exact c.in_ok-parameter.ensures
