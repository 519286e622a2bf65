use Rattle.std.proofs.Common.{ap, subst, ◌∙◌}
use Rattle.wm_grammar.specs.declared.procedure.Procedure.TheVariants as procedures
use Rattle.wm_graph.specs.Parts.{parts_of}
use Rattle.wm_ground.proofs.Bridge.{if_ok}
use Rattle.wm_ground.specs.Grounds.{outline_on}
use Rattle.wm_model.specs.Step.{outcome, unlocking}
use Rattle.wm_outline.specs.Outline.{outline_by}
use Rattle.wm_locking.proofs.Unlocking.{unlocking_is, unlocking_late}
use Rattle.wm_locking.specs.Asked.{IsAsked, IsNothing, IsSite, asking_of}
use Rattle.wm_locking.specs.Freed.{unlocking_of}
use Rattle.wm_locking.proofs.unlock_rows.unlock_rows.Goals as goal

pub returns-in-Err : goal.returns-in-Err
returns-in-Err c =
    let a = asking_of procedures.UnlockRows c.args.given c.args.empty in
    let o = outline_on c.args.ground in
    let is : IsNothing c.args.ground a c.in-Err.planned = subst (IsAsked c.args.ground a) c.in-Err.is c.in_ok-site.ensures in
    is.tells (unlocking c.args.session.now a o) (unlocking_late c.args.session.now a o)

pub returns : goal.returns
returns c =
    let a = asking_of procedures.UnlockRows c.args.given c.args.empty in
    let o = outline_on c.args.ground in
    let s = c.in-Ok.site in
    let sited : IsSite c.args.ground a s = subst (IsAsked c.args.ground a) c.in-Ok.is c.in_ok-site.ensures in
    if_ok c.unlock.result _ _
    (λ p is.
    is
    ∙ ap (λ ms. outcome (unlocking_of ms o)) c.in_ok-makings.ensures
    ∙ unlocking_is c.args.session.now a o s.table.now (outline_by (parts_of c.args.ground.image.now) s.space.now)
    ∙ sited.comes (unlocking c.args.session.now a o) (unlocking_late c.args.session.now a o))
    c.unlock.ensures
