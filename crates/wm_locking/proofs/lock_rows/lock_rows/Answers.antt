use Rattle.std.proofs.Common.{ap, subst, ◌∙◌}
use Rattle.wm_grammar.specs.declared.procedure.Parameter.TheVariants as parameters
use Rattle.wm_grammar.specs.declared.procedure.Procedure.TheVariants as procedures
use Rattle.wm_graph.specs.Parts.{parts_of}
use Rattle.wm_ground.proofs.Bridge.{if_ok}
use Rattle.wm_ground.specs.Grounds.{outline_on}
use Rattle.wm_model.specs.Step.{locking, mode_given, outcome}
use Rattle.wm_outline.specs.Outline.{outline_by}
use Rattle.wm_locking.proofs.LockingRows.{locking_late}
use Rattle.wm_locking.proofs.Sites.{nothing_drafts, nothing_idles, nothing_seats}
use Rattle.wm_locking.specs.Asked.{IsAsked, IsSite, asking_of}
use Rattle.wm_locking.proofs.lock_rows.lock_rows.Goals as goal

pub returns-in-Err-clause-does : goal.returns-in-Err-clause-does
returns-in-Err-clause-does c = λ rows meant.
    let o = outline_on c.args.ground in
    let mode = mode_given procedures.LockRows c.args.given.args.now parameters.RowLockMode in
    (subst (IsAsked c.args.ground (asking_of procedures.LockRows c.args.given c.args.empty)) c.in-Err.is c.in_ok-site.ensures).tells (λ t x. locking c.args.session.now mode o t (rows t x) x) (locking_late c.args.session.now mode o rows)

pub returns-in-Err-clause-can : goal.returns-in-Err-clause-can
returns-in-Err-clause-can c = nothing_drafts c.args.ground (asking_of procedures.LockRows c.args.given c.args.empty) c.in-Err.planned c.args.ground.image.now c.args.ground.moment (subst (IsAsked c.args.ground (asking_of procedures.LockRows c.args.given c.args.empty)) c.in-Err.is c.in_ok-site.ensures)

pub returns-in-Err-clause-seats : goal.returns-in-Err-clause-seats
returns-in-Err-clause-seats c = nothing_seats c.args.ground (asking_of procedures.LockRows c.args.given c.args.empty) c.in-Err.planned (subst (IsAsked c.args.ground (asking_of procedures.LockRows c.args.given c.args.empty)) c.in-Err.is c.in_ok-site.ensures)

pub returns-in-Err-clause-idle : goal.returns-in-Err-clause-idle
returns-in-Err-clause-idle c = nothing_idles c.args.ground (asking_of procedures.LockRows c.args.given c.args.empty) c.in-Err.planned (subst (IsAsked c.args.ground (asking_of procedures.LockRows c.args.given c.args.empty)) c.in-Err.is c.in_ok-site.ensures)

pub returns-clause-does : goal.returns-clause-does
returns-clause-does c =
    let o = outline_on c.args.ground in
    let s = c.in-Ok.site in
    let sited : IsSite c.args.ground (asking_of procedures.LockRows c.args.given c.args.empty) s = subst (IsAsked c.args.ground (asking_of procedures.LockRows c.args.given c.args.empty)) c.in-Ok.is c.in_ok-site.ensures in
    let p = parts_of c.args.ground.image.now in
    let mode = mode_given procedures.LockRows c.args.given.args.now parameters.RowLockMode in
    if_ok c.lock_on.result _ _
    (λ planned locks rows meant.
    locks (rows s.table.now (outline_by p s.space.now)) (meant s.table.now s.space.now sited.there sited.home)
    ∙ ap (λ m. outcome (locking c.args.session.now m o s.table.now (rows s.table.now (outline_by p s.space.now)) (outline_by p s.space.now))) c.mode_given.ensures
    ∙ sited.comes (λ t x. locking c.args.session.now mode o t (rows t x) x) (locking_late c.args.session.now mode o rows))
    c.lock_on.ensures.does
