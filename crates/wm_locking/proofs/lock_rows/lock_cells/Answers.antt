use Rattle.std.proofs.Common.{None, Some, map, length, sym, ◌∙◌}
use Rattle.std.proofs.lemmas.List.{length-map}
use Rattle.wm_ground.proofs.Bridge.{if_ok}
use Rattle.wm_ground.specs.Grounds.{outline_on}
use Rattle.wm_ground.specs.Outcomes.{outcome_view}
use Rattle.wm_state.specs.Drafts.{cells_locked}
use Rattle.wm_locking.proofs.LockingRows.{cells_done, cells_told, claimed}
use Rattle.wm_locking.proofs.lock_rows.lock_cells.Goals as goal

pub returns-in-Some-clause-does : goal.returns-in-Some-clause-does
returns-in-Some-clause-does c =
    let session = c.args.locking.session.now in
    let mode = c.args.locking.mode in
    let n = c.args.locking.space in
    let o = outline_on c.args.ground in
    let cells = map cells_locked c.args.cells.now in
    cells_told session mode o cells n c.in-Some.refusal (outcome_view c.refused.result)
    (claimed session mode o cells n c.user-user.result.now (Some c.in-Some.refusal) c.user-user.ensures.user (sym c.in-Some.is ∙ c.in_ok-refusal.ensures c.args.ground.sessions.now c.args.ground.moment))
    c.refused.ensures

pub returns-clause-does : goal.returns-clause-does
returns-clause-does c =
    let session = c.args.locking.session.now in
    let mode = c.args.locking.mode in
    let n = c.args.locking.space in
    let o = outline_on c.args.ground in
    let cells = map cells_locked c.args.cells.now in
    if_ok c.lock_parts.result _ _
    (λ p says.
    cells_done session mode o cells n c.user-user.result.now c.in_ok-parts.parts.items (length c.args.cells.now) (outcome_view p) c.user-user.ensures.user
    (claimed session mode o cells n c.user-user.result.now None c.user-user.ensures.user (sym c.in_default.is ∙ c.in_ok-refusal.ensures c.args.ground.sessions.now c.args.ground.moment))
    (c.in_ok-parts.ensures c.args.ground.sessions.now c.args.ground.moment) (sym (length-map c.args.cells.now cells_locked)) says)
    c.lock_parts.ensures
