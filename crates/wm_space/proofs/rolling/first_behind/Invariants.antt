use Rattle.std.proofs.Common.{◌≡◌, drop}
use Rattle.std.specs.List.{find}
use Rattle.wm_graph.specs.Parts.{parts_of}
use Rattle.wm_model.specs.Step.{stands_behind}
use Rattle.wm_outline.specs.Outline.{outline_by}
use Rattle.wm_state.specs.Standing.{saved_fields}
use Rattle.wm_space.proofs.rolling.first_behind.Given as goal

abbrev pub invariant-loop-session : goal.invariant-loop-session
invariant-loop-session l =
    find (stands_behind (outline_by (parts_of l.ground.image.now) l.space) (saved_fields l.savepoint)) (drop l.session-index l.session-items)
    ≡ find (stands_behind (outline_by (parts_of l.ground.image.now) l.space) (saved_fields l.savepoint)) l.ground.sessions.now
