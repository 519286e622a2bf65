use Rattle.std.proofs.Common.{map, sym}
use Rattle.wm_model.specs.Step.{cells_of}
use Rattle.wm_state.specs.Editing.{entry_of}
use Rattle.wm_change.proofs.ChangesWritten.{parts_moded}
use Rattle.wm_change.proofs.write_changes.parts_locked.Goals as goal

pub returns : goal.returns
returns c =
    parts_moded c.args.image.now c.args.session.now c.entry_parts.result c.space.result c.user.result.now c.in-Some.mode (map cells_of (map entry_of c.args.entries.now)) (sym c.in-Some.ensures) c.space.ensures c.user.ensures.user
    c.entry_parts.ensures
