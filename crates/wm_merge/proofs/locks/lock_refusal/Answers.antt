use Rattle.std.proofs.Common.{ℕ, List, [], Some, map, ap, ◌∙◌}
use Rattle.std.proofs.lemmas.Result.{IfOk-weaker}
use Rattle.wm_graph.specs.Parts.{parts_of}
use Rattle.wm_model.specs.Step.{cells_of, lock_fault}
use Rattle.wm_outline.specs.Outline.{outline_of}
use Rattle.wm_state.specs.Editing.{entry_of}
use Rattle.wm_merge.proofs.locks.lock_refusal.Goals as goal

pub returns : goal.returns
returns c =
    IfOk-weaker c.entries_fault.result _ _
    (λ fault told.
    told [] 0
    ∙ ap (λ (user : List ℕ). lock_fault (outline_of (parts_of c.args.image.now) [] 0) (record { space = c.args.parent.now.number; user = user; except = Some c.args.space.now.number }) (map cells_of (map entry_of c.args.own.now))) c.user.ensures.user)
    c.entries_fault.ensures
