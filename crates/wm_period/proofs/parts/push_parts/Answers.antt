use Rattle.std.proofs.Common.{◌∙◌, sym}
use Rattle.std.proofs.lemmas.List.{append-nil}
use Rattle.wm_period.proofs.Cells.{parts_in-more}
use Rattle.wm_period.proofs.parts.push_parts.Goals as goal
use Rattle.wm_period.proofs.parts.push_parts.Goals.{in-Some+in_ok-push, in_default}

pub loop-piece-preserved : goal.loop-piece-preserved
loop-piece-preserved c =
    elim c.match-part_in.branch [
      | in-Some+in_ok-push w ↦
          let more = parts_in-more c.args.from c.args.till _ _ _ _ _ _ c.loop-piece-test.true c.piece-item.is (sym w.in-Some.is ∙ c.part_in.ensures) c.loop-piece.invariant in
          rw (w.into-is, w.in_ok-push.ensures.items) more
      | in_default w ↦
          let more = parts_in-more c.args.from c.args.till _ _ _ _ _ _ c.loop-piece-test.true c.piece-item.is (sym w.in_default.is ∙ c.part_in.ensures) c.loop-piece.invariant in
          rw w.into-is (sym (append-nil _) ∙ more)
    ]
