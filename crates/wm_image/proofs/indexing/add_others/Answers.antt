use Rattle.std.proofs.Common.{◌+◌, take, sym, subst, ◌∙◌}
use Rattle.wm_image.proofs.Gaining.{others_ascend, others_more, others_still}
use Rattle.wm_image.specs.Indexing.{IsIndexOf, others}
use Rattle.wm_image.proofs.indexing.add_others.Goals.{then-not-is_piece_or_touch+in_ok-add_record, else-not-is_piece_or_touch}
use Rattle.wm_image.proofs.indexing.add_others.Goals as goal

pub add_record-requires-clause-ascend : goal.add_record-requires-clause-ascend
add_record-requires-clause-ascend c = others_ascend c.args.records.now c.loop-one.one-index c.loop-one.index c.requires.ascend c.loop-one.invariant

pub loop-one-preserved : goal.loop-one-preserved
loop-one-preserved c =
    let ss = c.args.records.now in
    let place = c.loop-one.one-index in
    let one = c.one-item.result in
    elim c.if-not-is_piece_or_touch.branch [
      | then-not-is_piece_or_touch+in_ok-add_record w ↦ subst (IsIndexOf ss (others (take (place + 1) ss))) (sym w.index-is) (
          others_more ss place one c.loop-one.index w.add_record.new.self c.requires.ascend c.loop-one-test.true c.one-item.is (sym c.is_piece_or_touch.ensures ∙ w.if-not-is_piece_or_touch.true)
          c.loop-one.invariant w.in_ok-add_record.ensures.ids w.in_ok-add_record.ensures.pieces
          )
      | else-not-is_piece_or_touch w ↦ subst (IsIndexOf ss (others (take (place + 1) ss))) (sym w.index-is) (
          others_still ss place one c.loop-one.index c.loop-one-test.true c.one-item.is (sym c.is_piece_or_touch.ensures ∙ w.if-not-is_piece_or_touch.false) c.loop-one.invariant
          )
    ]
