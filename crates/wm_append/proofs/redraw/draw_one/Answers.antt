use Rattle.std.proofs.Common.{List, sym, ap, ◌∙◌}
use Rattle.wm_spec.specs.declared.record.piece.PieceRecord.{PieceRecord}
use Rattle.wm_append.proofs.DraftLaws.{begun_few, draft_few, draft_laid}
use Rattle.wm_append.proofs.Redrawing.{draft_on, draft_begun}
use Rattle.wm_append.specs.Layers.{view_of}
use Rattle.wm_append.specs.Redraw.{is_at_hand}
use Rattle.wm_append.proofs.redraw.draw_one.Goals as goal

pub returns-then-is_at_hand-clause-draft : goal.returns-then-is_at_hand-clause-draft
returns-then-is_at_hand-clause-draft c =
    let old = c.args.draft in
    let ss = c.args.image.now in
    draft_laid (view_of c.args.layer) ss c.args.version old old c.args.new c.lay.result
    (λ news so. draft_on (view_of c.args.layer) ss c.args.version news old.dropped.items old.left.items old.finished.items old.hand.items c.args.new c.requires.sorted c.requires.apart c.requires.here c.requires.lasts
    (ap (λ (xs : List PieceRecord). is_at_hand xs c.args.new.cells) (sym c.as_slice.ensures.value) ∙ sym c.if-is_at_hand.ensures) so)
    c.lay.ensures.dropped c.lay.ensures.left c.lay.ensures.finished c.lay.ensures.hand

pub returns-clause-draft : goal.returns-clause-draft
returns-clause-draft c =
    let old = c.args.draft in
    let mid = c.in_ok-begun.begun in
    let ss = c.args.image.now in
    draft_laid (view_of c.args.layer) ss c.args.version old mid c.args.new c.lay-2.result
    (λ news so. draft_begun (view_of c.args.layer) ss c.args.version news old.dropped.items old.left.items old.finished.items old.hand.items mid.dropped.items mid.left.items mid.finished.items mid.hand.items c.args.new
    c.requires.sorted c.requires.apart c.requires.here c.requires.lasts
    (ap (λ (xs : List PieceRecord). is_at_hand xs c.args.new.cells) (sym c.as_slice.ensures.value) ∙ sym c.if-is_at_hand.ensures) c.requires.keys c.in_ok-begun.ensures.dropped c.in_ok-begun.ensures.left
    c.in_ok-begun.ensures.finished c.in_ok-begun.ensures.hand so)
    c.lay-2.ensures.dropped c.lay-2.ensures.left c.lay-2.ensures.finished c.lay-2.ensures.hand

pub returns-then-is_at_hand-clause-few : goal.returns-then-is_at_hand-clause-few
returns-then-is_at_hand-clause-few c =
    let old = c.args.draft in
    let ss = c.args.image.now in
    draft_few (view_of c.args.layer) ss c.args.version old old c.args.new c.lay.result
    (λ news so. draft_on (view_of c.args.layer) ss c.args.version news old.dropped.items old.left.items old.finished.items old.hand.items c.args.new c.requires.sorted c.requires.apart c.requires.here c.requires.lasts
    (ap (λ (xs : List PieceRecord). is_at_hand xs c.args.new.cells) (sym c.as_slice.ensures.value) ∙ sym c.if-is_at_hand.ensures) so)
    (λ news few. few) c.lay.ensures.dropped c.lay.ensures.finished c.lay.ensures.hand

pub returns-clause-few : goal.returns-clause-few
returns-clause-few c =
    let old = c.args.draft in
    let mid = c.in_ok-begun.begun in
    let ss = c.args.image.now in
    draft_few (view_of c.args.layer) ss c.args.version old mid c.args.new c.lay-2.result
    (λ news so. draft_begun (view_of c.args.layer) ss c.args.version news old.dropped.items old.left.items old.finished.items old.hand.items mid.dropped.items mid.left.items mid.finished.items mid.hand.items c.args.new
    c.requires.sorted c.requires.apart c.requires.here c.requires.lasts
    (ap (λ (xs : List PieceRecord). is_at_hand xs c.args.new.cells) (sym c.as_slice.ensures.value) ∙ sym c.if-is_at_hand.ensures) c.requires.keys c.in_ok-begun.ensures.dropped c.in_ok-begun.ensures.left
    c.in_ok-begun.ensures.finished c.in_ok-begun.ensures.hand so)
    (begun_few old mid c.in_ok-begun.ensures.dropped c.in_ok-begun.ensures.finished c.in_ok-begun.ensures.hand) c.lay-2.ensures.dropped c.lay-2.ensures.finished c.lay-2.ensures.hand
