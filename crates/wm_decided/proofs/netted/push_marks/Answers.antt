use Rattle.std.proofs.Common.{List, [], ◌∷◌, ◌++◌, ◌<◌, length, map, refl, sym, ap, ◌∙◌, subst}
use Rattle.std.proofs.lemmas.List.{map-append}
use Rattle.wm_net.specs.Conflicts.{Settled}
use Rattle.wm_period.specs.declared.piece.Piece.{Piece}
use Rattle.wm_state.specs.Editing.{settled_by}
use Rattle.wm_state.specs.declared.edit.NewMark.{NewMark}
use Rattle.wm_decided.proofs.Pushed.{decision_read, mark_read, marks_more, pushed}
use Rattle.wm_decided.specs.Counted.{group_in, mark_by, place_over, places_over}
use Rattle.wm_decided.proofs.netted.push_marks.Goals as goal

pub loop-piece-preserved : goal.loop-piece-preserved
loop-piece-preserved c = λ place.
    let ds = c.args.decisions.now in
    let g = group_in c.args.key.now in
    let p = c.piece-item.result in
    let d = c.index-decisions-piece.result in
    let m : NewMark = record { table = c.args.key.now.0; key = c.in_ok-copy.field-0; period = p.period; position = c.position.result } in
    pushed (λ (xs : List Piece). map (mark_by ds place g) (places_over xs)) c.args.pieces.now c.loop-piece.piece-index p
    (map (settled_by place) c.args.marks.now.items) (map (settled_by place) c.loop-piece.marks.items) (map (settled_by place) c.push.new.self.items) (mark_by ds place g (place_over p) ∷ [])
    c.loop-piece-test.true c.piece-item.is (marks_more ds place g p)
    (ap (map (settled_by place)) c.in_ok-push.ensures.items ∙ map-append (settled_by place) c.loop-piece.marks.items (m ∷ [])
    ∙ ap (λ (x : Settled). let xs : List Settled = map (settled_by place) c.loop-piece.marks.items in xs ++ x ∷ [])
    (mark_read ds place g p d m (decision_read ds p.stamp.number d (subst (λ (x : Piece). x.stamp.number < length ds) (sym c.piece-item.is) (c.requires c.loop-piece.piece-index p c.loop-piece-test.true)) c.index-decisions-piece.is) refl c.in_ok-copy.ensures refl c.position.ensures))
    (c.loop-piece.invariant place)
