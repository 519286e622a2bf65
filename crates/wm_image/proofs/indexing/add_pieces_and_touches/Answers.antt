use Rattle.std.proofs.Common.{◌≡◌, Bor, [], ◌∷◌, ◌++◌, List, length, map, reverse, sym, subst, ◌∙◌}
use Rattle.std.proofs.lemmas.Iterator.Adapters.{YieldsList-from_rev_slice}
use Rattle.std.proofs.lemmas.Iterator.Consumers.{YieldsList-end, YieldsList-so_far}
use Rattle.std.proofs.lemmas.List.{map-append}
use Rattle.wm_image.proofs.Gaining.{HasFrom, from_all, from_ascend, from_more, from_nested, from_still}
use Rattle.wm_spec.specs.declared.record.stored.Stored.{Stored}
use Rattle.wm_image.proofs.indexing.add_pieces_and_touches.Goals as goal

abbrev seen : List (Bor Stored) → List Stored
seen ys = map (λ (y : Bor Stored). y.now) ys

-- one more is seen
seen-push : (ys : List (Bor Stored)) (y : Bor Stored) → seen (ys ++ y ∷ []) ≡ seen ys ++ y.now ∷ []
seen-push ys y = map-append (λ (z : Bor Stored). z.now) ys (y ∷ [])

pub add_record-requires-clause-ascend : goal.add_record-requires-clause-ascend
add_record-requires-clause-ascend c =
    let ss = c.args.records.now in
    let so_far = YieldsList-so_far (YieldsList-from_rev_slice {s = c.into_iter-one-iterator.result} ss (cc)) c.loop-one.yielded c.loop-one.one-iterator c.loop-one.yielded_by in
    from_ascend ss (seen c.loop-one.yielded) (length c.loop-one.yielded) c.loop-one.index c.requires.ascend so_far c.loop-one.invariant

pub add_record-requires-clause-nested : goal.add_record-requires-clause-nested
add_record-requires-clause-nested c =
    let ss = c.args.records.now in
    let so_far = YieldsList-so_far (YieldsList-from_rev_slice {s = c.into_iter-one-iterator.result} ss (cc)) c.loop-one.yielded c.loop-one.one-iterator c.loop-one.yielded_by in
    from_nested ss (seen c.loop-one.yielded) (length c.loop-one.yielded) c.loop-one.index so_far c.loop-one.invariant

pub loop-one-preserved-in-Continue-1 : goal.loop-one-preserved-in-Continue-1
loop-one-preserved-in-Continue-1 c =
    let ss = c.args.records.now in
    subst (λ l. HasFrom ss (reverse l) c.add_record.new.self) (sym (seen-push c.loop-one.yielded c.in-Some.one))
    (from_more ss (seen c.loop-one.yielded) c.in-Some.one.now c.loop-one.index c.add_record.new.self c.requires.ascend (sym c.is_piece_or_touch.ensures ∙ c.if-is_piece_or_touch.true) c.loop-one.invariant
    c.in_ok-add_record.ensures.ids c.in_ok-add_record.ensures.pieces)

pub loop-one-preserved : goal.loop-one-preserved
loop-one-preserved c =
    let ss = c.args.records.now in
    subst (λ l. HasFrom ss (reverse l) c.loop-one.index) (sym (seen-push c.loop-one.yielded c.in-Some.one))
    (from_still ss (seen c.loop-one.yielded) c.in-Some.one.now c.loop-one.index (sym c.is_piece_or_touch.ensures ∙ c.if-is_piece_or_touch.false) c.loop-one.invariant)

pub returns : goal.returns
returns c =
    let ss = c.args.records.now in
    let all = YieldsList-end (YieldsList-from_rev_slice {s = c.into_iter-one-iterator.result} ss (cc)) c.loop-one.yielded c.loop-one.one-iterator c.loop-one.yielded_by c.next.result c.next.new.self c.in-None.is c.next.ensures.steps in
    from_all ss (seen c.loop-one.yielded) c.loop-one.index all.0 c.loop-one.invariant
