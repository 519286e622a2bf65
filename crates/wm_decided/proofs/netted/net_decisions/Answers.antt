use Rattle.std.proofs.Common.{◌<◌, ◌++◌, List, [], ◌∷◌, length, map, sym, ap, ◌∙◌, subst}
use Rattle.std.proofs.lemmas.List.{map-append, map-id}
use Rattle.std.proofs.lemmas.Map.Iter.{iter_end, iter_turn}
use Rattle.std.specs.List.{All}
use Rattle.wm_period.specs.declared.piece.Piece.{Piece}
use Rattle.wm_state.specs.Editing.{entry_of, settled_by}
use Rattle.wm_decided.proofs.Netting.{Nets, are_places, met, nets_all, nets_more}
use Rattle.wm_decided.specs.Counted.{Place, copies_over, group_in, mark_by, places_over}
use Rattle.wm_decided.specs.Netted.{entry_copied}
use Rattle.wm_decided.proofs.netted.net_decisions.Goals as goal

abbrev its : Place × List Piece → Place × List Piece
its e = e

pub push_marks-requires : goal.push_marks-requires
push_marks-requires c =
    let ds = c.args.decisions.now in
    let m = c.in_ok-items.items in
    let gives = c.into_iter-key-iterator.ensures.into_iter_gives in
    let turn = iter_turn its m.entries c.loop-key.yielded c.into_iter-key-iterator.result c.loop-key.key-iterator c.next.new.self c.next.result gives.0 c.loop-key.yielded_by (c.in-Some.key, c.in-Some.pieces) c.in-Some.is c.next.ensures.steps in
    let tells = met ds m (length c.loop-key.yielded) c.in-Some.key c.in-Some.pieces c.join_same_stamp.new.self gives.5 turn.1 c.in_ok-items.ensures.cells c.join_same_stamp.ensures.cells in
    subst (All (λ (p : Piece). p.stamp.number < length ds)) (sym c.list.ensures.value) (are_places ds (group_in c.in-Some.key) c.join_same_stamp.new.self c.list.ensures.in_order tells)

pub push_entries-requires : goal.push_entries-requires
push_entries-requires c =
    let ds = c.args.decisions.now in
    let m = c.in_ok-items.items in
    let gives = c.into_iter-key-iterator.ensures.into_iter_gives in
    let turn = iter_turn its m.entries c.loop-key.yielded c.into_iter-key-iterator.result c.loop-key.key-iterator c.next.new.self c.next.result gives.0 c.loop-key.yielded_by (c.in-Some.key, c.in-Some.pieces) c.in-Some.is c.next.ensures.steps in
    let tells = met ds m (length c.loop-key.yielded) c.in-Some.key c.in-Some.pieces c.join_same_stamp.new.self gives.5 turn.1 c.in_ok-items.ensures.cells c.join_same_stamp.ensures.cells in
    subst (All (λ (p : Piece). p.stamp.number < length ds)) (sym c.list-in-loop-key.ensures.value) (are_places ds (group_in c.in-Some.key) c.join_same_stamp.new.self c.list.ensures.in_order tells)

pub loop-key-preserved : goal.loop-key-preserved
loop-key-preserved c =
    let ds = c.args.decisions.now in
    let m = c.in_ok-items.items in
    let gives = c.into_iter-key-iterator.ensures.into_iter_gives in
    let turn = iter_turn its m.entries c.loop-key.yielded c.into_iter-key-iterator.result c.loop-key.key-iterator c.next.new.self c.next.result gives.0 c.loop-key.yielded_by (c.in-Some.key, c.in-Some.pieces) c.in-Some.is c.next.ensures.steps in
    let q = c.in-Some.key in
    let ps = c.join_same_stamp.new.self in
    let tells = met ds m (length c.loop-key.yielded) q c.in-Some.pieces ps gives.5 turn.1 c.in_ok-items.ensures.cells c.join_same_stamp.ensures.cells in
    subst (λ (qs : List Place). Nets ds c.args.moment c.args.user.now qs c.push_marks.new.marks.items c.push_entries.new.entries.items)
    (sym (map-append (λ (e : Place × List Piece). e.0) c.loop-key.yielded ((q, c.in-Some.pieces) ∷ [])))
    (nets_more ds c.args.moment c.args.user.now (map (λ (e : Place × List Piece). e.0) c.loop-key.yielded) c.loop-key.marks.items c.push_marks.new.marks.items c.loop-key.entries.items c.push_entries.new.entries.items
    q ps c.in_ok-items.ensures.sound c.loop-key.invariant c.list.ensures.in_order c.join_same_stamp.ensures.joined tells
    (λ place.
    c.in_ok-push_marks.ensures place
    ∙ ap (λ (xs : List Piece). map (settled_by place) c.loop-key.marks.items ++ map (mark_by ds place (group_in q)) (places_over xs)) c.list.ensures.value)
    (c.in_ok-push_entries.ensures
    ∙ ap (λ (xs : List Piece). map entry_of c.loop-key.entries.items ++ map (entry_copied c.args.moment c.args.user.now (group_in q)) (copies_over ds (places_over xs))) c.list-in-loop-key.ensures.value))

pub returns : goal.returns
returns c =
    let ds = c.args.decisions.now in
    let m = c.in_ok-items.items in
    let gives = c.into_iter-key-iterator.ensures.into_iter_gives in
    let all = iter_end its m.entries c.loop-key.yielded c.into_iter-key-iterator.result c.loop-key.key-iterator c.next.new.self c.next.result gives.0 c.loop-key.yielded_by c.in-None.is c.next.ensures.steps in
    let both =
    nets_all ds c.args.moment c.args.user.now m c.loop-key.marks.items c.loop-key.entries.items gives.5 c.in_ok-items.ensures.cells
    (subst (λ (es : List (Place × List Piece)). Nets ds c.args.moment c.args.user.now (map (λ e. e.0) es) c.loop-key.marks.items c.loop-key.entries.items)
    (sym (map-id c.loop-key.yielded) ∙ all.0) c.loop-key.invariant) in
    record { marks = both.0; entries = both.1 }
