use Rattle.std.proofs.Common.{List, ◌++◌, ◌<◌, length, map, sym, ap, ◌∙◌, subst}
use Rattle.wm_period.specs.declared.piece.Piece.{Piece}
use Rattle.wm_spec.specs.Lists.{Told}
use Rattle.wm_net.specs.Listed.{Stretch}
use Rattle.wm_state.specs.Editing.{entry_of}
use Rattle.wm_state.specs.State.{Decision}
use Rattle.wm_decided.proofs.Pushed.{decision_read, entries_more, pushed}
use Rattle.wm_decided.specs.Counted.{copies_in, copies_over, decision_in, group_in, places_over}
use Rattle.wm_decided.specs.Netted.{entry_copied}
use Rattle.wm_decided.proofs.netted.push_entries.Goals as goal

pub loop-piece-preserved : goal.loop-piece-preserved
loop-piece-preserved c =
    let ds = c.args.decisions.now in
    let p = c.piece-item.result in
    let d = c.index-decisions-piece.result in
    let entry = entry_copied c.args.moment c.args.user.now (group_in c.args.key.now) in
    pushed (λ (xs : List Piece). map entry (copies_over ds (places_over xs))) c.args.pieces.now c.loop-piece.piece-index p
    (map entry_of c.args.entries.now.items) (map entry_of c.loop-piece.entries.items) (map entry_of c.push_copies.new.entries.items)
    (map entry (copies_in p.period.from p.period.till p.stamp.number (decision_in ds p.stamp.number).copied))
    c.loop-piece-test.true c.piece-item.is (entries_more ds entry p)
    (c.in_ok-push_copies.ensures
    ∙ ap (λ (ss : List (Stretch Told)). map entry_of c.loop-piece.entries.items ++ map entry (copies_in p.period.from p.period.till p.stamp.number ss))
    (c.copied.ensures.value ∙ sym (ap (λ (x : Decision). x.copied)
    (decision_read ds p.stamp.number d (subst (λ (x : Piece). x.stamp.number < length ds) (sym c.piece-item.is) (c.requires c.loop-piece.piece-index p c.loop-piece-test.true)) c.index-decisions-piece.is))))
    c.loop-piece.invariant
