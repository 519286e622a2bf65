use Rattle.std.proofs.Common.{◌≡◌, ◌++◌, ◌-◌, ℕ, List, get_or, map, refl, subst, sym, ap, ◌∙◌}
use Rattle.wm_graph.specs.Parts.{as_piece, parts_of}
use Rattle.wm_spec.specs.declared.record.Record.TheVariants as records
use Rattle.wm_spec.specs.declared.record.piece.PieceRecord.{PieceRecord}
use Rattle.wm_state.proofs.Apart.{ruled}
use Rattle.wm_state.specs.Editing.{entry_of}
use Rattle.wm_state.specs.Standing.{has_history}
use Rattle.wm_state.specs.Touching.{trace_at}
use Rattle.wm_state.specs.declared.edit.NewEntry.{NewEntry}
use Rattle.wm_append.proofs.Appended.{appends_so}
use Rattle.wm_append.proofs.News.{marks_news, pieces_news}
use Rattle.wm_append.proofs.TwoLayers.{pieces_apart, touches_apart}
use Rattle.wm_append.proofs.Written.{last_place, made_so, placed, some_place}
use Rattle.wm_append.specs.Layers.{touch_in}
use Rattle.wm_append.specs.Redraw.{AreNewsOf, IsRedrawn}
use Rattle.wm_append.proofs.append.made.draw_entries.Goals as goal

pub overflow_sub-place : goal.overflow_sub-place
overflow_sub-place c = placed c.args.space.now.next_place (some_place (parts_of c.args.image.now) c.args.space.now.number c.args.space.now c.requires.rules c.requires.there)

pub redraw-requires-clause-apart : goal.redraw-requires-clause-apart
redraw-requires-clause-apart c = pieces_apart c.args.image.now c.requires.rules

pub redraw-requires-clause-news : goal.redraw-requires-clause-news
redraw-requires-clause-news c =
    subst (AreNewsOf c.args.version) (sym c.in_ok-entered.ensures.pieces)
    (pieces_news c.args.version c.requires.can.table.number c.requires.can.counters.next_stamp (map entry_of c.args.entries) c.requires.can.stamped c.requires.can.sorted)

pub redraw-requires-2-clause-apart : goal.redraw-requires-2-clause-apart
redraw-requires-2-clause-apart c = touches_apart c.args.space.now.number c.args.image.now c.requires.rules

pub redraw-requires-2-clause-news : goal.redraw-requires-2-clause-news
redraw-requires-2-clause-news c =
    subst (λ k. AreNewsOf k c.in_ok-entered.entered.marks.items) (sym c.from.ensures)
    (subst (AreNewsOf (c.args.space.now.next_place - 1)) (sym c.in_ok-entered.ensures.marks)
    (marks_news (c.args.space.now.next_place - 1) c.args.space.now.log_length c.requires.can.table.number c.requires.can.counters.next_stamp (map entry_of c.args.entries) c.requires.can.stamped c.requires.can.sorted))

pub returns : goal.returns
returns c =
    let p = parts_of c.args.image.now in
    let r = ruled p c.requires.rules in
    let first = c.index-as_slice-0.result in
    let read = subst (λ (xs : List NewEntry). first ≡ get_or xs 0 first) c.as_slice.ensures c.index-as_slice-0.is in
    let asked = appends_so p c.args.space.now r.counters c.args.entries first c.requires.there c.requires.can r.one read in
    made_so c.args.image.now c.args.space.now c.args.version (c.args.space.now.next_place - 1) first.table r.counters.next_stamp (map entry_of c.args.entries) c.has_history.result c.in_ok-pieces.pieces.dropped.items
    c.in_ok-touches.touches.dropped.items c.extend_from_slice-extended.new.self.items c.in_ok-pieces.pieces.drawn.items c.in_ok-touches.touches.drawn.items c.in_ok-entered.entered.rows.items c.in_ok-entered.entered.hists.items c.push_pieces.new.news.items
    (c.push_pieces.new.news.items ++ map records.Touch (map (trace_at c.args.space.now.number (c.args.space.now.next_place - 1)) c.in_ok-touches.touches.drawn.items)) c.push_traced.new.news.items (last_place c.args.space.now.next_place (c.args.space.now.next_place - 1) (some_place p c.args.space.now.number c.args.space.now c.requires.rules c.requires.there) refl) asked.stamped
    (ap (λ (x : NewEntry). has_history p.tables x.table) c.index-as_slice-0.is ∙ sym c.has_history.ensures)
    (subst (λ (news : List PieceRecord). IsRedrawn as_piece c.args.image.now news c.in_ok-pieces.pieces.dropped.items c.in_ok-pieces.pieces.drawn.items) c.in_ok-entered.ensures.pieces c.in_ok-pieces.ensures.redrawn)
    (subst (λ (news : List PieceRecord). IsRedrawn (touch_in c.args.space.now.number) c.args.image.now news c.in_ok-touches.touches.dropped.items c.in_ok-touches.touches.drawn.items) c.in_ok-entered.ensures.marks c.in_ok-touches.ensures.redrawn)
    (c.in_ok-extended.ensures.items ∙ ap (λ (ids : List ℕ). c.in_ok-pieces.pieces.dropped.items ++ ids) c.as_slice-2.ensures.value) c.in_ok-entered.ensures.rows c.in_ok-entered.ensures.hists c.in_ok-push_pieces.ensures
    refl c.in_ok-push_traced.ensures
