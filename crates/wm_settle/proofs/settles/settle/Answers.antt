use Rattle.std.proofs.Common.{◌≡◌, ◌-◌, ◌++◌, Some, List, map, refl, subst, sym, ap, ◌∙◌}
use Rattle.wm_graph.specs.Parts.{parts_of, space_of}
use Rattle.wm_spec.specs.declared.record.Record.{Record}
use Rattle.wm_spec.specs.declared.record.Record.TheVariants as records
use Rattle.wm_spec.specs.declared.record.piece.PieceRecord.{PieceRecord}
use Rattle.wm_state.specs.Touching.{trace_at}
use Rattle.wm_append.proofs.Written.{last_place, placed, some_place}
use Rattle.wm_append.specs.Layers.{mark_in}
use Rattle.wm_append.specs.Redraw.{AreNewsOf, IsRedrawn}
use Rattle.wm_changes.proofs.Placed.{looked_up}
use Rattle.wm_settle.proofs.Drafted.{drafts_settling}
use Rattle.wm_settle.proofs.Found.{marks_apart}
use Rattle.wm_settle.proofs.Ordered.{left_news}
use Rattle.wm_settle.proofs.settles.settle.Goals as goal

pub overflow_sub-place : goal.overflow_sub-place
overflow_sub-place c =
    let p = parts_of c.args.image.now in
    let a = c.unwrap-found.result.now in
    placed a.next_place (some_place p c.args.space a c.requires.rules (looked_up c.space.result c.unwrap-found.result (space_of p.spaces c.args.space) c.unwrap-found.ensures c.space.ensures))

pub redraw-requires-clause-apart : goal.redraw-requires-clause-apart
redraw-requires-clause-apart c = marks_apart c.args.space c.args.image.now c.requires.rules

pub redraw-requires-clause-news : goal.redraw-requires-clause-news
redraw-requires-clause-news c =
    let place = c.unwrap-found.result.now.next_place - 1 in
    subst (λ n. AreNewsOf n c.in_ok-left.left.items) (sym c.from.ensures)
    (subst (AreNewsOf place) (sym c.in_ok-left.ensures) (left_news c.args.image.now c.law_of_order.ensures c.args.space place c.args.marks c.requires.can.cells c.requires.can.sorted c.requires.can.apart))

pub returns-clause-drafts : goal.returns-clause-drafts
returns-clause-drafts c =
    let rs = c.args.image.now in
    let p = parts_of rs in
    let a = c.unwrap-found.result.now in
    let place = a.next_place - 1 in
    let drawn = c.in_ok-drawn.drawn.drawn.items in
    let dropped = c.in_ok-drawn.drawn.dropped.items in
    let found : space_of p.spaces c.args.space ≡ Some a = looked_up c.space.result c.unwrap-found.result (space_of p.spaces c.args.space) c.unwrap-found.ensures c.space.ensures in
    drafts_settling rs c.args.moment c.args.work c.args.space place c.in_ok-id.id c.args.marks a c.counters.result c.moved-counters.result c.in_ok-changes.changes drawn dropped c.push_marks.new.news.items c.requires.rules c.requires.work c.requires.can
    found c.counters.ensures c.in_ok-id.ensures.above (last_place a.next_place place (some_place p c.args.space a c.requires.rules found) refl) c.moved-counters.ensures
    (subst (λ (xs : List PieceRecord). IsRedrawn (mark_in c.args.space) rs xs dropped drawn) c.in_ok-left.ensures c.in_ok-drawn.ensures.redrawn)
    (c.in_ok-push_marks.ensures ∙ ap (λ (xs : List Record). xs ++ map records.Mark (map (trace_at c.args.space place) drawn)) c.new-news.ensures.items) c.in_ok-changes.ensures
