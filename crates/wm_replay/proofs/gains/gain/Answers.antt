use Rattle.std.proofs.Common.{◌-◌, ◌++◌, List, map, refl, subst, sym, ap, ◌∙◌}
use Rattle.wm_append.proofs.TwoLayers.{touches_apart}
use Rattle.wm_append.specs.Layers.{touch_in}
use Rattle.wm_append.specs.Redraw.{AreNewsOf, IsRedrawn}
use Rattle.wm_graph.specs.Parts.{parts_of}
use Rattle.wm_replay.proofs.Drafted.{drafts_gaining}
use Rattle.wm_replay.proofs.Marked.{marks_new}
use Rattle.wm_replay.proofs.Standing.{known, there_longer}
use Rattle.wm_spec.specs.declared.record.Record.{Record}
use Rattle.wm_spec.specs.declared.record.Record.TheVariants as records
use Rattle.wm_spec.specs.declared.record.piece.PieceRecord.{PieceRecord}
use Rattle.wm_state.specs.Editing.{entry_of}
use Rattle.wm_state.specs.Touching.{trace_at}
use Rattle.wm_replay.proofs.Priced.{gain_costs}
use Rattle.wm_replay.proofs.gains.gain.Goals as goal

pub overflow_sub-place : goal.overflow_sub-place
overflow_sub-place c = (known c.args.image.now c.args.space c.space.result c.unwrap-old.result c.requires.rules c.unwrap-old.ensures c.space.ensures).some

pub enter-requires-clause-place : goal.enter-requires-clause-place
enter-requires-clause-place c = (known c.args.image.now c.args.space c.space.result c.unwrap-old.result c.requires.rules c.unwrap-old.ensures c.space.ensures).some

pub redraw-requires-clause-apart : goal.redraw-requires-clause-apart
redraw-requires-clause-apart c = touches_apart c.args.space c.args.image.now c.requires.rules

pub redraw-requires-clause-news : goal.redraw-requires-clause-news
redraw-requires-clause-news c =
    let place = c.unwrap-old.result.now.next_place - 1 in
    let k = known c.args.image.now c.args.space c.space.result c.unwrap-old.result c.requires.rules c.unwrap-old.ensures c.space.ensures in
    subst (λ n. AreNewsOf n c.in_ok-entered.entered.marks.items) (sym c.from.ensures)
    (subst (AreNewsOf place) (sym (c.in_ok-entered.ensures.marks place k.last))
    (marks_new (parts_of c.args.image.now).tables place c.unwrap-old.result.now.log_length (map entry_of c.args.entries) c.requires.can.old.real c.requires.can.sorted))

pub written-requires-clause-there : goal.written-requires-clause-there
written-requires-clause-there c =
    let k = known c.args.image.now c.args.space c.space.result c.unwrap-old.result c.requires.rules c.unwrap-old.ensures c.space.ensures in
    there_longer c.args.image.now c.args.space c.len-count.result c.unwrap-old.result.now c.in_ok-longer.longer k.found c.in_ok-longer.ensures

pub returns-clause-drafts : goal.returns-clause-drafts
returns-clause-drafts c =
    let place = c.unwrap-old.result.now.next_place - 1 in
    let drawn = c.in_ok-touches.touches.drawn.items in
    let dropped = c.in_ok-touches.touches.dropped.items in
    let k = known c.args.image.now c.args.space c.space.result c.unwrap-old.result c.requires.rules c.unwrap-old.ensures c.space.ensures in
    drafts_gaining c.args.image.now c.args.moment c.args.work c.args.space place c.in_ok-id.id c.len-count.result c.args.entries c.unwrap-old.result.now c.in_ok-longer.longer c.counters.result c.moved-counters.result c.new-front.result c.in_ok-changes.changes drawn dropped
    c.in_ok-entered.entered.hists.items c.push_traced.new.news.items c.requires.rules c.requires.work c.requires.can k.found c.counters.ensures c.in_ok-id.ensures.above k.last c.moved-counters.ensures c.len-count.ensures
    c.in_ok-longer.ensures c.new-front.ensures
    (subst (λ (marks : List PieceRecord). IsRedrawn (touch_in c.args.space) c.args.image.now marks dropped drawn) (c.in_ok-entered.ensures.marks place k.last) c.in_ok-touches.ensures.redrawn)
    (record {
      touches = map records.Touch (map (trace_at c.args.space place) drawn);
      first = refl;
      kept = c.in_ok-entered.ensures.hists;
      behind = c.in_ok-push_traced.ensures ∙ ap (λ (rs : List Record). rs ++ map records.Touch (map (trace_at c.args.space place) drawn) ++ c.in_ok-entered.entered.hists.items) c.new-news.ensures.items;
    })
    c.in_ok-changes.ensures

pub returns-clause-costs : goal.returns-clause-costs
returns-clause-costs c =
    let place = c.unwrap-old.result.now.next_place - 1 in
    let drawn = c.in_ok-touches.touches.drawn.items in
    let dropped = c.in_ok-touches.touches.dropped.items in
    let k = known c.args.image.now c.args.space c.space.result c.unwrap-old.result c.requires.rules c.unwrap-old.ensures c.space.ensures in
    let marks = c.in_ok-entered.ensures.marks place k.last in
    gain_costs c.args.image.now c.args.space place c.in_ok-id.id c.len-count.result c.args.entries c.unwrap-old.result.now c.in_ok-longer.longer c.moved-counters.result c.new-front.result c.in_ok-changes.changes c.in_ok-entered.entered.marks.items drawn dropped
    c.in_ok-entered.entered.hists.items c.push_traced.new.news.items k.found c.in_ok-longer.ensures c.new-front.ensures marks
    (subst (λ (xs : List PieceRecord). IsRedrawn (touch_in c.args.space) c.args.image.now xs dropped drawn) marks c.in_ok-touches.ensures.redrawn) c.in_ok-touches.ensures.few
    (record {
      touches = map records.Touch (map (trace_at c.args.space place) drawn);
      first = refl;
      kept = c.in_ok-entered.ensures.hists;
      behind = c.in_ok-push_traced.ensures ∙ ap (λ (rs : List Record). rs ++ map records.Touch (map (trace_at c.args.space place) drawn) ++ c.in_ok-entered.entered.hists.items) c.new-news.ensures.items;
    })
    c.in_ok-changes.ensures
