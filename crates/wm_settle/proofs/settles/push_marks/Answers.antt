use Rattle.std.proofs.Common.{◌++◌, List, [], ◌∷◌, map, sym, ap, ◌∙◌}
use Rattle.std.proofs.lemmas.List.{map-append}
use Rattle.wm_changes.proofs.Putting.{one_behind}
use Rattle.wm_spec.specs.declared.record.Record.TheVariants as records
use Rattle.wm_spec.specs.declared.record.trace.Trace.{Trace}
use Rattle.wm_state.specs.Touching.{trace_at}
use Rattle.wm_settle.proofs.settles.push_marks.Goals as goal

pub loop-piece-preserved : goal.loop-piece-preserved
loop-piece-preserved c =
    let as_mark = trace_at c.args.space c.args.place in
    one_behind records.Mark c.args.news.now.items (map as_mark c.loop-piece.yielded) (as_mark c.in-Some.piece) c.loop-piece.news.items c.push.new.self.items c.loop-piece.invariant c.in_ok-push.ensures.items
    ∙ ap (λ (ts : List Trace). c.args.news.now.items ++ map records.Mark ts) (sym (map-append as_mark c.loop-piece.yielded (c.in-Some.piece ∷ [])))
