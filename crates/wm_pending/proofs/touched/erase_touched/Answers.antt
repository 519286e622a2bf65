use Rattle.std.proofs.Common.{ℕ, List, not, ◌&&◌, is_some, sym, ap, ◌∙◌, arith}
use Rattle.std.proofs.lemmas.List.{drop_all}
use Rattle.std.proofs.Math.Bool.{and-true}
use Rattle.wm_graph.specs.Parts.{as_touch}
use Rattle.wm_period.specs.Pieces.{held_at}
use Rattle.wm_pending.proofs.Touching.{any_at, cells_touched, covers_at}
use Rattle.wm_pending.proofs.touched.erase_touched.Goals as goal

pub returns : goal.returns
returns c = λ t less.
    let items = c.touches_of-id-items.result.now in
    let s = c.args.since in
    let ss = c.args.image.now in
    sym (and-true (is_some (held_at c.loop-id.pieces t)))
    ∙ ap (λ (l : List ℕ). is_some (held_at c.loop-id.pieces t) && not (any_at as_touch (covers_at s t) ss l)) (sym (drop_all c.loop-id.id-index items (omega (arith, c.loop-id-test.false))))
    ∙ c.loop-id.invariant t less
    ∙ ap (λ (l : List ℕ). is_some (held_at c.args.pieces.now t) && not (any_at as_touch (covers_at s t) ss l)) c.touches_of-id-items.ensures
    ∙ ap (λ b. is_some (held_at c.args.pieces.now t) && not b) (cells_touched s c.args.table c.args.key.now t ss c.law_of_order.ensures)
