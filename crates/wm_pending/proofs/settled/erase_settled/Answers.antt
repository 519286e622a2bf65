use Rattle.std.proofs.Common.{ℕ, List, not, ◌&&◌, is_some, sym, ap, ◌∙◌, arith}
use Rattle.std.proofs.lemmas.List.{drop_all}
use Rattle.std.proofs.Math.Bool.{and-true}
use Rattle.wm_graph.specs.Parts.{as_mark, parts_of}
use Rattle.wm_net.specs.Groups.{cell}
use Rattle.wm_period.specs.Pieces.{held_at}
use Rattle.wm_pending.proofs.Touching.{any_at, cells_settled}
use Rattle.wm_pending.specs.Lookups.{group_own}
use Rattle.wm_pending.specs.Settled.{settles_moment}
use Rattle.wm_pending.proofs.settled.erase_settled.Goals as goal

pub returns : goal.returns
returns c = λ t less.
    let items = c.marks_of-id-items.result.now in
    let ss = c.args.image.now in
    let at = cell (group_own c.args.own.now) t in
    let test = settles_moment (parts_of ss).touches c.args.marks c.args.touches at in
    sym (and-true (is_some (held_at c.loop-id.pieces t)))
    ∙ ap (λ (l : List ℕ). is_some (held_at c.loop-id.pieces t) && not (any_at as_mark test ss l)) (sym (drop_all c.loop-id.id-index items (omega (arith, c.loop-id-test.false))))
    ∙ c.loop-id.invariant t less
    ∙ ap (λ (l : List ℕ). is_some (held_at c.args.pieces.now t) && not (any_at as_mark test ss l)) c.marks_of-id-items.ensures
    ∙ ap (λ b. is_some (held_at c.args.pieces.now t) && not b) (cells_settled c.args.marks c.args.touches at ss c.law_of_order.ensures)
