use Rattle.std.proofs.Common.{◌||◌, sym, ap, ◌∙◌}
use Rattle.std.proofs.Math.Bool.{or-false}
use Rattle.std.specs.BTreeSet.{contains}
use Rattle.wm_graph.specs.Parts.{as_piece}
use Rattle.wm_index.specs.Kinds.{kind_at}
use Rattle.wm_pending.proofs.OwnPath.{added_more}
use Rattle.wm_pending.specs.Keys.{has_piece_of, place_order}
use Rattle.wm_pending.proofs.keys.add_keys.Goals as goal

pub returns-in_default : goal.returns-in_default
returns-in_default c = λ q.
    sym (or-false (contains place_order c.args.keys.now q))
    ∙ ap (λ xs. contains place_order c.args.keys.now q || has_piece_of q (kind_at as_piece c.args.image.now xs)) c.in_default.ensures

pub loop-id-init : goal.loop-id-init
loop-id-init c = λ q.
    ap (λ xs. contains place_order c.args.keys.now q || has_piece_of q (kind_at as_piece c.args.image.now xs)) (c.into_iter-id-iterator.ensures.into_iter_gives.0 ∙ c.in-Some.ensures)

pub loop-id-preserved : goal.loop-id-preserved
loop-id-preserved c = λ q.
    added_more c.args.image.now c.in-Some-id.id.now c.loop-id.id-iterator c.next.new.self _ q (contains place_order c.loop-id.keys q) (contains place_order c.add_key.new.keys q) _
    c.in-Some-id.ensures.steps c.record.ensures (c.in_ok-add_key.ensures q) (c.loop-id.invariant q)
