use Rattle.std.proofs.Common.{◌++◌, map, List, [], ℕ, sym, ap, ◌∙◌}
use Rattle.std.proofs.lemmas.List.{append-nil}
use Rattle.wm_graph.specs.Parts.{as_lock}
use Rattle.wm_index.specs.Kinds.{kind_at}
use Rattle.wm_locks.proofs.Looking.{kind_more, makings_told}
use Rattle.wm_spec.specs.declared.record.lock.Lock.{Lock}
use Rattle.wm_locks.proofs.makings.makings_of.Goals as goal

pub returns-in_default : goal.returns-in_default
returns-in_default c = c.new-makings.ensures.items ∙ makings_told c.args.image.now c.law_of_order.ensures c.args.space [] c.in_default.ensures

pub loop-id-init : goal.loop-id-init
loop-id-init c =
    ap (λ ms. ms ++ map (λ (x : Lock). x.making) (kind_at as_lock c.args.image.now c.into_iter-id-iterator.result)) c.new-makings.ensures.items
    ∙ makings_told c.args.image.now c.law_of_order.ensures c.args.space c.into_iter-id-iterator.result (c.into_iter-id-iterator.ensures.into_iter_gives.0 ∙ c.in-Some.ensures)

pub loop-id-preserved : goal.loop-id-preserved
loop-id-preserved c =
    kind_more (λ (x : Lock). x.making) c.args.image.now c.loop-id.id-iterator c.next.new.self c.in-Some-id.id.now _ c.loop-id.makings.items c.push_making.new.makings.items _ c.in-Some-id.ensures.steps c.record.ensures
    c.in_ok-push_making.ensures c.loop-id.invariant
