use Rattle.std.proofs.Common.{ℕ, List, ap, ◌∙◌}
use Rattle.std.specs.List.{list_all}
use Rattle.wm_graph.specs.Parts.{as_lock}
use Rattle.wm_index.specs.Kinds.{kind_at}
use Rattle.wm_space.proofs.LocksHeld.{all_held, held_on, held_off, is_before}
use Rattle.wm_space.proofs.locks.are_before.Goals as goal

pub returns-in_default : goal.returns-in_default
returns-in_default c =
    ap (λ (ids : List ℕ). list_all (is_before c.args.place) (kind_at as_lock c.args.image.now ids)) c.in_default.ensures ∙ all_held c.args.space c.args.place c.args.image.now c.law_of_order.ensures

pub loop-id-init : goal.loop-id-init
loop-id-init c =
    ap (λ (ids : List ℕ). list_all (is_before c.args.place) (kind_at as_lock c.args.image.now ids)) (c.into_iter-id-iterator.ensures.into_iter_gives.0 ∙ c.in-Some.ensures)
    ∙ all_held c.args.space c.args.place c.args.image.now c.law_of_order.ensures

pub returns-then-not-is_before : goal.returns-then-not-is_before
returns-then-not-is_before c =
    held_off c.args.image.now c.args.place c.in-Some-id.id.now c.loop-id.id-iterator c.next.new.self _ _ c.in-Some-id.ensures.steps c.record.ensures c.if-not-is_before.ensures c.loop-id.invariant

pub loop-id-preserved : goal.loop-id-preserved
loop-id-preserved c =
    held_on c.args.image.now c.args.place c.in-Some-id.id.now c.loop-id.id-iterator c.next.new.self _ _ c.in-Some-id.ensures.steps c.record.ensures c.if-not-is_before.ensures c.loop-id.invariant
