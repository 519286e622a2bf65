use Rattle.std.proofs.Common.{◌≡◌, List, [], ◌∷◌, ◌++◌, subst, sym, ◌∙◌}
use Rattle.std.proofs.lemmas.List.{map-id}
use Rattle.std.proofs.lemmas.Map.Iter.{iter_end}
use Rattle.wm_graph.specs.Parts.{parts_of}
use Rattle.wm_pending.proofs.Keyed.{Gathered, are_own, gathered_more}
use Rattle.wm_pending.specs.Keys.{Place}
use Rattle.wm_pending.specs.declared.own.OwnKey.{OwnKey}
use Rattle.wm_pending.proofs.own.own_pieces.Goals as goal

pub loop-table-preserved : goal.loop-table-preserved
loop-table-preserved c =
    let one : OwnKey = c.in_ok-one.one in
    let place : (one.table, one.key) ≡ (c.in-Some.table, c.in-Some.key) = λ i. (c.in_ok-one.ensures.table i, c.in_ok-one.ensures.key i) in
    subst (λ (q : Place). Gathered (parts_of c.args.image.now) c.args.space.now (c.loop-table.yielded ++ q ∷ []) c.push.new.self.items) place
    (subst (Gathered (parts_of c.args.image.now) c.args.space.now (c.loop-table.yielded ++ (one.table, one.key) ∷ [])) (sym c.in_ok-push.ensures.items)
    (gathered_more (parts_of c.args.image.now) c.args.space.now c.loop-table.yielded c.loop-table.own.items one c.loop-table.invariant c.in_ok-one.ensures.holds))

pub returns : goal.returns
returns c =
    let gives = c.into_iter-table-iterator.ensures.into_iter_gives in
    let all = iter_end (λ (q : Place). q) c.in_ok-keys.keys.keys c.loop-table.yielded c.into_iter-table-iterator.result c.loop-table.table-iterator c.next.new.self c.next.result gives.0
    c.loop-table.yielded_by c.in-None.is c.next.ensures.steps in
    are_own (parts_of c.args.image.now) c.args.space.now c.in_ok-keys.keys.keys c.loop-table.own.items gives.4 c.in_ok-keys.ensures
    (subst (λ (qs : List Place). Gathered (parts_of c.args.image.now) c.args.space.now qs c.loop-table.own.items) (sym (map-id c.loop-table.yielded) ∙ all.0) c.loop-table.invariant)
