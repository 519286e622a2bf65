use Rattle.std.proofs.Common.{◌≡◌, List, [], ◌∷◌, ◌++◌, map, subst, sym, ap, ◌∙◌}
use Rattle.std.proofs.lemmas.List.{map-id}
use Rattle.std.proofs.lemmas.Map.Iter.{iter_end}
use Rattle.wm_graph.specs.Parts.{parts_of}
use Rattle.wm_net.specs.Groups.{Group, GroupsAscend, cell}
use Rattle.wm_net.specs.Listed.{ListsGroups}
use Rattle.wm_period.specs.Pieces.{held_at}
use Rattle.wm_period.specs.declared.piece.Piece.{Piece}
use Rattle.wm_state.specs.Editing.{entry_of}
use Rattle.wm_state.specs.Standing.{seen}
use Rattle.wm_telling.specs.Telling.{gained_held, replayed_by, same_held}
use Rattle.wm_pending.proofs.Gaining.{gain, gained_all, gained_more, key_gained}
use Rattle.wm_pending.proofs.Keyed.{group_in}
use Rattle.wm_pending.proofs.Looking.{groups_own}
use Rattle.wm_pending.specs.Keys.{Place}
use Rattle.wm_pending.specs.Lookups.{group_own, pieces_on}
use Rattle.wm_pending.specs.Touched.{is_touched}
use Rattle.wm_pending.specs.declared.own.OwnKey.{OwnKey}
use Rattle.wm_pending.proofs.gained.gained.Goals as goal

pub own_on-others-requires : goal.own_on-others-requires
own_on-others-requires c = subst (λ (gs : List Group). GroupsAscend gs) (groups_own c.args.own.now) c.requires.own.ascend

pub loop-table-preserved : goal.loop-table-preserved
loop-table-preserved c =
    let p = parts_of c.args.image.now in
    let k : OwnKey = c.in_ok-gain.gain in
    let s = c.of-since.result in
    let version = c.latest-version.result in
    let after = map entry_of c.push_entries-pushed.new.entries.items in
    let place : (k.table, k.key) ≡ (c.in-Some.table, c.in-Some.key) = λ i. (c.in_ok-gain.ensures.table i, c.in_ok-gain.ensures.key i) in
    let group : group_own k ≡ group_in (c.in-Some.table, c.in-Some.key) = λ i. record { table = c.in_ok-gain.ensures.table i; key = c.in_ok-gain.ensures.key i } in
    subst
    (λ (q : Place). ListsGroups same_held (replayed_by p c.args.moment c.args.user.now) (gained_held p c.args.space.now c.args.parent.now) (map group_in (c.loop-table.yielded ++ q ∷ [])) after) place
    (gained_more p c.args.moment c.args.user.now (gained_held p c.args.space.now c.args.parent.now) c.loop-table.yielded (map entry_of c.loop-table.entries.items) after k c.loop-table.invariant
    (key_gained p c.args.space.now c.args.parent.now c.args.own.now k s version c.requires.rules c.requires.own c.of-since.ensures c.latest-version.ensures c.in_ok-gain.ensures.lie c.in_ok-gain.ensures.joined
    (λ t less.
    c.in_ok-gain.ensures.holds t less
    ∙ ap (λ (ps : List Piece). gain (held_at ps t) (is_touched p.touches s (cell (group_own k) t)) (seen p version (cell (group_own k) t)))
    (c.own_on-others.ensures ∙ ap (λ (g : Group). pieces_on g c.args.own.now) (sym group))))
    c.in_ok-pushed.ensures)

pub returns : goal.returns
returns c =
    let p = parts_of c.args.image.now in
    let keys = c.in_ok-keys.keys.keys in
    let gives = c.into_iter-table-iterator.ensures.into_iter_gives in
    let all = iter_end (λ (q : Place). q) keys c.loop-table.yielded c.into_iter-table-iterator.result c.loop-table.table-iterator c.next.new.self c.next.result gives.0
    c.loop-table.yielded_by c.in-None.is c.next.ensures.steps in
    gained_all p c.args.space.now c.args.parent.now c.args.moment c.args.user.now c.of-since.result keys (map entry_of c.loop-table.entries.items) c.of-since.ensures gives.4 c.in_ok-keys.ensures
    (subst
    (λ (qs : List Place). ListsGroups same_held (replayed_by p c.args.moment c.args.user.now) (gained_held p c.args.space.now c.args.parent.now) (map group_in qs) (map entry_of c.loop-table.entries.items))
    (sym (map-id c.loop-table.yielded) ∙ all.0) c.loop-table.invariant)
