use Rattle.std.proofs.Common.{◌≡◌, All, Some, [], refl, sym, subst}
use Rattle.std.proofs.lemmas.List.Elements.{All-nil}
use Rattle.std.specs.BTreeMap.{is_at}
use Rattle.std.specs.List.Sorted.{IsStrictlySortedBy}
use Rattle.std.specs.Map.{keys_of, lookup}
use Rattle.wm_base.specs.Key.{key_order}
use Rattle.wm_graph.specs.Parts.{parts_of}
use Rattle.wm_ids.proofs.TableLists.{no_keys}
use Rattle.wm_image.specs.Shown.{AreKeysOf}
use Rattle.wm_version_rows.proofs.Gathering.{KeyVersions}
use Rattle.wm_differences.proofs.Gathering.{GatheredTo, gathered_first, gathered_next, is_view, next_key}
use Rattle.wm_differences.specs.Shown.{versions_of}
use Rattle.wm_differences.proofs.shown.difference_view.Goals as goal

pub returns-in_default : goal.returns-in_default
returns-in_default c =
    is_view c.args.image.now (versions_of c.args.versions) c.args.first.now c.args.second.now c.args.table.now [] c.new-rows.result c.in_default.ensures (no_keys key_order)
    (gathered_first (parts_of c.args.image.now) (versions_of c.args.versions) c.args.first.now c.args.second.now c.args.table.now [] [] c.new-rows.result refl (All-nil _) c.new-rows.ensures)

pub loop-key-init : goal.loop-key-init
loop-key-init c =
    gathered_first (parts_of c.args.image.now) (versions_of c.args.versions) c.args.first.now c.args.second.now c.args.table.now c.into_iter-key-iterator.result c.into_iter-key-iterator.result c.new-rows.result refl
    (subst (λ (es : KeyVersions). All (λ e. lookup (is_at (key_order e.0)) es ≡ Some e.1) es) (sym c.into_iter-key-iterator.ensures.into_iter_gives.0) c.into_iter-key-iterator.ensures.into_iter_gives.6) c.new-rows.ensures

pub push_key-requires-clause-nested : goal.push_key-requires-clause-nested
push_key-requires-clause-nested c =
    (next_key c.args.image.now (versions_of c.args.versions) c.args.first.now c.args.second.now c.args.table.now c.into_iter-key-iterator.result c.loop-key.key-iterator c.next.new.self
    (c.in-Some-2.key.now, c.in-Some-2.held.now) c.as_slice.result.now c.loop-key.rows c.in-Some-2.ensures.steps c.loop-key.invariant
    (subst (AreKeysOf c.args.image.now c.args.table.now.number) (sym c.into_iter-key-iterator.ensures.into_iter_gives.0) c.in-Some.ensures) c.as_slice.ensures.value).nested

pub push_key-requires-clause-spanned : goal.push_key-requires-clause-spanned
push_key-requires-clause-spanned c =
    (next_key c.args.image.now (versions_of c.args.versions) c.args.first.now c.args.second.now c.args.table.now c.into_iter-key-iterator.result c.loop-key.key-iterator c.next.new.self
    (c.in-Some-2.key.now, c.in-Some-2.held.now) c.as_slice.result.now c.loop-key.rows c.in-Some-2.ensures.steps c.loop-key.invariant
    (subst (AreKeysOf c.args.image.now c.args.table.now.number) (sym c.into_iter-key-iterator.ensures.into_iter_gives.0) c.in-Some.ensures) c.as_slice.ensures.value).spanned

pub loop-key-preserved : goal.loop-key-preserved
loop-key-preserved c =
    gathered_next c.args.image.now (versions_of c.args.versions) c.args.first.now c.args.second.now c.args.table.now c.into_iter-key-iterator.result c.loop-key.key-iterator c.next.new.self
    (c.in-Some-2.key.now, c.in-Some-2.held.now) c.loop-key.rows c.push_key.new.rows c.in-Some-2.ensures.steps c.loop-key.invariant
    (c.in_ok-push_key.ensures
    (next_key c.args.image.now (versions_of c.args.versions) c.args.first.now c.args.second.now c.args.table.now c.into_iter-key-iterator.result c.loop-key.key-iterator c.next.new.self
    (c.in-Some-2.key.now, c.in-Some-2.held.now) c.as_slice.result.now c.loop-key.rows c.in-Some-2.ensures.steps c.loop-key.invariant
    (subst (AreKeysOf c.args.image.now c.args.table.now.number) (sym c.into_iter-key-iterator.ensures.into_iter_gives.0) c.in-Some.ensures) c.as_slice.ensures.value).holds)

pub returns : goal.returns
returns c =
    is_view c.args.image.now (versions_of c.args.versions) c.args.first.now c.args.second.now c.args.table.now c.into_iter-key-iterator.result c.loop-key.rows
    (subst (AreKeysOf c.args.image.now c.args.table.now.number) (sym c.into_iter-key-iterator.ensures.into_iter_gives.0) c.in-Some.ensures)
    (subst (λ (es : KeyVersions). IsStrictlySortedBy key_order (keys_of es)) (sym c.into_iter-key-iterator.ensures.into_iter_gives.0) c.into_iter-key-iterator.ensures.into_iter_gives.5)
    (subst (λ (rest : KeyVersions). GatheredTo (parts_of c.args.image.now) (versions_of c.args.versions) c.args.first.now c.args.second.now c.args.table.now c.into_iter-key-iterator.result rest c.loop-key.rows)
    c.in-None.ensures.steps.0 c.loop-key.invariant)
