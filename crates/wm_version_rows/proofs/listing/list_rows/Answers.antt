use Rattle.std.proofs.Common.{◌≡◌, All, Some, [], refl, sym, subst}
use Rattle.std.proofs.lemmas.List.Elements.{All-nil}
use Rattle.std.specs.BTreeMap.{is_at}
use Rattle.std.specs.List.Sorted.{IsStrictlySortedBy}
use Rattle.std.specs.Map.{keys_of, lookup}
use Rattle.wm_base.specs.Key.{key_order}
use Rattle.wm_graph.specs.Parts.{parts_of}
use Rattle.wm_version_rows.proofs.Gathering.{KeyVersions, GatheredTo, gathered_first, gathered_next, is_showing, next_nested}
use Rattle.wm_image.specs.Shown.{AreKeysOf, HoldKey}
use Rattle.wm_ids.proofs.TableLists.{no_keys}
use Rattle.wm_state.specs.Standing.{seen}
use Rattle.wm_version_rows.proofs.listing.list_rows.Goals as goal

pub returns-in_default : goal.returns-in_default
returns-in_default c =
    is_showing c.args.image.now c.args.asked.now.version c.args.asked.now.table c.args.asked.now.valid c.args.asked.now.within [] c.new-rows.result c.in_default.ensures (no_keys key_order)
    (gathered_first (parts_of c.args.image.now) (seen (parts_of c.args.image.now) c.args.asked.now.version) c.args.asked.now.table c.args.asked.now.valid c.args.asked.now.within [] [] c.new-rows.result refl (All-nil _) c.new-rows.ensures)

pub loop-versions-init : goal.loop-versions-init
loop-versions-init c =
    gathered_first (parts_of c.args.image.now) (seen (parts_of c.args.image.now) c.args.asked.now.version) c.args.asked.now.table c.args.asked.now.valid c.args.asked.now.within c.into_iter-versions-iterator.result
    c.into_iter-versions-iterator.result c.new-rows.result refl
    (subst (λ (es : KeyVersions). All (λ e. lookup (is_at (key_order e.0)) es ≡ Some e.1) es) (sym c.into_iter-versions-iterator.ensures.into_iter_gives.0) c.into_iter-versions-iterator.ensures.into_iter_gives.6)
    c.new-rows.ensures

pub push_key-requires-clause-nested : goal.push_key-requires-clause-nested
push_key-requires-clause-nested c =
    (next_nested c.args.image.now c.args.asked.now.version c.args.asked.now.table c.args.asked.now.valid c.args.asked.now.within c.into_iter-versions-iterator.result c.loop-versions.versions-iterator c.next.new.self
    (c.in-Some-2.field-0-0.now, c.in-Some-2.versions.now) c.as_slice.result.now c.loop-versions.rows c.in-Some-2.ensures.steps c.loop-versions.invariant
    (subst (AreKeysOf c.args.image.now c.args.asked.now.table) (sym c.into_iter-versions-iterator.ensures.into_iter_gives.0) c.in-Some.ensures) c.as_slice.ensures.value).0

pub push_key-requires-clause-spanned : goal.push_key-requires-clause-spanned
push_key-requires-clause-spanned c =
    (next_nested c.args.image.now c.args.asked.now.version c.args.asked.now.table c.args.asked.now.valid c.args.asked.now.within c.into_iter-versions-iterator.result c.loop-versions.versions-iterator c.next.new.self
    (c.in-Some-2.field-0-0.now, c.in-Some-2.versions.now) c.as_slice.result.now c.loop-versions.rows c.in-Some-2.ensures.steps c.loop-versions.invariant
    (subst (AreKeysOf c.args.image.now c.args.asked.now.table) (sym c.into_iter-versions-iterator.ensures.into_iter_gives.0) c.in-Some.ensures) c.as_slice.ensures.value).1

pub loop-versions-preserved : goal.loop-versions-preserved
loop-versions-preserved c =
    gathered_next c.args.image.now c.args.asked.now.version c.args.asked.now.table c.args.asked.now.valid c.args.asked.now.within c.into_iter-versions-iterator.result c.loop-versions.versions-iterator c.next.new.self
    (c.in-Some-2.field-0-0.now, c.in-Some-2.versions.now) c.loop-versions.rows c.push_key.new.rows c.in-Some-2.ensures.steps c.loop-versions.invariant
    (subst (AreKeysOf c.args.image.now c.args.asked.now.table) (sym c.into_iter-versions-iterator.ensures.into_iter_gives.0) c.in-Some.ensures)
    (λ key hold. c.in_ok-push_key.ensures key (subst (HoldKey c.args.image.now c.args.asked.now.table key) (sym c.as_slice.ensures.value) hold))

pub returns : goal.returns
returns c =
    is_showing c.args.image.now c.args.asked.now.version c.args.asked.now.table c.args.asked.now.valid c.args.asked.now.within c.into_iter-versions-iterator.result c.loop-versions.rows
    (subst (AreKeysOf c.args.image.now c.args.asked.now.table) (sym c.into_iter-versions-iterator.ensures.into_iter_gives.0) c.in-Some.ensures)
    (subst (λ (es : KeyVersions). IsStrictlySortedBy key_order (keys_of es)) (sym c.into_iter-versions-iterator.ensures.into_iter_gives.0) c.into_iter-versions-iterator.ensures.into_iter_gives.5)
    (subst
    (λ (rest : KeyVersions). GatheredTo (parts_of c.args.image.now) (seen (parts_of c.args.image.now) c.args.asked.now.version) c.args.asked.now.table c.args.asked.now.valid c.args.asked.now.within c.into_iter-versions-iterator.result rest c.loop-versions.rows)
    c.in-None.ensures.steps.0 c.loop-versions.invariant)
