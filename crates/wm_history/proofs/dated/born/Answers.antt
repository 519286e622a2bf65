use Rattle.std.proofs.Common.{◌≡◌, All, Some, [], refl, sym, subst}
use Rattle.std.proofs.lemmas.Bool.{ne_eqb}
use Rattle.std.proofs.lemmas.List.Elements.{All-nil}
use Rattle.std.specs.BTreeMap.{is_at}
use Rattle.std.specs.Map.{lookup}
use Rattle.wm_base.specs.Key.{key_order}
use Rattle.wm_graph.specs.Parts.{parts_of}
use Rattle.wm_history.proofs.Laying.{HeldTo, born_all, born_nothing, held_first, held_next, nested_next}
use Rattle.wm_image.specs.Shown.{AreKeysOf}
use Rattle.wm_version_rows.proofs.Gathering.{KeyVersions}
use Rattle.wm_history.proofs.dated.born.Goals as goal

pub returns-then-space-eq0 : goal.returns-then-space-eq0
returns-then-space-eq0 c = born_nothing (parts_of c.args.image.now) c.args.space.now c.args.table.now.number c.new-laid.result.entries c.if-space-eq0.true c.new-laid.ensures.empty

pub returns-in_default : goal.returns-in_default
returns-in_default c =
    born_all c.args.image.now c.args.space.now c.args.table.now.number [] c.new-laid.result.entries (ne_eqb _ _ c.if-space-eq0.false) c.in_default.ensures
    (held_first (parts_of c.args.image.now) c.args.space.now.birth_version c.args.table.now.number [] [] c.new-laid.result.entries refl (All-nil _) c.new-laid.ensures.empty)

pub loop-key-init : goal.loop-key-init
loop-key-init c =
    held_first (parts_of c.args.image.now) c.args.space.now.birth_version c.args.table.now.number c.into_iter-key-iterator.result c.into_iter-key-iterator.result c.new-laid.result.entries refl
    (subst (λ (es : KeyVersions). All (λ e. lookup (is_at (key_order e.0)) es ≡ Some e.1) es) (sym c.into_iter-key-iterator.ensures.into_iter_gives.0) c.into_iter-key-iterator.ensures.into_iter_gives.6)
    c.new-laid.ensures.empty

pub lay_key-requires-clause-nested : goal.lay_key-requires-clause-nested
lay_key-requires-clause-nested c =
    (nested_next c.args.image.now c.args.space.now.birth_version c.args.table.now.number c.into_iter-key-iterator.result c.loop-key.key-iterator c.next.new.self (c.in-Some-2.key.now, c.in-Some-2.versions.now)
    c.as_slice.result.now c.loop-key.laid.entries c.in-Some-2.ensures.steps c.loop-key.invariant
    (subst (AreKeysOf c.args.image.now c.args.table.now.number) (sym c.into_iter-key-iterator.ensures.into_iter_gives.0) c.in-Some.ensures) c.as_slice.ensures.value).0

pub lay_key-requires-clause-spanned : goal.lay_key-requires-clause-spanned
lay_key-requires-clause-spanned c =
    (nested_next c.args.image.now c.args.space.now.birth_version c.args.table.now.number c.into_iter-key-iterator.result c.loop-key.key-iterator c.next.new.self (c.in-Some-2.key.now, c.in-Some-2.versions.now)
    c.as_slice.result.now c.loop-key.laid.entries c.in-Some-2.ensures.steps c.loop-key.invariant
    (subst (AreKeysOf c.args.image.now c.args.table.now.number) (sym c.into_iter-key-iterator.ensures.into_iter_gives.0) c.in-Some.ensures) c.as_slice.ensures.value).1

pub loop-key-preserved : goal.loop-key-preserved
loop-key-preserved c =
    held_next c.args.image.now c.args.space.now.birth_version c.args.table.now.number c.into_iter-key-iterator.result c.loop-key.key-iterator c.next.new.self (c.in-Some-2.key.now, c.in-Some-2.versions.now)
    c.as_slice.result.now c.in_ok-pieces.pieces c.loop-key.laid.entries c.set_born.new.laid.entries c.in-Some-2.ensures.steps c.loop-key.invariant
    (subst (AreKeysOf c.args.image.now c.args.table.now.number) (sym c.into_iter-key-iterator.ensures.into_iter_gives.0) c.in-Some.ensures) c.as_slice.ensures.value c.in_ok-pieces.ensures
    c.in_ok-set_born.ensures

pub returns : goal.returns
returns c =
    born_all c.args.image.now c.args.space.now c.args.table.now.number c.into_iter-key-iterator.result c.loop-key.laid.entries (ne_eqb _ _ c.if-space-eq0.false)
    (subst (AreKeysOf c.args.image.now c.args.table.now.number) (sym c.into_iter-key-iterator.ensures.into_iter_gives.0) c.in-Some.ensures)
    (subst (λ (rest : KeyVersions). HeldTo (parts_of c.args.image.now) c.args.space.now.birth_version c.args.table.now.number c.into_iter-key-iterator.result rest c.loop-key.laid.entries) c.in-None.ensures.steps.0
    c.loop-key.invariant)
