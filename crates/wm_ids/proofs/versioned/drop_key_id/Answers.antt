use Rattle.std.proofs.Common.{◌≡◌, List, Some, refl, sym, ap, subst, ◌∙◌}
use Rattle.std.specs.BTreeMap.{BTreeMap, is_at}
use Rattle.std.specs.Map.{lookup}
use Rattle.std.specs.Option.{option_copied_mut}
use Rattle.std.specs.Ordering.{is_eq}
use Rattle.std.specs.declared.alloc.Global.{Global}
use Rattle.std.specs.declared.vec.Vec.{Vec}
use Rattle.wm_base.specs.Key.{key_order}
use Rattle.wm_base.specs.declared.value.Value.{Value}
use Rattle.wm_ids.proofs.Versioning.{empty_from, gone_key, less_absent, put_key}
use Rattle.wm_ids.specs.Versioned.{ChangedWhere, HasLess, versions_found, versions_in}
use Rattle.wm_ids.specs.declared.versioned.Versioned.{Versioned}
use Rattle.wm_ids.proofs.versioned.drop_key_id.Goals as goal

pub returns-in_default : goal.returns-in_default
returns-in_default c =
    let P : BTreeMap (List Value) (Vec Versioned Global) → Type 0 = λ m. (k : List Value) → ChangedWhere (HasLess c.args.id c.args.piece.now.version) (is_eq (key_order c.args.piece.now.cells.key k)) (versions_in c.args.keys.now.entries k) (versions_in m.entries k) in
    subst P (sym c.get_mut.follows.holds-at-none)
    (less_absent c.args.keys.now.entries c.args.piece.now.cells.key c.args.id c.args.piece.now.version c.requires.nested
    (ap versions_found (sym c.get_mut.ensures.value ∙ ap option_copied_mut c.in_default.is)))

pub returns-then-is_empty : goal.returns-then-is_empty
returns-then-is_empty c =
    let there : lookup (is_at (key_order c.args.piece.now.cells.key)) c.args.keys.now.entries ≡ Some c.in-Some.versions.now = sym c.get_mut.ensures.value ∙ ap option_copied_mut c.in-Some.is in
    gone_key (HasLess c.args.id c.args.piece.now.version) c.args.keys.now.entries (c.get_mut.follows.lender c.drop_version_id.new.versions).entries c.remove.new.self.entries c.args.piece.now.cells.key
    c.in-Some.versions.now.items c.drop_version_id.new.versions (sym (ap versions_found there)) c.drop_version_id.ensures
    (empty_from c.drop_version_id.new.versions c.is_empty.result c.is_empty.ensures c.if-is_empty.true) ((c.get_mut.follows.holds c.drop_version_id.new.versions).3 (rw there refl)).0 c.remove.ensures.updates.0

pub returns-else-is_empty : goal.returns-else-is_empty
returns-else-is_empty c =
    let there : lookup (is_at (key_order c.args.piece.now.cells.key)) c.args.keys.now.entries ≡ Some c.in-Some.versions.now = sym c.get_mut.ensures.value ∙ ap option_copied_mut c.in-Some.is in
    put_key (HasLess c.args.id c.args.piece.now.version) c.args.keys.now.entries (c.get_mut.follows.lender c.drop_version_id.new.versions).entries c.args.piece.now.cells.key c.in-Some.versions.now.items
    c.drop_version_id.new.versions (sym (ap versions_found there)) c.drop_version_id.ensures ((c.get_mut.follows.holds c.drop_version_id.new.versions).3 (rw there refl)).0
