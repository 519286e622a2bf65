use Rattle.std.proofs.Common.{rules, ◌≡◌, cond, List, Some, ap, ◌∙◌}
use Rattle.std.proofs.lemmas.Result.{on_ok_weaker}
use Rattle.std.specs.BTreeMap.{is_at}
use Rattle.std.specs.BTreeMap.Entry.{entry_value, map_with_value}
use Rattle.std.specs.Map.{lookup}
use Rattle.std.specs.Ordering.{is_eq}
use Rattle.std.specs.Prelude.{OnOk}
use Rattle.std.specs.declared.alloc.Global.{Global}
use Rattle.std.specs.declared.vec.Vec.{Vec}
use Rattle.wm_base.specs.Key.{key_order}
use Rattle.wm_base.specs.declared.value.Value.{Value}
use Rattle.wm_ids.proofs.Versioning.{put_key, versions_or}
use Rattle.wm_ids.specs.Versioned.{ChangedWhere, HasMore, versions_found, versions_in}
use Rattle.wm_ids.specs.declared.versioned.Versioned.{Versioned}
use Rattle.wm_ids.proofs.versioned.add_key_id.Goals as goal

pub returns : goal.returns
returns c =
    let was : c.or_insert-versions.result.now.items ≡ versions_in c.args.keys.now.entries c.args.piece.now.cells.key =
    ap (λ (v : Vec Versioned Global). v.items) c.or_insert-versions.ensures.value
    ∙ versions_or (entry_value c.in_ok-keys.field-0) c.in_ok-room.room c.in_ok-room.ensures.items
    ∙ ap versions_found c.in_ok-keys.ensures.value ∙ ap (versions_in c.args.keys.now.entries) c.in_ok-key.ensures in
    let keys : List (List Value × Vec Versioned Global) = (map_with_value c.in_ok-keys.field-0 c.add_version_id.new.versions).entries in
    let changed : OnOk c.add_version_id.result ((k : List Value) → ChangedWhere (HasMore c.args.id c.args.piece.now) (is_eq (key_order c.args.piece.now.cells.key k)) (versions_in c.args.keys.now.entries k) (versions_in keys k)) =
    on_ok_weaker c.add_version_id.result
    (λ more. put_key (HasMore c.args.id c.args.piece.now) c.args.keys.now.entries keys c.args.piece.now.cells.key c.or_insert-versions.result.now.items c.add_version_id.new.versions was more
    (λ k.
    (c.in_ok-keys.ensures.update.0 c.add_version_id.new.versions).0 k
    ∙ ap (λ (key : List Value). cond (is_at (key_order key) k) (Some c.add_version_id.new.versions) (lookup (is_at (key_order k)) c.args.keys.now.entries)) c.in_ok-key.ensures))
    c.add_version_id.ensures in
    search (rules, changed)
