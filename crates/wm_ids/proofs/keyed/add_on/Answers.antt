use Rattle.std.proofs.Common.{rules, ◌≡◌, ℕ, ◌&&◌, cond, eqb, List, sym, ap, ◌∙◌}
use Rattle.std.proofs.lemmas.Result.{on_ok_weaker}
use Rattle.std.specs.BTreeMap.Entry.{entry_value, map_with_value}
use Rattle.std.specs.Ordering.{is_eq}
use Rattle.std.specs.Prelude.{OnOk}
use Rattle.wm_base.specs.Key.{key_order}
use Rattle.wm_base.specs.declared.value.Value.{Value}
use Rattle.wm_ids.proofs.TableLists.{changed_on, keys_found, keys_or}
use Rattle.wm_ids.specs.Ids.{Keyed, keyed_at, placed, piece_ids}
use Rattle.wm_ids.proofs.keyed.add_on.Goals as goal

pub returns : goal.returns
returns c =
    let m : List (ℕ × Keyed) = (map_with_value c.in_ok-tables.field-0 c.add_to.new.map).entries in
    let was : keyed_at c.args.tables.now.entries c.args.table ≡ c.or_insert-keys.result.now.entries =
    ap keys_found (sym c.in_ok-tables.ensures.value) ∙ keys_or (entry_value c.in_ok-tables.field-0) c.new.result c.new.ensures.empty ∙ ap (λ (m : Keyed). m.entries) (sym c.or_insert-keys.ensures.value) in
    let wrote : OnOk c.add_to.result ((t : ℕ) (k : List Value) → piece_ids m t k ≡ cond (eqb c.args.table t && is_eq (key_order c.args.key.now k)) (placed c.args.id (piece_ids c.args.tables.now.entries t k)) (piece_ids c.args.tables.now.entries t k)) =
    on_ok_weaker c.add_to.result
    (λ wrote t k.
    changed_on (placed c.args.id) c.args.tables.now.entries m c.args.table c.in_ok-copy.field-0 c.or_insert-keys.result.now.entries c.add_to.new.map was (c.in_ok-tables.ensures.update.0 c.add_to.new.map).0 wrote t k
    ∙ ap (λ (key : List Value). cond (eqb c.args.table t && is_eq (key_order key k)) (placed c.args.id (piece_ids c.args.tables.now.entries t k)) (piece_ids c.args.tables.now.entries t k)) c.in_ok-copy.ensures)
    c.add_to.ensures in
    search (rules, wrote)
