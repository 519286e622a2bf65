use Rattle.std.proofs.Common.{◌≡◌, ℕ, ◌-◌, ◌&&◌, cond, eqb, List, Some, refl, sym, ap, ◌∙◌}
use Rattle.std.specs.BTreeMap.{BTreeMap, is_at}
use Rattle.std.specs.Map.{lookup}
use Rattle.std.specs.Option.{option_copied_mut, unwrap_or}
use Rattle.std.specs.Ordering.{nat_cmp, is_eq}
use Rattle.wm_base.specs.Key.{key_order}
use Rattle.wm_base.specs.declared.value.Value.{Value}
use Rattle.wm_rows.proofs.Counting.{less_none}
use Rattle.wm_rows.proofs.Maps.{map_at-some, map_at-none, write_told}
use Rattle.wm_rows.specs.Counts.{entry_at, positive}
use Rattle.wm_rows.specs.Maps.{maps_of, map_at}
use Rattle.wm_rows.proofs.counts.count_less.Goals as goal

pub returns-in-Some : goal.returns-in-Some
returns-in-Some c = λ t k.
    let there : lookup (is_at (nat_cmp c.args.table)) c.args.counts.now.entries ≡ Some c.in-Some.keys.now = sym c.get_mut.ensures.value ∙ ap option_copied_mut c.in-Some.is in
    let was : map_at (maps_of c.args.counts.now.entries) c.args.table ≡ c.in-Some.keys.now.entries = map_at-some c.args.counts.now.entries c.args.table c.in-Some.keys.now there in
    write_told key_order c.args.counts.now.entries (c.get_mut.follows.lender c.lower_count.new.keys).entries c.args.table c.args.key.now c.in-Some.keys.now.entries c.lower_count.new.keys
    (positive (unwrap_or (lookup (is_at (key_order c.args.key.now)) c.in-Some.keys.now.entries) 0 - 1)) was ((c.get_mut.follows.holds c.lower_count.new.keys).3 (rw there refl)).0 c.lower_count.ensures t k
    ∙ ap (λ (es : List (List Value × ℕ)). cond (eqb c.args.table t && is_eq (key_order c.args.key.now k)) (positive (unwrap_or (lookup (is_at (key_order c.args.key.now)) es) 0 - 1)) (entry_at (maps_of c.args.counts.now.entries) t k)) (sym was)

pub returns-in_default : goal.returns-in_default
returns-in_default c = λ t k.
    ap (λ (m : BTreeMap ℕ (BTreeMap (List Value) ℕ)). entry_at (maps_of m.entries) t k) c.get_mut.follows.holds-at-none
    ∙ less_none (maps_of c.args.counts.now.entries) c.args.table c.args.key.now t k
    (map_at-none c.args.counts.now.entries c.args.table (sym c.get_mut.ensures.value ∙ ap option_copied_mut c.in_default.is))
