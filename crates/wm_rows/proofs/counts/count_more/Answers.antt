use Rattle.std.proofs.Common.{◌≡◌, ℕ, ◌+◌, ◌&&◌, cond, eqb, List, Some, refl, sym, ap, ◌∙◌}
use Rattle.std.specs.BTreeMap.{BTreeMap, is_at}
use Rattle.std.specs.Map.{lookup}
use Rattle.std.specs.Option.{option_copied_mut}
use Rattle.std.specs.Ordering.{nat_cmp, is_eq}
use Rattle.wm_base.specs.Key.{key_order}
use Rattle.wm_base.specs.declared.value.Value.{Value}
use Rattle.wm_rows.proofs.Maps.{map_at-some, map_at-none, write_told, write_kept}
use Rattle.wm_rows.proofs.Writing.{on_ok, on_err}
use Rattle.wm_rows.specs.Counts.{entry_at}
use Rattle.wm_rows.specs.Maps.{maps_of, map_at}
use Rattle.wm_rows.proofs.counts.count_more.Goals as goal

-- the counts of the table
there : (c : goal.After-counts-in-Some-1) → lookup (is_at (nat_cmp c.args.table)) c.args.counts.now.entries ≡ Some c.in-Some.keys.now
there c = sym c.get_mut.ensures.value ∙ ap option_copied_mut c.in-Some.is

pub returns-in-Some-clause-ok : goal.returns-in-Some-clause-ok
returns-in-Some-clause-ok c =
    on_ok c.set_count.result
    (λ (wrote : (q : List Value) → lookup (is_at (key_order q)) c.set_count.new.keys.entries ≡ cond (is_eq (key_order c.in_ok-key.key q)) (Some (c.count_of-count.result + 1)) (lookup (is_at (key_order q)) c.in-Some.keys.now.entries)).
    λ t k.
    write_told key_order c.args.counts.now.entries (c.get_mut.follows.lender c.set_count.new.keys).entries c.args.table c.in_ok-key.key c.in-Some.keys.now.entries c.set_count.new.keys
    (Some (c.count_of-count.result + 1)) (map_at-some c.args.counts.now.entries c.args.table c.in-Some.keys.now (there c)) ((c.get_mut.follows.holds c.set_count.new.keys).3 (rw (there c) refl)).0 wrote t k
    ∙ ap (λ (key : List Value). cond (eqb c.args.table t && is_eq (key_order key k)) (Some (c.count_of-count.result + 1)) (entry_at (maps_of c.args.counts.now.entries) t k)) c.in_ok-key.ensures
    ∙ ap (λ (n : ℕ). cond (eqb c.args.table t && is_eq (key_order c.args.key.now k)) (Some (n + 1)) (entry_at (maps_of c.args.counts.now.entries) t k)) c.count_of-count.ensures)
    c.set_count.ensures.ok

pub returns-in-Some-clause-err : goal.returns-in-Some-clause-err
returns-in-Some-clause-err c =
    on_err c.set_count.result
    (λ same. write_kept c.args.counts.now.entries (c.get_mut.follows.lender c.set_count.new.keys).entries c.args.table c.in-Some.keys.now c.set_count.new.keys (there c)
    (c.get_mut.follows.holds c.set_count.new.keys).0 same)
    c.set_count.ensures.err

pub returns-clause-ok : goal.returns-clause-ok
returns-clause-ok c = λ t k.
    let none : map_at (maps_of c.args.counts.now.entries) c.args.table ≡ c.new-keys.result.entries =
    map_at-none c.args.counts.now.entries c.args.table (sym c.get_mut.ensures.value ∙ ap option_copied_mut c.in_default.is) ∙ sym c.new-keys.ensures.empty in
    let put : (n : ℕ) → lookup (is_at (nat_cmp n)) c.insert.new.self.entries ≡ cond (is_at (nat_cmp c.args.table) n) (Some c.set_count-2.new.keys) (lookup (is_at (nat_cmp n)) c.args.counts.now.entries) =
    λ n. c.in_ok-insert.ensures.updates.0 n
    ∙ ap (λ (m : BTreeMap ℕ (BTreeMap (List Value) ℕ)). cond (is_at (nat_cmp c.args.table) n) (Some c.set_count-2.new.keys) (lookup (is_at (nat_cmp n)) m.entries)) c.get_mut.follows.holds-at-none in
    write_told key_order c.args.counts.now.entries c.insert.new.self.entries c.args.table c.in_ok-key.key c.new-keys.result.entries c.set_count-2.new.keys
    (Some (c.count_of-count.result + 1)) none put c.in_ok-set_count.ensures.ok t k
    ∙ ap (λ (key : List Value). cond (eqb c.args.table t && is_eq (key_order key k)) (Some (c.count_of-count.result + 1)) (entry_at (maps_of c.args.counts.now.entries) t k)) c.in_ok-key.ensures
    ∙ ap (λ (n : ℕ). cond (eqb c.args.table t && is_eq (key_order c.args.key.now k)) (Some (n + 1)) (entry_at (maps_of c.args.counts.now.entries) t k)) c.count_of-count.ensures
