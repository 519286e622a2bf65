use Rattle.std.proofs.Common.{◌≡◌, Some, refl, sym, ap, ◌∙◌}
use Rattle.std.specs.BTreeMap.{is_at}
use Rattle.std.specs.Map.{lookup}
use Rattle.std.specs.Option.{option_copied_mut}
use Rattle.std.specs.Ordering.{nat_cmp}
use Rattle.wm_ids.proofs.TableLists.{changed_on, keys_found}
use Rattle.wm_ids.specs.Ids.{without}
use Rattle.wm_ids.proofs.keyed.drop_on.Goals as goal

pub returns-in-Some : goal.returns-in-Some
returns-in-Some c = λ t k.
    let there : lookup (is_at (nat_cmp c.args.table)) c.args.tables.now.entries ≡ Some c.in-Some.keys.now = sym c.get_mut.ensures.value ∙ ap option_copied_mut c.in-Some.is in
    changed_on (without c.args.id) c.args.tables.now.entries (c.get_mut.follows.lender c.drop_from.new.map).entries c.args.table c.args.key.now c.in-Some.keys.now.entries c.drop_from.new.map
    (ap keys_found there) ((c.get_mut.follows.holds c.drop_from.new.map).3 (rw there refl)).0 c.drop_from.ensures t k
