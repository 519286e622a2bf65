use Rattle.std.proofs.Common.{◌≡◌, ◌/◌, None, Some, refl, sym, ap, subst, ◌∙◌}
use Rattle.std.specs.BTreeMap.{is_at}
use Rattle.std.specs.Map.{lookup}
use Rattle.std.specs.Option.{option_copied_mut}
use Rattle.std.specs.Ordering.{nat_cmp}
use Rattle.wm_chunks.proofs.Joining.{changes_twice, drop_chunks, drop_told, found_in, found_none, none_left, set_chunks, set_told, some_left}
use Rattle.wm_chunks.proofs.Placing.{gone_told}
use Rattle.wm_chunks.specs.Numbers.{Sets, joined}
use Rattle.wm_chunks.proofs.chunks.take.Goals as goal

-- no chunk has the number
pub returns-in_default-clause-old : goal.returns-in_default-clause-old
returns-in_default-clause-old g c = sym (found_none c.args.chunks.now.entries c.args.number c.requires (sym c.get_mut.ensures.value ∙ ap option_copied_mut c.in_default.is))

pub returns-in_default-clause-sets : goal.returns-in_default-clause-sets
returns-in_default-clause-sets g c =
    subst (λ m. Sets c.args.number None (joined c.args.chunks.now.entries) (joined m.entries)) (sym c.get_mut.follows.holds-at-none)
    (gone_told (joined c.args.chunks.now.entries) c.args.number (found_none c.args.chunks.now.entries c.args.number c.requires (sym c.get_mut.ensures.value ∙ ap option_copied_mut c.in_default.is)))

-- its chunk goes
pub returns-then-is_empty-clause-old : goal.returns-then-is_empty-clause-old
returns-then-is_empty-clause-old g c =
    c.remove-old.ensures.old ∙ sym (found_in c.args.chunks.now.entries c.args.number c.in-Some.chunk.now c.requires (sym c.get_mut.ensures.value ∙ ap option_copied_mut c.in-Some.is))

pub returns-then-is_empty-clause-chunks : goal.returns-then-is_empty-clause-chunks
returns-then-is_empty-clause-chunks g c =
    let found : lookup (is_at (nat_cmp (c.args.number / 32))) c.args.chunks.now.entries ≡ Some c.in-Some.chunk.now = sym c.get_mut.ensures.value ∙ ap option_copied_mut c.in-Some.is in
    drop_chunks c.args.chunks.now.entries c.remove.new.self.entries (c.args.number / 32) c.requires c.remove.ensures.ordered
    (changes_twice c.args.chunks.now.entries (c.get_mut.follows.lender c.remove-old.new.chunk).entries c.remove.new.self.entries (c.args.number / 32) (Some c.remove-old.new.chunk) None ((c.get_mut.follows.holds c.remove-old.new.chunk).3 (rw found refl)).0 c.remove.ensures.updates.0)

pub returns-then-is_empty-clause-sets : goal.returns-then-is_empty-clause-sets
returns-then-is_empty-clause-sets g c =
    let found : lookup (is_at (nat_cmp (c.args.number / 32))) c.args.chunks.now.entries ≡ Some c.in-Some.chunk.now = sym c.get_mut.ensures.value ∙ ap option_copied_mut c.in-Some.is in
    drop_told c.args.chunks.now.entries c.remove.new.self.entries c.args.number c.requires c.remove.ensures.ordered
    (changes_twice c.args.chunks.now.entries (c.get_mut.follows.lender c.remove-old.new.chunk).entries c.remove.new.self.entries (c.args.number / 32) (Some c.remove-old.new.chunk) None ((c.get_mut.follows.holds c.remove-old.new.chunk).3 (rw found refl)).0 c.remove.ensures.updates.0)
    (rw found (subst (Sets c.args.number None c.in-Some.chunk.now.items) (none_left c.remove-old.new.chunk c.is_empty.result c.is_empty.ensures c.if-is_empty.true) c.remove-old.ensures.sets))

-- its chunk stays
pub returns-else-is_empty-clause-old : goal.returns-else-is_empty-clause-old
returns-else-is_empty-clause-old g c =
    c.remove-old.ensures.old ∙ sym (found_in c.args.chunks.now.entries c.args.number c.in-Some.chunk.now c.requires (sym c.get_mut.ensures.value ∙ ap option_copied_mut c.in-Some.is))

pub returns-else-is_empty-clause-chunks : goal.returns-else-is_empty-clause-chunks
returns-else-is_empty-clause-chunks g c =
    let found : lookup (is_at (nat_cmp (c.args.number / 32))) c.args.chunks.now.entries ≡ Some c.in-Some.chunk.now = sym c.get_mut.ensures.value ∙ ap option_copied_mut c.in-Some.is in
    set_chunks c.args.chunks.now.entries (c.get_mut.follows.lender c.remove-old.new.chunk).entries (c.args.number / 32) c.remove-old.new.chunk c.requires (c.get_mut.follows.holds c.remove-old.new.chunk).4 c.remove-old.ensures.chunk
    (some_left c.remove-old.new.chunk c.is_empty.result c.is_empty.ensures c.if-is_empty.false) ((c.get_mut.follows.holds c.remove-old.new.chunk).3 (rw found refl)).0

pub returns-else-is_empty-clause-sets : goal.returns-else-is_empty-clause-sets
returns-else-is_empty-clause-sets g c =
    let found : lookup (is_at (nat_cmp (c.args.number / 32))) c.args.chunks.now.entries ≡ Some c.in-Some.chunk.now = sym c.get_mut.ensures.value ∙ ap option_copied_mut c.in-Some.is in
    set_told c.args.chunks.now.entries (c.get_mut.follows.lender c.remove-old.new.chunk).entries c.args.number c.remove-old.new.chunk None c.requires (c.get_mut.follows.holds c.remove-old.new.chunk).4 c.remove-old.ensures.chunk
    (some_left c.remove-old.new.chunk c.is_empty.result c.is_empty.ensures c.if-is_empty.false) ((c.get_mut.follows.holds c.remove-old.new.chunk).3 (rw found refl)).0
    (rw found c.remove-old.ensures.sets)
