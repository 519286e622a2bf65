use Rattle.std.proofs.Common.{◌≡◌, ◌+◌, ℕ, ◌&&◌, cond, eqb, List, Some, None, is_none, refl, sym, ap, ◌∙◌, subst}
use Rattle.std.specs.BTreeMap.{BTreeMap, is_at, insert_entry}
use Rattle.std.specs.List.Sorted.{IsStrictlySortedBy}
use Rattle.std.specs.Bool.{then_some}
use Rattle.std.specs.Map.{lookup}
use Rattle.std.specs.Option.{option_copied_mut, option_or}
use Rattle.std.specs.Ordering.{nat_cmp}
use Rattle.std.specs.Prelude.{OnOk}
use Rattle.wm_base.specs.Period.{covers}
use Rattle.wm_period.specs.Pieces.{held, held_at, put_in}
use Rattle.wm_period.specs.declared.piece.Piece.{Piece}
use Rattle.wm_rows.proofs.Maps.{map_at-some, map_at-none, write_told, write_kept}
use Rattle.wm_rows.proofs.Times.{keys_of-maps_of, times_set, times_insert}
use Rattle.wm_rows.proofs.Writing.{on_ok, on_err}
use Rattle.wm_rows.specs.Counts.{times}
use Rattle.wm_rows.specs.Maps.{maps_of}
use Rattle.wm_rows.specs.Rows.{Groups, groups_in, group_in, group_of, pieces_in, is_same, row_order}
use Rattle.wm_rows.specs.declared.row_key.RowKey.{RowKey}
use Rattle.wm_rows.proofs.layers.write_piece.Goals as goal

-- the layer that is written
there : (c : goal.After-layers-in-Some-1) → lookup (is_at (nat_cmp c.args.version)) c.args.layers.now.entries ≡ Some c.in-Some.layer.now
there c = sym c.get_mut.ensures.value ∙ ap option_copied_mut c.in-Some.is

was : (c : goal.After-layers-in-Some-1) → groups_in (maps_of c.args.layers.now.entries) c.args.version ≡ c.in-Some.layer.now.entries
was c = map_at-some c.args.layers.now.entries c.args.version c.in-Some.layer.now (there c)

pub returns-in-Some-clause-groups : goal.returns-in-Some-clause-groups
returns-in-Some-clause-groups c =
    on_ok c.put_piece.result
    (λ (wrote : (q : RowKey) → group_in c.put_piece.new.layer.entries q ≡ cond (is_same c.args.row q) (Some (put_in c.args.piece (pieces_in c.in-Some.layer.now.entries c.args.row))) (group_in c.in-Some.layer.now.entries q)).
    λ v q.
    write_told row_order c.args.layers.now.entries (c.get_mut.follows.lender c.put_piece.new.layer).entries c.args.version c.args.row c.in-Some.layer.now.entries c.put_piece.new.layer
    (Some (put_in c.args.piece (pieces_in c.in-Some.layer.now.entries c.args.row))) (was c) ((c.get_mut.follows.holds c.put_piece.new.layer).3 (rw (there c) refl)).0 wrote v q
    ∙ ap (λ (g : Groups). cond (eqb c.args.version v && is_same c.args.row q) (Some (put_in c.args.piece (pieces_in g c.args.row))) (group_of (maps_of c.args.layers.now.entries) v q)) (sym (was c)))
    c.put_piece.ensures.groups

pub returns-in-Some-clause-cells : goal.returns-in-Some-clause-cells
returns-in-Some-clause-cells c =
    let P : Groups → Type 0 = λ g. OnOk c.put_piece.result ((t : ℕ) → held_at (put_in c.args.piece (pieces_in g c.args.row)) t ≡ option_or (then_some (covers c.args.piece.period t) (held c.args.piece)) (held_at (pieces_in g c.args.row) t)) in
    subst P (sym (was c)) c.put_piece.ensures.cells

pub returns-in-Some-clause-err : goal.returns-in-Some-clause-err
returns-in-Some-clause-err c =
    on_err c.put_piece.result
    (λ same. write_kept c.args.layers.now.entries (c.get_mut.follows.lender c.put_piece.new.layer).entries c.args.version c.in-Some.layer.now c.put_piece.new.layer (there c)
    (c.get_mut.follows.holds c.put_piece.new.layer).0 same)
    c.put_piece.ensures.err

pub returns-clause-groups : goal.returns-clause-groups
returns-clause-groups c = λ v q.
    let none : groups_in (maps_of c.args.layers.now.entries) c.args.version ≡ c.new-layer.result.entries =
    map_at-none c.args.layers.now.entries c.args.version (sym c.get_mut.ensures.value ∙ ap option_copied_mut c.in_default.is) ∙ sym c.new-layer.ensures.empty in
    let put : (n : ℕ) → lookup (is_at (nat_cmp n)) c.insert.new.self.entries ≡ cond (is_at (nat_cmp c.args.version) n) (Some c.put_piece-2.new.layer) (lookup (is_at (nat_cmp n)) c.args.layers.now.entries) =
    λ n. c.in_ok-insert.ensures.updates.0 n
    ∙ ap (λ (m : BTreeMap ℕ (BTreeMap RowKey (List Piece))). cond (is_at (nat_cmp c.args.version) n) (Some c.put_piece-2.new.layer) (lookup (is_at (nat_cmp n)) m.entries)) c.get_mut.follows.holds-at-none in
    write_told row_order c.args.layers.now.entries c.insert.new.self.entries c.args.version c.args.row c.new-layer.result.entries c.put_piece-2.new.layer
    (Some (put_in c.args.piece (pieces_in c.new-layer.result.entries c.args.row))) none put c.in_ok-put_piece.ensures.groups v q
    ∙ ap (λ (g : Groups). cond (eqb c.args.version v && is_same c.args.row q) (Some (put_in c.args.piece (pieces_in g c.args.row))) (group_of (maps_of c.args.layers.now.entries) v q)) (sym none)

pub returns-clause-cells : goal.returns-clause-cells
returns-clause-cells c =
    let none : groups_in (maps_of c.args.layers.now.entries) c.args.version ≡ c.new-layer.result.entries =
    map_at-none c.args.layers.now.entries c.args.version (sym c.get_mut.ensures.value ∙ ap option_copied_mut c.in_default.is) ∙ sym c.new-layer.ensures.empty in
    let P : Groups → Type 0 = λ g. (t : ℕ) → held_at (put_in c.args.piece (pieces_in g c.args.row)) t ≡ option_or (then_some (covers c.args.piece.period t) (held c.args.piece)) (held_at (pieces_in g c.args.row) t) in
    subst P (sym none) c.in_ok-put_piece.ensures.cells

pub returns-in-Some-clause-times : goal.returns-in-Some-clause-times
returns-in-Some-clause-times c =
    on_ok c.put_piece.result
    (λ (wrote : (q : RowKey) → group_in c.put_piece.new.layer.entries q ≡ cond (is_same c.args.row q) (Some (put_in c.args.piece (pieces_in c.in-Some.layer.now.entries c.args.row))) (group_in c.in-Some.layer.now.entries q)).
    λ q.
    times_set c.args.layers.now.entries (c.get_mut.follows.lender c.put_piece.new.layer).entries c.args.version c.args.row c.in-Some.layer.now c.put_piece.new.layer
    (put_in c.args.piece (pieces_in c.in-Some.layer.now.entries c.args.row)) (there c) (c.get_mut.follows.holds c.put_piece.new.layer).0 wrote q
    ∙ ap (λ (g : Groups). times (maps_of c.args.layers.now.entries) q + cond (is_same c.args.row q && is_none (group_in g c.args.row)) 1 0) (sym (was c)))
    c.put_piece.ensures.groups

pub returns-in-Some-clause-order : goal.returns-in-Some-clause-order
returns-in-Some-clause-order c =
    on_ok c.put_piece.result
    (λ _. subst (λ l. IsStrictlySortedBy nat_cmp l) (sym (keys_of-maps_of (c.get_mut.follows.lender c.put_piece.new.layer).entries)) (c.get_mut.follows.holds c.put_piece.new.layer).4)
    c.put_piece.ensures.groups

pub returns-clause-times : goal.returns-clause-times
returns-clause-times c = λ q.
    let absent : lookup (is_at (nat_cmp c.args.version)) c.args.layers.now.entries ≡ None = sym c.get_mut.ensures.value ∙ ap option_copied_mut c.in_default.is in
    let none : groups_in (maps_of c.args.layers.now.entries) c.args.version ≡ c.new-layer.result.entries =
    map_at-none c.args.layers.now.entries c.args.version absent ∙ sym c.new-layer.ensures.empty in
    let set : c.insert.new.self.entries ≡ insert_entry nat_cmp c.args.layers.now.entries c.args.version c.put_piece-2.new.layer =
    c.in_ok-insert.ensures.entries
    ∙ ap (λ (m : BTreeMap ℕ (BTreeMap RowKey (List Piece))). insert_entry nat_cmp m.entries c.args.version c.put_piece-2.new.layer) c.get_mut.follows.holds-at-none in
    times_insert c.args.layers.now.entries c.insert.new.self.entries c.args.version c.args.row c.new-layer.result.entries c.put_piece-2.new.layer
    (put_in c.args.piece (pieces_in c.new-layer.result.entries c.args.row)) absent set c.get_mut.ensures.ordered c.new-layer.ensures.empty c.in_ok-put_piece.ensures.groups q
    ∙ ap (λ (g : Groups). times (maps_of c.args.layers.now.entries) q + cond (is_same c.args.row q && is_none (group_in g c.args.row)) 1 0) (sym none)

pub returns-clause-order : goal.returns-clause-order
returns-clause-order c = subst (λ l. IsStrictlySortedBy nat_cmp l) (sym (keys_of-maps_of c.insert.new.self.entries)) c.in_ok-insert.ensures.ordered
