use Rattle.std.proofs.Common.{◌-◌, length, length-append, take, drop, not, eq-eqb, ap, ◌∙◌, arith}
use Rattle.std.proofs.lemmas.Bool.{ne_eqb}
use Rattle.std.proofs.lemmas.List.{length-take, length-drop}
use Rattle.wm_heap.proofs.Packed.{read_from, dropping_none, dropping_slot, dropping_kept, dropping_cut, dropping_all}
use Rattle.wm_heap.proofs.slot.drop_slots.Goals as goal

pub loop-slot-init : goal.loop-slot-init
loop-slot-init c = dropping_none _ _ _ _ c.requires

pub overflow_sub-till : goal.overflow_sub-till
overflow_sub-till c =
    let read = read_from c.deref.result.now c.loop-slot.bytes.items c.loop-slot.from _ c.deref.ensures.value c.in-Some.ensures in
    let t = dropping_slot _ _ _ _ _ c.loop-slot.invariant _ _ read in
    omega (arith, t.0, c.len.ensures)

pub cut-requires-clause-from : goal.cut-requires-clause-from
cut-requires-clause-from c =
    let read = read_from c.deref.result.now c.loop-slot.bytes.items c.loop-slot.from _ c.deref.ensures.value c.in-Some.ensures in
    let t = dropping_slot _ _ _ _ _ c.loop-slot.invariant _ _ read in
    omega (arith, t.0, c.len.ensures)

pub loop-slot-smaller-then-found-id : goal.loop-slot-smaller-then-found-id
loop-slot-smaller-then-found-id c =
    let read = read_from c.deref.result.now c.loop-slot.bytes.items c.loop-slot.from _ c.deref.ensures.value c.in-Some.ensures in
    let t = dropping_slot _ _ _ _ _ c.loop-slot.invariant _ _ read in
    let till = c.len.result - length c.in-Some.rest.now in
    let size = ap length c.cut.ensures ∙ length-append (take c.loop-slot.from c.loop-slot.bytes.items) (drop till c.loop-slot.bytes.items) in
    omega (arith, t.0, c.len.ensures, size, length-take c.loop-slot.from c.loop-slot.bytes.items, length-drop till c.loop-slot.bytes.items)

pub loop-slot-preserved-then-found-id : goal.loop-slot-preserved-then-found-id
loop-slot-preserved-then-found-id c =
    let read = read_from c.deref.result.now c.loop-slot.bytes.items c.loop-slot.from _ c.deref.ensures.value c.in-Some.ensures in
    dropping_cut _ _ _ _ _ _ c.loop-slot.invariant _ _ read (ap not (eq-eqb c.in-Some.slot.id c.args.id c.if-found-id.true)) (c.len.result - length c.in-Some.rest.now) (omega (arith, c.len.ensures)) c.cut.ensures

pub loop-slot-smaller : goal.loop-slot-smaller
loop-slot-smaller c =
    let read = read_from c.deref.result.now c.loop-slot.bytes.items c.loop-slot.from _ c.deref.ensures.value c.in-Some.ensures in
    let t = dropping_slot _ _ _ _ _ c.loop-slot.invariant _ _ read in
    omega (arith, t.0, c.len.ensures)

pub loop-slot-preserved : goal.loop-slot-preserved
loop-slot-preserved c =
    let read = read_from c.deref.result.now c.loop-slot.bytes.items c.loop-slot.from _ c.deref.ensures.value c.in-Some.ensures in
    dropping_kept _ _ _ _ _ c.loop-slot.invariant _ _ read (ap not (ne_eqb c.in-Some.slot.id c.args.id c.if-found-id.false)) (c.len.result - length c.in-Some.rest.now) (omega (arith, c.len.ensures))

pub returns : goal.returns
returns c =
    let read = read_from c.deref.result.now c.loop-slot.bytes.items c.loop-slot.from _ c.deref.ensures.value c.in_default.ensures in
    dropping_all _ _ _ _ _ c.loop-slot.invariant read
