use Rattle.std.proofs.Common.{sym, ap, ◌∙◌, arith}
use Rattle.std.specs.Int.{w16, from_be_bytes}
use Rattle.wm_heap.proofs.Packed.{no_count, no_slots, page_slots, rest_within, slots_of-counted}
use Rattle.wm_heap.proofs.reading.slots_in.Goals as goal

pub returns-in_err-count-clause-are : goal.returns-in_err-count-clause-are
returns-in_err-count-clause-are c = rw c.from_residual.ensures (sym (no_count c.args.page.now c.in_err-count.ensures.cases))

pub returns-in_err-rest-clause-are : goal.returns-in_err-rest-clause-are
returns-in_err-rest-clause-are c =
    let parts = c.in_ok-count.ensures.cases in
    let number = c.from_be_bytes-count.ensures ∙ ap (from_be_bytes w16) parts.0 in
    rw c.from_residual-in_err-rest.ensures
    (sym (slots_of-counted c.args.page.now c.in_ok-count.bytes.now c.from_be_bytes-count.result (omega (arith, parts.2)) parts.1 number ∙ no_slots c.from_be_bytes-count.result c.in_ok-count.bytes.now c.in_err-rest.ensures))

pub overflow_sub-bytes : goal.overflow_sub-bytes
overflow_sub-bytes c = rest_within c.from_be_bytes-count.result c.in_ok-count.bytes.now c.in_ok-rest.rest.now c.in_ok-rest.ensures

pub returns-clause-are : goal.returns-clause-are
returns-clause-are c =
    let parts = c.in_ok-count.ensures.cases in
    let number = c.from_be_bytes-count.ensures ∙ ap (from_be_bytes w16) parts.0 in
    (page_slots c.args.page.now c.in_ok-count.bytes.now c.in_ok-rest.rest.now c.split_at.result.0.now c.from_be_bytes-count.result (λ i. omega (arith, c.type_inv.page i)) (omega (arith, parts.2)) parts.1 number c.in_ok-rest.ensures c.split_at.ensures.front).0

pub returns-clause-packed : goal.returns-clause-packed
returns-clause-packed c =
    let parts = c.in_ok-count.ensures.cases in
    let number = c.from_be_bytes-count.ensures ∙ ap (from_be_bytes w16) parts.0 in
    (page_slots c.args.page.now c.in_ok-count.bytes.now c.in_ok-rest.rest.now c.split_at.result.0.now c.from_be_bytes-count.result (λ i. omega (arith, c.type_inv.page i)) (omega (arith, parts.2)) parts.1 number c.in_ok-rest.ensures c.split_at.ensures.front).1
