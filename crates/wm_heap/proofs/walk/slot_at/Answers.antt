use Rattle.std.proofs.Common.{sym, ap, ◌∙◌, arith}
use Rattle.std.specs.Int.{w16, w64, from_be_bytes}
use Rattle.wm_heap.proofs.Fronts.{no_length, no_record, front_slot}
use Rattle.wm_heap.proofs.walk.slot_at.Goals as goal

pub returns-in_err-len : goal.returns-in_err-len
returns-in_err-len c =
    let id = c.in_ok-id.ensures.cases in
    rw c.from_residual-in_err-len.ensures (sym (no_length c.args.bytes.now c.in_ok-id.rest.now (omega (arith, id.2)) id.1 c.in_err-len.ensures.cases))

pub returns-in_err-bytes : goal.returns-in_err-bytes
returns-in_err-bytes c =
    let id = c.in_ok-id.ensures.cases in
    let len = c.in_ok-len.ensures.cases in
    rw c.from_residual-in_err-bytes.ensures (sym (no_record c.args.bytes.now c.in_ok-id.rest.now c.in_ok-len.rest.now c.from_be_bytes.result (omega (arith, id.2)) id.1 (omega (arith, len.2)) len.1
    (c.from_be_bytes.ensures ∙ ap (from_be_bytes w16) len.0) c.in_err-bytes.ensures.cases))

pub returns : goal.returns
returns c =
    let id = c.in_ok-id.ensures.cases in
    let len = c.in_ok-len.ensures.cases in
    let record_is = c.in_ok-bytes.ensures.cases in
    sym (front_slot c.args.bytes.now c.in_ok-id.rest.now c.in_ok-len.rest.now c.in_ok-bytes.bytes.now c.in_ok-bytes.rest.now c.from_be_bytes-id.result c.from_be_bytes.result (omega (arith, id.2)) id.1 (omega (arith, len.2)) len.1
    (c.from_be_bytes.ensures ∙ ap (from_be_bytes w16) len.0) record_is.0 (c.from_be_bytes-id.ensures ∙ ap (from_be_bytes w64) id.0) record_is.1 record_is.2)
