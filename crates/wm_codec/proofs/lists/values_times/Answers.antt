use Rattle.std.proofs.Common.{arith}
use Rattle.std.proofs.lemmas.Result.{err_from_is_err_and}
use Rattle.wm_codec.specs.Format.{times}
use Rattle.wm_codec.specs.Fields.{value}
use Rattle.wm_codec.proofs.Loop.{goes_on, ends, is_done}
use Rattle.wm_codec.proofs.lists.values_times.Goals as goal

pub returns-in_err-value : goal.returns-in_err-value
returns-in_err-value c =
    let p = err_from_is_err_and c.from_residual-in_err-value.result c.from_residual-in_err-value.ensures.1 in
    rw (p.1, p.2) (ends c.in_err-value.field-0.0 value c.loop.values.items c.args.count c.loop.counter c.loop.rest.now (times value c.args.count c.args.bytes.now) c.loop-test.true c.in_err-value.ensures c.loop.invariant.0)

pub loop-preserved : goal.loop-preserved
loop-preserved c = (
  rw c.push_reserved.ensures.items (goes_on value c.loop.values.items c.args.count c.loop.counter c.loop.rest.now c.in_ok-value.value c.in_ok-value.after.now (times value c.args.count c.args.bytes.now) c.loop-test.true c.in_ok-value.ensures c.loop.invariant.0),
  (omega (arith, c.push_reserved.ensures.len, c.loop.invariant.1.0), omega (arith, c.push_reserved.ensures.capacity, c.loop.invariant.1.1)),
)

pub returns : goal.returns
returns c = rw c.from_vec.ensures (is_done value c.loop.values.items c.args.count c.loop.counter c.loop.rest.now (times value c.args.count c.args.bytes.now) c.loop-test.false c.loop.invariant.0)
