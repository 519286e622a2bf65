use Rattle.std.proofs.lemmas.Result.{err_from_is_err_and}
use Rattle.wm_codec.specs.Format.{times}
use Rattle.wm_codec.specs.Spelling.{column}
use Rattle.wm_codec.proofs.Loop.{goes_on, ends, is_done}
use Rattle.wm_codec.proofs.lists.columns_times.Goals as goal

pub returns-in_err-column : goal.returns-in_err-column
returns-in_err-column c =
    let p = err_from_is_err_and c.from_residual.result c.from_residual.ensures.1 in
    rw (p.1, p.2) (ends c.in_err-column.field-0.0 column c.loop.columns c.args.count c.loop.counter c.loop.rest.now (times column c.args.count c.args.bytes.now) c.loop-test.true c.in_err-column.ensures c.loop.invariant)

pub loop-preserved : goal.loop-preserved
loop-preserved c =
    rw c.in_ok-push.ensures.ok (goes_on column c.loop.columns c.args.count c.loop.counter c.loop.rest.now c.in_ok-column.column c.in_ok-column.after.now (times column c.args.count c.args.bytes.now) c.loop-test.true c.in_ok-column.ensures c.loop.invariant)

pub returns : goal.returns
returns c = is_done column c.loop.columns c.args.count c.loop.counter c.loop.rest.now (times column c.args.count c.args.bytes.now) c.loop-test.false c.loop.invariant
