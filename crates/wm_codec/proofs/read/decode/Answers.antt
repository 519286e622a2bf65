use Rattle.std.proofs.Common.{sym, ap, ◌∙◌, arith}
use Rattle.wm_codec.specs.Reading.{record_of}
use Rattle.wm_codec.proofs.ExactRecords.{record_takes, record_again}
use Rattle.wm_codec.proofs.read.decode.Goals as goal

pub returns-in-Ok : goal.returns-in-Ok
returns-in-Ok c = λ it. (
  λ e. record_takes c.args.bytes.now it (λ i. omega (arith, c.type_inv.bytes i)) (c.in-Ok.ensures ∙ e),
  λ is. sym c.in-Ok.ensures ∙ ap record_of is.1 ∙ record_again it is.0,
)

pub returns-in-Err-NoRecord : goal.returns-in-Err-NoRecord
returns-in-Err-NoRecord c = λ it.
    let none = rw c.in-Err-NoRecord.field-0-is at c.in-Err-NoRecord.ensures in (
      λ e. absurd cc,
      λ is. sym none ∙ ap record_of is.1 ∙ record_again it is.0,
    )
